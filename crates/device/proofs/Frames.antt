-- A frame carried out, put together: it is unreadable, or its step is made as a call.
use Prim.Native.Nat.{ℕ}
use native.Mathlib.Omega.{arith}
use mathlib.Core.Path.{◌≡◌, refl, ap, ap₂, sym, ◌∙◌}
use mathlib.Core.List.{List, ◌∷◌}
use mathlib.Core.Bool.{true, false}
use lib.ListN.{drop, get_or}
use Rattle.std.specs.Prelude.{Err}
use Rattle.state.specs.declared.refusal.Refusal.{Refusal}
use Rattle.state.specs.Refusals.{number}
use Rattle.state.specs.Verdict.{Reply, refused, replied, accepted, numbers_of}
use Rattle.frames.specs.declared.Step.{Step}
use Rattle.frames.specs.declared.Step.TheVariants.{Begin, Fetch, End, HostWrite, OwnWrite}
use Rattle.kinds.specs.Table.{kind_of}
use Rattle.frames.specs.Read.{step_numbers, read_says, data_of}
use Rattle.cache.specs.Runs.{Call, says, delivers}
use Rattle.device.specs.declared.Made.{Made}
use Rattle.device.specs.Step.{Device, device_of, call_of, device_after, Makes}
use Rattle.device.specs.Frame.{step_of, is_readable, taken_up, step_read, frame_call, frame_says, frame_leaves, frame_delivers, Carries}

-- the step of a step's numbers is the step
step_of_lem : (s : Step) → step_of (step_numbers s) ≡ s
unfolding step_of
step_of_lem (Begin c) = refl
step_of_lem (Fetch c a n) = refl
step_of_lem (End c) = refl
step_of_lem (HostWrite a n) = refl
step_of_lem (OwnWrite c a n) = refl

module _ (words store window dest frame : List ℕ) (why : Refusal) (is : read_says frame ≡ refused (number why)) where
  unread : is_readable frame ≡ false
  unfolding accepted
  unread = ap accepted is

  pub carries_unreadable :
      Carries (device_of words store window dest) frame (record { taken = 0; letter = 63; answer = Err why; delivered = 0 }) words store window dest
  unfolding frame_says frame_leaves frame_delivers
  carries_unreadable = record {
    taken = sym (ap (λ (r : Reply). get_or (numbers_of r) 0 0) is);
    letter = sym (rw unread);
    answer = rw unread (sym is);
    leaves = rw unread;
    within = omega arith;
    delivered = rw unread;
  }

module _ (d : Device) (frame : List ℕ) (consumed : ℕ) (step : Step) (is : read_says frame ≡ replied (consumed ∷ step_numbers step))
    (bytes : List ℕ) (data_is : bytes ≡ data_of frame consumed) where
  read : is_readable frame ≡ true
  unfolding accepted
  read = ap accepted is

  taken_is : taken_up frame ≡ consumed
  taken_is = ap (λ (r : Reply). get_or (numbers_of r) 0 0) is

  step_is : step_read frame ≡ step
  step_is = ap (λ (r : Reply). step_of (drop 1 (numbers_of r))) is ∙ step_of_lem step

  abbrev call : Call
  call = call_of step bytes d.dest d.window

  call_is : frame_call d frame ≡ call
  call_is = ap₂ (λ (s : Step) (b : List ℕ). call_of s b d.dest d.window) step_is (ap (data_of frame) taken_is ∙ sym data_is)

  pub carries_step :
      {r : Made} {letter : ℕ} {words' store' window' dest' : List ℕ} → letter ≡ (kind_of (get_or (step_numbers step) 0 0)).letter
      → Makes d call r words' store' window' dest'
      → Carries d frame (record { taken = consumed; letter = letter; answer = r.answer; delivered = r.delivered }) words' store' window' dest'
  unfolding frame_says frame_leaves frame_delivers
  carries_step l M = record {
    taken = sym taken_is;
    letter = l ∙ sym (rw read (ap (λ (q : Reply). (kind_of (get_or (numbers_of q) 1 0)).letter) is));
    answer = M.answer ∙ ap (says d.machine) (sym call_is) ∙ rw read;
    leaves = M.leaves ∙ ap (device_after d) (sym call_is) ∙ rw read;
    within = M.within;
    delivered = M.delivered ∙ ap (delivers d.machine) (sym call_is) ∙ rw read;
  }
