-- Each entry of a journal is of a frame that was carried out, that a call refused, or that was unreadable and ended the run.
use Prim.Native.Nat.{ℕ, zero, suc, ◌+◌}
use native.Mathlib.Omega.{arith}
use mathlib.Core.Path.{◌≡◌, refl}
use mathlib.Core.List.{List, [], ◌∷◌}
use mathlib.Core.Bool.{Bool, true, false, cond}
use lib.ListN.{length, drop}
use Rattle.octets.specs.Lists.{count}
use Rattle.state.specs.Verdict.{accepted}
use Rattle.device.specs.Step.{Device}
use Rattle.device.specs.Frame.{is_readable, taken_up, frame_says, frame_leaves}
use Rattle.journal.specs.Run.{Entry, entries_in, was_carried, was_refused, ends_early}

abbrev told : List Entry → ℕ
told es = count was_carried es + count was_refused es + cond (ends_early es) 1 0

pub all_told : (steps : ℕ) (d : Device) (input : List ℕ) → told (entries_in steps d input) ≡ length (entries_in steps d input)
unfolding entries_in count ends_early
all_told zero d input = refl
all_told (suc steps) d [] = refl
all_told (suc steps) d (x ∷ xs) = go (is_readable frame) refl (accepted (frame_says d frame)) refl (all_told steps (frame_leaves d frame) rest)
  where
    frame : List ℕ
    frame = x ∷ xs

    rest : List ℕ
    rest = drop (taken_up (x ∷ xs)) (x ∷ xs)

    go : (r : Bool) → is_readable (x ∷ xs) ≡ r → (a : Bool) → accepted (frame_says d (x ∷ xs)) ≡ a
        → told (entries_in steps (frame_leaves d (x ∷ xs)) rest) ≡ length (entries_in steps (frame_leaves d (x ∷ xs)) rest)
        → told (entries_in (suc steps) d (x ∷ xs)) ≡ length (entries_in (suc steps) d (x ∷ xs))
    go true e true f ih = rw (e, f) (omega arith)
    go true e false f ih = rw (e, f) (omega arith)
    go false e a f ih = rw e (omega arith)
