-- Every line of the log fits: what is printed of an answer is short, and no call delivers more than 4,096 bytes.
use Prim.Native.Nat.{ℕ, ◌≤◌}
use native.Mathlib.Omega.{arith}
use mathlib.Core.Path.{◌≡◌, refl, sym, ◌∙◌}
use mathlib.Core.List.{List, [], ◌∷◌}
use mathlib.Core.Bool.{Bool, true, false, false≢true, cond}
use lib.Dec.{ltb}
use lib.ListN.{length, take, length-take}
use borrow.Author.Tests.{ltb-true, ltb-false}
use Rattle.octets.specs.Lists.{all}
use Rattle.octets.proofs.Lists.{and_left, and_right}
use Rattle.state.specs.State.{State, command_of, records_of}
use Rattle.state.specs.Verdict.{replied, accepted, without_looked, Check, verdict}
use Rattle.state.proofs.Verdict.{none_applies}
use Rattle.state.proofs.Commands.{kept}
use Rattle.state.proofs.Places.{counts_fill}
use Rattle.frames.specs.declared.Step.{Step}
use Rattle.frames.specs.declared.Step.TheVariants.{Begin, Fetch, End, HostWrite, OwnWrite}
use Rattle.frames.specs.Read.{fields_say, read_says, data_of}
use Rattle.cache.specs.Begin.{begin_says}
use Rattle.cache.specs.Fetch.{fetch_says}
use Rattle.cache.specs.End.{end_says}
use Rattle.cache.specs.HostWrite.{host_says}
use Rattle.cache.specs.OwnWrite.{own_says}
use Rattle.cache.specs.Runs.{Call, begin, fetch, end, host_write, own_write, show, Machine, says, dest_after, wanted, delivers}
use Rattle.cache.proofs.Accepted.{ended, fetched, own_fetched}
use Rattle.loglines.proofs.Lengths.{Short, refusal, none, one, two, line_short}
use Rattle.device.specs.Step.{Device, call_of}
use Rattle.device.specs.Frame.{is_readable, taken_up, step_read, letter_of, frame_call, frame_says, frame_delivers}
use Rattle.journal.specs.Claims.{LineFits}

-- what is printed of a verdict is short if the numbers of its checks are, and so is what is printed of its reply where it is accepted
verdict_short :
    (cs : List Check) (ns : List ℕ) → all (λ c. ltb c.number 100) cs ≡ true → (accepted (verdict cs (replied ns)) ≡ true → Short (replied (take 2 ns)))
    → Short (without_looked (verdict cs (replied ns)))
unfolding verdict accepted all
verdict_short [] ns low reply = reply refl
verdict_short (c ∷ cs) ns low reply = go c.applies refl (verdict_short cs ns (and_right (ltb c.number 100) _ low))
  where
    go : (b : Bool) → c.applies ≡ b
        → ((accepted (verdict cs (replied ns)) ≡ true → Short (replied (take 2 ns))) → Short (without_looked (verdict cs (replied ns))))
        → Short (without_looked (verdict (c ∷ cs) (replied ns)))
    go true e rest = rw e (refusal (ltb-true _ _ (and_left (ltb c.number 100) _ low)))
    go false e rest = rw e (rest (λ a. reply (rw e a)))

-- an accepted fetch has 4,096 bytes at most
fetched_size : (s : State) (store_len window_len dest_len c a n : ℕ) → accepted (fetch_says s store_len window_len dest_len c a n) ≡ true → n ≤ 4096
unfolding fetch_says
fetched_size s store_len window_len dest_len c a n e = ltb-false _ _ (none_applies _ _ e).0

-- what the call of a step says
says_short : (m : Machine) (p : Step) (bytes dest window : List ℕ) → Short (without_looked (says m (call_of p bytes dest window)))
unfolding begin_says fetch_says end_says host_says own_says all
says_short m (Begin c) bytes dest window = verdict_short _ _ refl (λ e. none)
says_short m (Fetch c a n) bytes dest window =
    verdict_short _ _ refl (λ e.
    let F = fetched m.state (length m.store) (length window) (length dest) c a n e in
    let few = fetched_size m.state (length m.store) (length window) (length dest) c a n e in
    two (omega (arith, F.room)) (omega (arith, few, counts_fill (records_of m.state c) a n)))
says_short m (End c) bytes dest window =
    verdict_short _ _ refl (λ e.
    let p = command_of m.state c in
    let K = kept m.state c (ended m.state (length m.store) c e).whole in
    two (omega (arith, K.few, length-take p.count p.records)) (omega (arith, K.small)))
says_short m (HostWrite a n) bytes dest window = verdict_short _ _ refl (λ e. one (omega (arith, ltb-false 4096 (length bytes) (none_applies _ _ e).0)))
says_short m (OwnWrite c a n) bytes dest window =
    verdict_short _ _ refl (λ e.
    let F = own_fetched m.state (length m.store) (length window) c a (length bytes) e in
    two (omega (arith, ltb-false 4096 (length bytes) (none_applies _ _ e).0)) (omega (arith, F.room)))

-- an accepted call asks for 4,096 bytes at most, and so delivers no more
wanted_size : (m : Machine) (p : Call) → accepted (says m p) ≡ true → wanted p ≤ 4096
wanted_size m (begin c) e = omega arith
wanted_size m (fetch c a n dest window) e = fetched_size m.state (length m.store) (length window) (length dest) c a n e
wanted_size m (end c) e = omega arith
wanted_size m (host_write a bytes window) e = omega arith
wanted_size m (own_write c a bytes window) e = omega arith
wanted_size m (show c i) e = omega arith

delivers_size : (m : Machine) (p : Call) → length (delivers m p) ≤ 4096
delivers_size m p = go (accepted (says m p)) refl
  where
    go : (b : Bool) → accepted (says m p) ≡ b → length (cond b (take (wanted p) (dest_after m p)) []) ≤ 4096
    go true e = omega (arith, wanted_size m p e, length-take (wanted p) (dest_after m p))
    go false e = omega arith

-- what the reader says of a frame that it refuses
unread_short : (frame : List ℕ) → is_readable frame ≡ false → Short (without_looked (read_says frame))
unfolding read_says fields_say all
unread_short frame e = verdict_short _ _ refl (λ a. absurd (false≢true (sym e ∙ a)))

module _ (d : Device) (frame : List ℕ) where
  frame_short : Short (without_looked (frame_says d frame))
  unfolding frame_says
  frame_short = go (is_readable frame) refl
    where
      go : (b : Bool) → is_readable frame ≡ b → Short (without_looked (cond b (says d.machine (frame_call d frame)) (read_says frame)))
      go true e = says_short d.machine (step_read frame) (data_of frame (taken_up frame)) d.dest d.window
      go false e = unread_short frame e

  frame_size_lem : length (frame_delivers d frame) ≤ 4096
  unfolding frame_delivers
  frame_size_lem = go (is_readable frame)
    where
      go : (b : Bool) → length (cond b (delivers d.machine (frame_call d frame)) []) ≤ 4096
      go true = delivers_size d.machine (frame_call d frame)
      go false = omega arith

pub line_fits : LineFits
line_fits d frame number below =
    line_short (letter_of frame) (frame_delivers d frame) (frame_size_lem d frame) number (frame_says d frame) below (frame_short d frame)
