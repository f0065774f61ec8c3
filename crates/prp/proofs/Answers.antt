-- Answers that are given one after the other: an accepted one has all its parts accepted, and is its last part.
use Prim.Native.Nat.{ℕ}
use mathlib.Core.Path.{◌≡◌, refl, sym}
use mathlib.Core.List.{List}
use mathlib.Core.Bool.{true, false, false≢true}
use Rattle.state.specs.Verdict.{Reply, refused, replied, accepted}
use Rattle.prp.specs.Entries.{◌then◌}

-- of an accepted answer each part is accepted, and the last is the answer
module _ (s : Reply) where
  pub then_first : (r : Reply) → accepted (r then s) ≡ true → accepted r ≡ true
  unfolding accepted
  then_first (refused k) e = e
  then_first (replied ns) e = refl

  pub then_goes_on : (r : Reply) → accepted r ≡ true → (r then s) ≡ s
  unfolding accepted
  then_goes_on (refused k) e = absurd (false≢true e)
  then_goes_on (replied ns) e = refl

  pub then_second : (r : Reply) → accepted (r then s) ≡ true → accepted s ≡ true
  unfolding accepted
  then_second (refused k) e = absurd (false≢true e)
  then_second (replied ns) e = e

  -- and where a part is refused, so is the answer
  pub then_refused : (r : Reply) → accepted r ≡ false → (r then s) ≡ r
  unfolding accepted
  then_refused (refused k) e = refl
  then_refused (replied ns) e = absurd (false≢true (sym e))

  pub then_stops : (r : Reply) → accepted r ≡ false → accepted (r then s) ≡ false
  unfolding accepted
  then_stops (refused k) e = refl
  then_stops (replied ns) e = absurd (false≢true (sym e))

-- three answers, grouped either way; and a reply behind an answer leaves open only whether that is accepted
pub then_assoc : (q r s : Reply) → ((q then r) then s) ≡ (q then r then s)
then_assoc (refused k) r s = refl
then_assoc (replied ns) r s = refl

pub then_replies : (r : Reply) (ns : List ℕ) → accepted (r then replied ns) ≡ accepted r
unfolding accepted
then_replies (refused k) ns = refl
then_replies (replied ms) ns = refl

-- what follows an accepted answer decides what both come to
pub then_same : (r s t : Reply) → (accepted r ≡ true → s ≡ t) → (r then s) ≡ (r then t)
unfolding accepted
then_same (refused k) s t h = refl
then_same (replied ns) s t h = h refl
