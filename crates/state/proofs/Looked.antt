-- How many records a search looks at (F-6): its bound, the number itself for records that ascend, and the search step by step.
use Prim.Native.Nat.{ℕ, zero, suc, ◌+◌, ◌≤◌, ◌<◌, min}
use native.Mathlib.Omega.{arith}
use mathlib.Core.Path.{◌≡◌, refl, ap, ◌∙◌}
use mathlib.Core.List.{List, [], ◌∷◌}
use mathlib.Core.Bool.{Bool, true, false}
use lib.Dec.{ltb, leb}
use lib.ListN.{length}
use borrow.Author.Tests.{ltb-true, ltb-false, lt-ltb, le-ltb, le-leb, lt-leb}
use Rattle.state.specs.declared.Record.{Record}
use Rattle.state.specs.Records.{past, looked_up_to, looked, starting_up_to}
use Rattle.state.specs.State.{ascending}
use Rattle.state.specs.Claims.{LookedBound, LookedExactly}
use Rattle.state.proofs.Cases.{ascends}
use Rattle.state.proofs.Keep.{keep_yes, keep_no, keep_none}

-- the side on which a record starts, of the address at which a search ends
data Starts (e : ℕ) (r : Record) : Type 0 where
  above : e < r.start → Starts e r
  up_to : r.start ≤ e → Starts e r

starts : (e : ℕ) (r : Record) → Starts e r
starts e r = go (ltb e r.start) refl
  where
    go : (b : Bool) → ltb e r.start ≡ b → Starts e r
    go true h = above (ltb-true e r.start h)
    go false h = up_to (ltb-false e r.start h)

module _ (e : ℕ) where
  -- which records start at or below e: one that does, and none behind one that does not
  abbrev is_up_to : Record → Bool
  is_up_to r = leb r.start e

  counted_up : (r : Record) (rs : List Record) → r.start ≤ e → starting_up_to e (r ∷ rs) ≡ suc (starting_up_to e rs)
  counted_up r rs h = ap length (keep_yes is_up_to r rs (le-leb r.start e h))

  counted_none : (r : Record) (rs : List Record) → ascending (suc (past r)) rs ≡ true → e < r.start → starting_up_to e (r ∷ rs) ≡ 0
  counted_none r rs next h =
      ap length (keep_no is_up_to r rs (lt-leb r.start e h) ∙ keep_none is_up_to (suc (past r)) rs next (λ t from. lt-leb t.start e (omega arith)))

  up_to_bound : (rs : List Record) → looked_up_to e rs ≤ suc (starting_up_to e rs)
  unfolding looked_up_to
  up_to_bound [] = omega arith
  up_to_bound (r ∷ rs) = go (starts e r) (up_to_bound rs)
    where
      go : Starts e r → looked_up_to e rs ≤ suc (starting_up_to e rs) → looked_up_to e (r ∷ rs) ≤ suc (starting_up_to e (r ∷ rs))
      go (above h) rest = rw (lt-ltb e r.start h) (omega arith)
      go (up_to h) rest = rw (le-ltb e r.start h) (omega (arith, counted_up r rs h))

  up_to_exactly : (lo : ℕ) (rs : List Record) → ascending lo rs ≡ true → looked_up_to e rs ≡ min (suc (starting_up_to e rs)) (length rs)
  unfolding looked_up_to
  up_to_exactly lo [] up = omega arith
  up_to_exactly lo (r ∷ rs) up = let u = ascends lo r rs up in go (starts e r) u.rest (up_to_exactly (suc (past r)) rs u.rest)
    where
      go : Starts e r → ascending (suc (past r)) rs ≡ true → looked_up_to e rs ≡ min (suc (starting_up_to e rs)) (length rs)
          → looked_up_to e (r ∷ rs) ≡ min (suc (starting_up_to e (r ∷ rs))) (length (r ∷ rs))
      go (above h) next rest = rw (lt-ltb e r.start h) (omega (arith, counted_none r rs next h))
      go (up_to h) next rest = rw (le-ltb e r.start h) (omega (arith, counted_up r rs h))

pub looked_bound : LookedBound
unfolding looked
looked_bound rs a zero = omega arith
looked_bound rs a (suc n) = up_to_bound (a + suc n) rs

pub looked_exactly : LookedExactly
unfolding looked
looked_exactly rs a zero up = record { some = λ h. absurd (omega arith); none = λ h. refl }
looked_exactly rs a (suc n) up = record { some = λ h. up_to_exactly (a + suc n) 0 rs up; none = λ h. absurd (omega arith) }

-- the record at which the search stops is looked at, and so is one that it passes
module _ (e : ℕ) (r : Record) (rs : List Record) where
  pub looked_stops : e < r.start → looked_up_to e (r ∷ rs) ≡ 1
  unfolding looked_up_to
  looked_stops h = rw (lt-ltb e r.start h)

  pub looked_on : r.start ≤ e → looked_up_to e (r ∷ rs) ≡ suc (looked_up_to e rs)
  unfolding looked_up_to
  looked_on h = rw (le-ltb e r.start h)

-- and no more are looked at than there are
up_to_few : (e : ℕ) (rs : List Record) → looked_up_to e rs ≤ length rs
unfolding looked_up_to
up_to_few e [] = omega arith
up_to_few e (r ∷ rs) = go (starts e r) (up_to_few e rs)
  where
    go : Starts e r → looked_up_to e rs ≤ length rs → looked_up_to e (r ∷ rs) ≤ length (r ∷ rs)
    go (above h) rest = omega (arith, looked_stops e r rs h)
    go (up_to h) rest = omega (arith, looked_on e r rs h)

pub looked_few : (rs : List Record) (a n : ℕ) → looked rs a n ≤ length rs
unfolding looked
looked_few rs a zero = omega arith
looked_few rs a (suc n) = up_to_few (a + suc n) rs
