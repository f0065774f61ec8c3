-- What a test keeps of records that ascend.
use Prim.Native.Nat.{ℕ, suc, ◌≤◌, ◌<◌}
use native.Mathlib.Omega.{arith}
use mathlib.Core.Path.{◌≡◌, refl, ap}
use mathlib.Core.List.{List, [], ◌∷◌, ◌++◌}
use mathlib.Core.Bool.{Bool, true, false}
use Rattle.state.specs.declared.Record.{Record}
use Rattle.state.specs.Records.{past, keep}
use Rattle.state.specs.State.{ascending}
use Rattle.state.proofs.Cases.{ascends}
use Rattle.state.proofs.Places.{middle_above}

module _ (p : Record → Bool) where
  -- a record that passes the test, and one that does not
  pub keep_yes : (r : Record) (rs : List Record) → p r ≡ true → keep p (r ∷ rs) ≡ r ∷ keep p rs
  unfolding keep
  keep_yes r rs h = rw h

  pub keep_no : (r : Record) (rs : List Record) → p r ≡ false → keep p (r ∷ rs) ≡ keep p rs
  unfolding keep
  keep_no r rs h = rw h

  -- a test that every record from lo on passes, or none
  pub keep_all : (lo : ℕ) (rs : List Record) → ascending lo rs ≡ true → ((r : Record) → lo ≤ r.start → p r ≡ true) → keep p rs ≡ rs
  unfolding keep
  keep_all lo [] up yes' = refl
  keep_all lo (r ∷ rs) up yes' =
      let u = ascends lo r rs up in
      rw (yes' r u.from, keep_all (suc (past r)) rs u.rest (λ t k. yes' t (omega arith)))

  pub keep_none : (lo : ℕ) (rs : List Record) → ascending lo rs ≡ true → ((r : Record) → lo ≤ r.start → p r ≡ false) → keep p rs ≡ []
  unfolding keep
  keep_none lo [] up no' = refl
  keep_none lo (r ∷ rs) up no' =
      let u = ascends lo r rs up in
      rw (no' r u.from) (keep_none (suc (past r)) rs u.rest (λ t k. no' t (omega arith)))

  -- a test that every record before another passes, or none
  pub keep_front :
      (lo : ℕ) (front : List Record) (one : Record) (rest : List Record) → ascending lo (front ++ one ∷ rest) ≡ true
      → ((r : Record) → past r < one.start → p r ≡ true) → keep p (front ++ one ∷ rest) ≡ front ++ keep p (one ∷ rest)
  unfolding keep
  keep_front lo [] one rest up yes' = refl
  keep_front lo (r ∷ front) one rest up yes' =
      let u = ascends lo r (front ++ one ∷ rest) up in
      let below = middle_above (suc (past r)) front one rest u.rest in
      rw (yes' r below) (ap (λ (l : List Record). r ∷ l) (keep_front (suc (past r)) front one rest u.rest yes'))

  pub drop_front :
      (lo : ℕ) (front : List Record) (one : Record) (rest : List Record) → ascending lo (front ++ one ∷ rest) ≡ true
      → ((r : Record) → past r < one.start → p r ≡ false) → keep p (front ++ one ∷ rest) ≡ keep p (one ∷ rest)
  unfolding keep
  drop_front lo [] one rest up no' = refl
  drop_front lo (r ∷ front) one rest up no' =
      let u = ascends lo r (front ++ one ∷ rest) up in
      let below = middle_above (suc (past r)) front one rest u.rest in
      rw (no' r below) (drop_front (suc (past r)) front one rest u.rest no')
