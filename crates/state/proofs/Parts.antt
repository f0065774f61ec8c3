-- The three kinds of records: those before the span from a to e, those that share a byte with it or touch it, and those behind it.
use Prim.Native.Nat.{ℕ, suc, ◌≤◌, ◌<◌}
use native.Mathlib.Omega.{arith}
use mathlib.Core.Path.{◌≡◌, refl, ap, ◌∙◌}
use mathlib.Core.List.{List, [], ◌∷◌, ◌++◌}
use mathlib.Core.Bool.{true, ◌&&◌, and-false}
use lib.Dec.{ltb, leb}
use borrow.Author.Tests.{lt-ltb, le-ltb, le-leb, lt-leb}
use Rattle.state.specs.declared.Record.{Record}
use Rattle.state.specs.Records.{past, keep, earlier, later}
use Rattle.state.specs.State.{ascending}
use Rattle.state.proofs.Cases.{Side, before, meets, after, side, Ascends, ascends, ascending_from}
use Rattle.state.proofs.Keep.{keep_all, keep_none}

abbrev pub met : ℕ → ℕ → List Record → List Record
met a e = keep (λ r. leb r.start e && leb a (past r))

-- which of the records are of each kind
pub record Parts (a e : ℕ) (rs early middle late : List Record) : Type 0 where
  pub before : earlier a rs ≡ early
  pub meeting : met a e rs ≡ middle
  pub behind : later e rs ≡ late

module _ (a e : ℕ) (wide : a ≤ e) where
  -- a first record before the span, and one that meets it
  pub first_before : (r : Record) (rs : List Record) → past r < a → Parts a e (r ∷ rs) (r ∷ earlier a rs) (met a e rs) (later e rs)
  unfolding keep
  first_before r rs k =
      record { before = rw (lt-ltb (past r) a k); meeting = rw (lt-leb a (past r) k, and-false); behind = rw (le-ltb e r.start (omega arith)) }

  pub first_meets : (r : Record) (rs : List Record) → r.start ≤ e → a ≤ past r → Parts a e (r ∷ rs) (earlier a rs) (r ∷ met a e rs) (later e rs)
  unfolding keep
  first_meets r rs j k =
      record { before = rw (le-ltb (past r) a k); meeting = rw (le-leb r.start e j, le-leb a (past r) k); behind = rw (le-ltb e r.start j) }

  -- a first record behind the span
  pub first_behind : (r : Record) (rs : List Record) → e < r.start → Parts a e (r ∷ rs) (earlier a rs) (met a e rs) (r ∷ later e rs)
  unfolding keep
  first_behind r rs k =
      record { before = rw (le-ltb (past r) a (omega arith)); meeting = rw (lt-leb r.start e k); behind = rw (lt-ltb e r.start k) }

  -- records that begin behind the span's start do not end before it, and those that begin behind its end are all later
  none_before : (lo : ℕ) (rs : List Record) → ascending lo rs ≡ true → a ≤ lo → earlier a rs ≡ []
  none_before lo rs up k = keep_none (λ r. ltb (past r) a) lo rs up (λ r j. le-ltb (past r) a (omega arith))

  pub all_behind : (lo : ℕ) (rs : List Record) → ascending lo rs ≡ true → e < lo → Parts a e rs [] [] rs
  all_behind lo rs up k = record {
    before = none_before lo rs up (omega arith);
    meeting = keep_none (λ r. leb r.start e && leb a (past r)) lo rs up (λ r j. rw (lt-leb r.start e (omega arith)));
    behind = keep_all (λ r. ltb e r.start) lo rs up (λ r j. lt-ltb e r.start (omega arith));
  }

  -- records that ascend are those before the span, those that meet it and those behind it, in this order
  pub in_order_lem : (lo : ℕ) (rs : List Record) → ascending lo rs ≡ true → rs ≡ earlier a rs ++ (met a e rs ++ later e rs)
  in_order_lem lo [] up = unfold keep in refl
  in_order_lem lo (r ∷ rs) up = let u = ascends lo r rs up in go u (side a e r) (in_order_lem (suc (past r)) rs u.rest)
    where
      go : Ascends lo r rs → Side a e r → rs ≡ earlier a rs ++ (met a e rs ++ later e rs)
          → r ∷ rs ≡ earlier a (r ∷ rs) ++ (met a e (r ∷ rs) ++ later e (r ∷ rs))
      go u (before k) ih = let P = first_before r rs k in rw (P.before, P.meeting, P.behind) (ap (λ (l : List Record). r ∷ l) ih)
      go u (meets j k) ih =
          let P = first_meets r rs j k in
          let none = none_before (suc (past r)) rs u.rest (omega arith) in
          rw (P.before, P.meeting, P.behind, none) (ap (λ (l : List Record). r ∷ l) (ih ∙ rw none))
      go u (after k) ih =
          let P = all_behind r.start (r ∷ rs) (ascending_from r.start u (omega arith)) k in
          rw (P.before, P.meeting, P.behind)
