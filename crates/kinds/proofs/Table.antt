-- The table of kinds: a law that takes one computation over a whole column to each of its entries, and that a kind of the code has a row.
use Prim.Native.Nat.{ℕ, zero, suc, ◌+◌, ◌<◌}
use native.Mathlib.Omega.{arith}
use native.Mathlib.Nat.{add-zero, zero-add, add-suc, suc-add, le_of_suc-le-suc, not-suc-le-zero}
use mathlib.Core.Path.{◌≡◌, ◌∙◌, refl, ap, sym}
use mathlib.Core.Bool.{true}
use mathlib.Core.List.{List, [], ◌∷◌}
use lib.ListN.{get_or, length}
use Rattle.kinds.specs.declared.Kind.{Kind}
use Rattle.kinds.specs.declared.Kind.TheVariants.{Begin, Fetch, End, HostWrite, OwnWrite}
use Rattle.kinds.specs.Table.{Row, kinds, is_kind, kind_of, number}

module _ {A : Type 0} (rule : ℕ → A) where
  -- what the rule gives at n places, counted from i
  abbrev pub tabulate : (i n : ℕ) → List A
  tabulate i zero = []
  tabulate i (suc n) = rule i ∷ tabulate (suc i) n

  from : (i n k : ℕ) (d : A) → k < n → get_or (tabulate i n) k d ≡ rule (i + k)
  from i zero k d h = absurd (not-suc-le-zero h)
  from i (suc n) zero d h = rw add-zero
  from i (suc n) (suc k) d h = from (suc i) n k d (le_of_suc-le-suc h) ∙ ap rule (suc-add i k ∙ sym (add-suc i k))

  -- A table that computes to what the rule gives at its n places follows the rule at each of them.
  pub at : (n k : ℕ) (d : A) → k < n → get_or (tabulate 0 n) k d ≡ rule k
  at n k d h = from 0 n k d h ∙ ap rule (zero-add k)

-- a kind of the code has a row
pub known : (k : Kind) → is_kind (number k) ≡ true
known Begin = refl
known Fetch = refl
known End = refl
known HostWrite = refl
known OwnWrite = refl

below : (k : Kind) → number k < length kinds
below Begin = omega arith
below Fetch = omega arith
below End = omega arith
below HostWrite = omega arith
below OwnWrite = omega arith

-- A column that computes to what the rows of the table say, in their order, says at a kind's place what the kind's row says.
pub column : {A : Type 0} (says : Row → A) (k : Kind) (place : ℕ) (d : A) → place ≡ number k → get_or (tabulate (λ j. says (kind_of j)) 0 (length kinds)) place d ≡ says (kind_of (number k))
column says k place d e = rw e (at (λ j. says (kind_of j)) (length kinds) (number k) d (below k))
