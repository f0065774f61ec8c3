-- The search for the records that meet a span, step by step.
use Prim.Native.Nat.{ℕ, suc, ◌+◌, ◌-◌, ◌≤◌, ◌<◌}
use native.Mathlib.Omega.{arith}
use mathlib.Core.Path.{◌≡◌}
use mathlib.Core.List.{List, ◌∷◌}
use lib.ListN.{get_or}
use borrow.Author.Tests.{lt-ltb, le-ltb, eq-eqb, ne_eqb}
use Rattle.state.specs.declared.Record.{Record}
use Rattle.state.specs.declared.Meeting.{Meeting}
use Rattle.state.specs.Records.{past}
use Rattle.state.specs.State.{no_record}
use Rattle.state.specs.Join.{moved, widened, passed, searched, union_of, entry_after}

-- a record before the span, and one that meets it
module _ (a : ℕ) (r : Record) (m : Meeting) where
  pub passed_before : past r < a → passed a r m ≡ moved r m
  unfolding passed
  passed_before h = rw (lt-ltb (past r) a h)

  pub passed_meets : a ≤ past r → passed a r m ≡ widened r m
  unfolding passed
  passed_meets h = rw (le-ltb (past r) a h)

-- the search stops, or goes on
module _ (a e : ℕ) (r : Record) (rs : List Record) (m : Meeting) where
  pub search_stops : e < r.start → searched a e (r ∷ rs) m ≡ m
  unfolding searched
  search_stops h = rw (lt-ltb e r.start h, searched)

  pub search_on : r.start ≤ e → searched a e (r ∷ rs) m ≡ searched a e rs (passed a r m)
  unfolding searched
  search_on h = rw (le-ltb e r.start h, searched)

-- an entry after the union is put in: before it, the union itself, or behind it
module _ (entries : List Record) (m : Meeting) (k : ℕ) where
  pub entry_before : k < m.first → entry_after entries m k ≡ get_or entries k no_record
  unfolding entry_after
  entry_before h = rw (lt-ltb k m.first h)

  pub entry_union : k ≡ m.first → entry_after entries m k ≡ union_of m
  unfolding entry_after
  entry_union h = rw (le-ltb k m.first (omega arith), eq-eqb k m.first h)

  pub entry_behind : m.first < k → entry_after entries m k ≡ get_or entries (m.last + (k - suc m.first)) no_record
  unfolding entry_after
  entry_behind h = rw (le-ltb k m.first (omega arith), ne_eqb k m.first (omega arith))
