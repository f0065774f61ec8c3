-- The loop's invariant: the entries from i on stand in the list behind place i, and all else is as it was.
use Prim.Native.Nat.{ℕ, suc, ◌-◌, ◌*◌}
use mathlib.Core.Path.{◌≡◌}
use mathlib.Core.List.{List}
use lib.ListN.{drop}
use Rattle.octets.specs.Lists.{overwrite}
use Rattle.prp.specs.Entries.{entries_in}
use Rattle.pages.proofs.spans.put_entries.Given as goal

-- the list once the entries from i on are put
abbrev pub with_from : (list bytes : List ℕ) (count i : ℕ) → List ℕ
with_from list bytes count i = overwrite list (suc i) (entries_in (count - i) (drop (8 * i) bytes))

abbrev pub invariant-loop-i : goal.invariant-loop-i
invariant-loop-i l = l.list ≡ with_from l.initial.list l.bytes l.count l.i
