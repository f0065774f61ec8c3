-- The loop's invariant: what the entries from i on say, all of them say.
use Prim.Native.Nat.{ℕ, ◌-◌, ◌*◌}
use mathlib.Core.Path.{◌≡◌}
use mathlib.Core.List.{List}
use mathlib.Core.Bool.{Bool}
use lib.ListN.{drop}
use Rattle.octets.specs.Lists.{all}
use Rattle.prp.specs.Pages.{page_size}
use Rattle.prp.specs.Entries.{entries_in, is_multiple}
use Rattle.pages.proofs.entries.all_pages.Given as goal

-- what the entries from i on say
abbrev pub from : List ℕ → (count i : ℕ) → Bool
from bytes count i = all (is_multiple page_size) (entries_in (count - i) (drop (8 * i) bytes))

abbrev pub invariant-loop-i : goal.invariant-loop-i
invariant-loop-i l = from l.bytes l.count l.i ≡ all (is_multiple page_size) (entries_in l.count l.bytes)
