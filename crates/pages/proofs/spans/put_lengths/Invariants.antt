-- The loop's invariant: the lengths from i on stand in their places, and all else is as it was.
use Prim.Native.Nat.{ℕ, ◌-◌}
use mathlib.Core.Path.{◌≡◌}
use mathlib.Core.List.{List, map}
use Rattle.octets.specs.Lists.{overwrite}
use Rattle.state.specs.Records.{span}
use Rattle.prp.specs.Pages.{share_in}
use Rattle.pages.proofs.spans.put_lengths.Given as goal

-- the list once the lengths from i on are put
abbrev pub with_from : (list : List ℕ) (share : ℕ → ℕ) (count i : ℕ) → List ℕ
with_from list share count i = overwrite list i (map share (span i (count - i)))

abbrev pub invariant-loop-i : goal.invariant-loop-i
invariant-loop-i l = l.list ≡ with_from l.initial.list (share_in l.offset l.reach) l.count l.i
