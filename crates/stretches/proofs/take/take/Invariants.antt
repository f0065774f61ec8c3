-- The loop's invariant: the first i addresses are taken.
use Prim.Native.Nat.{◌-◌, ◌≤◌}
use mathlib.Core.Path.{◌≡◌}
use Rattle.bits.specs.Bits.{is_set}
use Rattle.stretches.proofs.Taking.{passed}
use Rattle.stretches.proofs.take.take.Given as goal

abbrev pub invariant-loop-i : goal.invariant-loop-i
invariant-loop-i l = (l.i ≤ l.n) × (l.values ≡ passed (is_set l.words) l.initial.values l.window l.low l.i)

abbrev pub decreases-loop-i : goal.decreases-loop-i
decreases-loop-i l = l.n - l.i
