-- The loop's invariant: the first x values are clean.
use Prim.Native.Nat.{◌-◌, ◌≤◌}
use mathlib.Core.Path.{◌≡◌}
use mathlib.Core.Bool.{true}
use Rattle.bits.specs.Bits.{bit}
use Rattle.stretches.specs.Values.{clean}
use Rattle.stretches.proofs.clean.clean_stretches.Given as goal

abbrev pub invariant-loop-x : goal.invariant-loop-x
invariant-loop-x l = (l.x ≤ 64) × (clean (bit l.bits) l.values 0 l.x ≡ true)

abbrev pub decreases-loop-x : goal.decreases-loop-x
decreases-loop-x l = 64 - l.x
