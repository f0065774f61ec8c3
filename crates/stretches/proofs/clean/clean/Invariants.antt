-- The loop's invariant: the values of the first i words are clean.
use Prim.Native.Nat.{◌*◌}
use mathlib.Core.Path.{◌≡◌}
use mathlib.Core.Bool.{true}
use Rattle.bits.specs.Bits.{is_set}
use Rattle.stretches.specs.Values.{clean}
use Rattle.stretches.proofs.clean.clean.Given as goal

abbrev pub invariant-loop-i : goal.invariant-loop-i
invariant-loop-i l = clean (is_set l.words) l.values 0 (64 * l.i) ≡ true
