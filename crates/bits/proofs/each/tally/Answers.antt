-- A word of 64 bits has at most 64 ones.
use native.Mathlib.Omega.{arith}
use mathlib.Core.Path.{refl}
use lib.Count.{ones-le}
use Rattle.bits.proofs.each.tally.Goals as goal

pub overflow_cast-result : goal.overflow_cast-result
overflow_cast-result c = omega (arith, ones-le 64 c.args.w (omega arith))

pub returns : goal.returns
returns c = (refl, ones-le 64 c.args.w (omega arith))
