-- The lowest bit tells which of the two counts is that of the stretch.
use Prim.Native.Nat.{◌-◌, ◌^◌}
use native.Mathlib.Omega.{arith}
use lib.Count.{trailing_le}
use Rattle.stretches.proofs.Stretches.{free_stretch, held_stretch}
use Rattle.stretches.proofs.stretch.alike.Goals as goal

pub returns-then-bits-eq1 : goal.returns-then-bits-eq1
returns-then-bits-eq1 c =
    let a = c.args in
    held_stretch a.bits a.n c.min.result (omega arith) c.if-bits-eq1.true c.min.ensures

pub returns : goal.returns
returns c =
    let a = c.args in
    free_stretch a.bits a.n c.min-2.result c.if-bits-eq1.false c.min-2.ensures

pub overflow_cast-bits : goal.overflow_cast-bits
overflow_cast-bits c = omega (arith, trailing_le 64 (2 ^ 64 - 1 - c.args.bits))

pub overflow_cast-bits-2 : goal.overflow_cast-bits-2
overflow_cast-bits-2 c = omega (arith, trailing_le 64 c.args.bits)
