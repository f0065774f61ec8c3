-- Records that keep to the rules lie apart. This rests on the rules alone.
use Prim.Native.Nat.{suc}
use native.Mathlib.Omega.{arith}
use mathlib.Core.List.{[], ◌∷◌}
use mathlib.Core.Bool.{and-eq-true_iff}
use borrow.Author.Tests.{leb-true}
use Rattle.state.specs.Records.{past}
use Rattle.state.specs.State.{ascending}
use Rattle.state.specs.Claims.{RecordsApart}

pub records_apart : RecordsApart
unfolding ascending
records_apart lo [] one next behind up =
    let h = simp and-eq-true_iff at up in
    let starts = h.1.0.0.0 in
    omega (arith, leb-true)
records_apart lo (r ∷ before) one next behind up =
    let h = simp and-eq-true_iff at up in
    records_apart (suc (past r)) before one next behind h.1
