-- Of any test whose words these are with the bits put to them, the walk has come to word i where it had come to the first.
use Prim.Native.Nat.{ℕ}
use mathlib.Core.List.{List}
use Rattle.bits.specs.Walk.{BitsPut, Walking, WalksOn}
use Rattle.bits.proofs.walk.walk_on.Given as goal

abbrev pub invariant-loop-i : goal.invariant-loop-i
invariant-loop-i g l =
    ((both : List ℕ) → BitsPut (goal.F-post g l.added) l.words l.initial.i l.i both
    → WalksOn both l.initial.i l.i (record { n = l.initial.n; carry = l.initial.carry }) (record { n = l.n; carry = l.carry }))
    × Walking (record { n = l.n; carry = l.carry }) l.i
