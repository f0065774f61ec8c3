-- The addresses of the span that are set and lie below word i are counted.
use Prim.Native.Nat.{◌*◌}
use mathlib.Core.Path.{◌≡◌}
use Rattle.octets.specs.Lists.{count}
use Rattle.state.specs.Records.{span}
use Rattle.bits.proofs.Spans.{inner}
use Rattle.bits.proofs.count.count_span.Given as goal

abbrev pub invariant-loop-i : goal.invariant-loop-i
invariant-loop-i l = l.n ≡ count (inner l.words l.low l.high) (span 0 (64 * l.i))
