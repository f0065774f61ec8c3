-- The words below word i are as they shall be, and the others as they were.
use Rattle.bits.proofs.Spans.{Filled}
use Rattle.bits.proofs.fill.set_span.Given as goal

abbrev pub invariant-loop-i : goal.invariant-loop-i
invariant-loop-i l = Filled l.initial.words l.low l.high l.words l.i
