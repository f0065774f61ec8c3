use Rattle.state.specs.State.{records_in}
use Rattle.state.specs.Words.{command_in}
use Rattle.store.proofs.Filling.{Filling}
use Rattle.store.proofs.hold.fill.Given as goal

abbrev pub invariant-loop-k : goal.invariant-loop-k
invariant-loop-k l = Filling (records_in (command_in l.words)) l.initial.part l.base l.source l.m.first l.m.last l.m.low l.m.high l.k l.gap l.old l.top l.part
