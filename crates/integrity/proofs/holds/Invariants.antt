-- Whether the commands still to come hold together is whether all of them do.
use Rattle.std.proofs.Common.{◌≡◌, drop}
use Rattle.octets.specs.Lists.{all}
use Rattle.state.specs.State.{command_holds, holds}
use Rattle.state.specs.Words.{state_of}
use Rattle.words.proofs.StateWords.{commands_in}
use Rattle.integrity.proofs.holds.Given as goal

abbrev pub invariant-loop-c : goal.invariant-loop-c
invariant-loop-c l = all command_holds (drop l.c (commands_in l.state)) ≡ holds (state_of l.state)
