-- The loop's invariant: the frames before `rest` are carried out and their log is put. The measure is the bytes left.
use lib.ListN.{length}
use Rattle.device.specs.Step.{device_of}
use Rattle.journal.proofs.Running.{Running}
use Rattle.replay.proofs.replay.Given as goal

abbrev pub invariant-loop-rest : goal.invariant-loop-rest
invariant-loop-rest l =
    Running (device_of l.initial.state l.initial.store l.initial.window l.initial.destination) l.input l.initial.output l.number l.written l.carried (device_of l.state l.store l.window l.destination) l.rest l.output

abbrev pub decreases-loop-rest : goal.decreases-loop-rest
decreases-loop-rest l = length l.rest
