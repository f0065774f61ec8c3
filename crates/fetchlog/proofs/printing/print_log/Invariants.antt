-- The loop's invariant is that of a journal whose log is put nowhere: the frames before `rest` are carried out. Where each of their lines was
-- written, all of them were. The measure is the bytes left.
use Rattle.std.proofs.Common.{ℕ, ◌≡◌, ◌≤◌, List, [], length}
use Rattle.std.specs.Io.KnownBytes.{Appends}
use Rattle.device.specs.Step.{device_of}
use Rattle.journal.proofs.Running.{Running}
use Rattle.fetchlog.proofs.Printed.{Said}
use Rattle.fetchlog.proofs.printing.print_log.Given as goal

abbrev pub invariant-loop-rest : goal.invariant-loop-rest
invariant-loop-rest g l = record {
  running : Running (device_of l.initial.state l.initial.store l.initial.window l.initial.destination) l.input [] l.number 0 l.carried (device_of l.state l.store l.window l.destination) l.rest [];
  few : l.kept ≤ l.number;
  printed : (said : List ℕ) × Said (device_of l.initial.state l.initial.store l.initial.window l.initial.destination) l.input l.number (device_of l.state l.store l.window l.destination) l.rest said
      × (l.kept ≡ l.number → Appends (g.O.Write.contents l.initial.streams.output) (g.O.Write.contents l.streams.output) said);
}

abbrev pub decreases-loop-rest : goal.decreases-loop-rest
decreases-loop-rest g l = length l.rest
