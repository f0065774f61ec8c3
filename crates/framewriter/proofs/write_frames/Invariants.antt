-- A line has one frame at most.
use Rattle.std.proofs.Common.{◌≤◌, length}
use Rattle.framewriter.proofs.write_frames.Given as goal

abbrev pub invariant-loop-line : goal.invariant-loop-line
invariant-loop-line g l = l.kept ≤ length l.yielded
