-- The measure is the bytes left.
use Rattle.std.proofs.Common.{length}
use Rattle.explain.proofs.run.explain_frames.Given as goal

abbrev pub decreases-loop-rest : goal.decreases-loop-rest
decreases-loop-rest g l = length l.rest
