-- What one more read gave stands behind what stood there.
use Rattle.std.proofs.Math.Seq.{take-add}
use Rattle.std.proofs.KnownBytes.{Consumes-trans}
use Rattle.console.proofs.input.read_whole.Goals as goal

pub loop-done-preserved : goal.loop-done-preserved
loop-done-preserved g c = (
  c.in-Ok.ensures.fits,
  rw (take-add c.loop-done.done c.in-Ok.more c.read_more.new.buffer, c.in-Ok.ensures.front)
      (Consumes-trans _ _ _ _ _ c.loop-done.invariant.1 c.in-Ok.ensures.bytes),
)
