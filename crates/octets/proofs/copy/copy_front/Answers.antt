use native.Mathlib.Omega.{arith}
use mathlib.Core.Path.{◌≡◌}
use lib.ListN.{length}
use Rattle.octets.proofs.Overwrite.{overwrite_paste, paste_more}
use Rattle.octets.proofs.copy.copy_front.Goals as goal

pub loop-i-preserved : goal.loop-i-preserved
loop-i-preserved c = rw c.loop-i.invariant (paste_more c.args.buffer.now c.args.source.now c.loop-i.i 0 (omega arith) (omega arith))

pub returns : goal.returns
returns c =
    let all : c.loop-i.i ≡ c.min-n.result = omega arith in
    rw (c.loop-i.invariant, all, c.min-n.ensures) (overwrite_paste c.args.buffer.now c.args.source.now 0 (length c.args.buffer.now))
