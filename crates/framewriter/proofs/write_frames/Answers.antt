-- There are no more lines than bytes.
use Rattle.std.proofs.Common.{◌<◌, length, arith}
use Rattle.std.proofs.lemmas.Iterator.Consumers.{YieldsList-from_first, YieldsList-turn}
use Rattle.script.specs.Judging.{lines}
use Rattle.script.specs.Lines.{lines_left}
use Rattle.script.proofs.Counted.{lines_few}
use Rattle.framewriter.proofs.write_frames.Goals as goal

pub overflow_add-kept : goal.overflow_add-kept
overflow_add-kept g c =
    let k = c.loop-line in
    let inside : length k.yielded < length (lines c.args.input.now)
    = (YieldsList-turn (YieldsList-from_first (λ x. x.now) lines_left (lines c.args.input.now) cc) k.yielded k.line-iterator k.yielded_by
    c.next.result c.next.new.self c.in-Some.line c.in-Some.is c.next.ensures.steps).0 in
    omega (arith, lines_few c.args.input.now)
