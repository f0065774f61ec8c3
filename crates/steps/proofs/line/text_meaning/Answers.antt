-- What stands before `=` is a part of the text.
use mathlib.Core.Path.{sym}
use lib.Seq.{length-take-le}
use Rattle.scan.proofs.Scanning.{front_most}
use Rattle.steps.proofs.line.text_meaning.Goals as goal

pub slice_bounds-step_meaning-end : goal.slice_bounds-step_meaning-end
slice_bounds-step_meaning-end c =
    let text = c.args.text.now in
    sym (length-take-le c.until-cut.result text (front_most _ text c.until-cut.result c.until-cut.ensures))
