-- What stands before the comment is a part of the line.
use mathlib.Core.Path.{sym}
use lib.Seq.{length-take-le}
use Rattle.scan.proofs.Scanning.{front_most}
use Rattle.steps.proofs.line.parse.Goals as goal

pub slice_bounds-text_meaning-end : goal.slice_bounds-text_meaning-end
slice_bounds-text_meaning-end c =
    let line = c.args.line.now in
    sym (length-take-le c.until-end.result line (front_most _ line c.until-end.result c.until-end.ensures))
