-- The first word ends in the text.
use native.Mathlib.Omega.{arith}
use Rattle.scan.proofs.Scanning.{word_end_most}
use Rattle.steps.proofs.line.step_meaning.Goals as goal

pub slice_bounds-kind_named-end : goal.slice_bounds-kind_named-end
slice_bounds-kind_named-end c = omega (arith, rw c.until-from.ensures at c.until-to.ensures, word_end_most c.args.text.now 0 (omega arith))
