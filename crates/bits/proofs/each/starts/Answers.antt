-- The count is of the word of the starts.
use native.Mathlib.Omega.{arith}
use mathlib.Core.Path.{◌∙◌}
use Rattle.bits.proofs.Starts.{carry_starts}
use Rattle.bits.proofs.each.starts.Goals as goal

pub returns : goal.returns
returns c =
    let a = c.args in
    (c.tally.ensures.0 ∙ carry_starts a.w a.carry 64 (omega arith) (omega arith) (omega arith), c.tally.ensures.1)
