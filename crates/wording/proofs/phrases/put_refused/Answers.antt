-- The parts are put one behind the other.
use mathlib.Core.Path.{ap, ◌∙◌}
use Rattle.text.specs.Decimal.{decimal}
use Rattle.text.proofs.Putting.{puts_is, puts_both}
use Rattle.wording.proofs.phrases.put_refused.Goals as goal

pub returns : goal.returns
returns c =
    puts_both c.put-next.ensures
    (puts_both (puts_is c.put_decimal-next.ensures (ap decimal (c.from.ensures ∙ c.number.ensures)))
    (puts_both c.put-next-2.ensures c.put_reason.ensures))
