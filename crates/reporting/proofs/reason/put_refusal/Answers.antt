-- The parts are put one behind the other.
use Rattle.std.proofs.Common.{ap, ◌∙◌}
use Rattle.text.specs.Decimal.{decimal}
use Rattle.text.proofs.Putting.{puts_is, puts_both}
use Rattle.reporting.proofs.reason.put_refusal.Goals as goal

pub returns : goal.returns
returns c =
    puts_both c.put_reason-next.ensures
    (puts_both c.put-next.ensures (puts_both (puts_is c.put_decimal-next.ensures (ap decimal (c.from.ensures ∙ c.number.ensures))) c.put.ensures))
