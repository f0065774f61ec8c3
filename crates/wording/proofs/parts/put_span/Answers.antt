-- The two numbers and the sign between them are put one behind the other.
use Rattle.text.proofs.Putting.{puts_both}
use Rattle.wording.proofs.parts.put_span.Goals as goal

pub returns : goal.returns
returns c = puts_both c.put_decimal-next.ensures (puts_both c.put-next.ensures c.put_decimal.ensures)
