-- The numbers are put one behind the other.
use Rattle.text.proofs.Putting.{puts_both}
use Rattle.loglines.proofs.line.put_two.Goals as goal

pub returns : goal.returns
returns c = puts_both c.put_number-next.ensures c.put_number.ensures
