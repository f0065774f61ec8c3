-- The blank is put, and the number behind it.
use Rattle.text.proofs.Putting.{puts_both}
use Rattle.loglines.proofs.line.put_number.Goals as goal

pub returns : goal.returns
returns c = puts_both c.put_byte-next.ensures c.put_decimal.ensures
