-- The blank is put, and the word behind it.
use Rattle.text.proofs.Putting.{puts_both}
use Rattle.loglines.proofs.line.put_word.Goals as goal

pub returns : goal.returns
returns c = puts_both c.put_byte-next.ensures c.put.ensures
