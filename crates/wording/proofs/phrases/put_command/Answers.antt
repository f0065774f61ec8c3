-- The word is put, and the number behind it.
use Rattle.text.proofs.Putting.{puts_both}
use Rattle.wording.proofs.phrases.put_command.Goals as goal

pub returns : goal.returns
returns c = puts_both c.put-next.ensures c.put_decimal.ensures
