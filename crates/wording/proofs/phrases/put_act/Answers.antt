-- The command is put, and the words behind it.
use Rattle.text.proofs.Putting.{puts_both}
use Rattle.wording.proofs.phrases.put_act.Goals as goal

pub returns : goal.returns
returns c = puts_both c.put_command-next.ensures c.put.ensures
