-- What it does is put, and the span behind it.
use Rattle.text.proofs.Putting.{puts_both}
use Rattle.wording.proofs.phrases.put_access.Goals as goal

pub returns : goal.returns
returns c = puts_both c.put_act-next.ensures c.put_span.ensures
