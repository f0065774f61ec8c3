-- The words are put, and the span behind them.
use Rattle.text.proofs.Putting.{puts_both}
use Rattle.wording.proofs.phrases.put_host_write.Goals as goal

pub returns : goal.returns
returns c = puts_both c.put-next.ensures c.put_span.ensures
