-- The parts of a line are put one behind the other.
use Rattle.loglines.specs.Line.{spaced, line_of}
use Rattle.text.proofs.Putting.{puts_both}
use Rattle.loglines.proofs.line.put_line.Goals as goal

pub returns : goal.returns
unfolding line_of spaced
returns c =
    let letter_on = puts_both c.put_byte-next-2.ensures c.put_answer-next.ensures in
    puts_both (puts_both c.put_decimal-next.ensures (puts_both c.put_byte-next.ensures letter_on)) c.put_byte.ensures
