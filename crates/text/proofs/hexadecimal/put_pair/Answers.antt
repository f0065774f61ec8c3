-- The two characters of the byte are put as any text is.
use borrow.Author.Rules.{rules}
use Rattle.text.specs.Hexadecimal.{hex_digits}
use Rattle.text.proofs.Putting.{puts_is}
use Rattle.text.proofs.hexadecimal.put_pair.Goals as goal

pub hex_pair-pair-requires : goal.hex_pair-pair-requires
unfolding hex_digits
hex_pair-pair-requires c = search rules

pub returns : goal.returns
returns c = puts_is c.put.ensures c.hex_pair-pair.ensures
