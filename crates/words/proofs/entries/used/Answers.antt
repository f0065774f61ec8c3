-- One less than the first word, and no more than there are entries.
use native.Mathlib.Omega.{arith}
use Rattle.words.proofs.EntryWords.{used_is}
use Rattle.words.proofs.entries.used.Goals as goal

pub returns : goal.returns
returns c = (omega (arith, used_is c.args.words.now), omega arith)
