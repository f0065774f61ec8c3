-- The byte is stored where there is a place for it, and else nothing is put.
use native.Mathlib.Omega.{arith}
use Rattle.text.proofs.Putting.{puts_one, puts_past}
use Rattle.text.proofs.byte.put_byte.Goals as goal

pub returns-then-at-out : goal.returns-then-at-out
returns-then-at-out c = let a = c.args in puts_one a.out.now a.at a.byte (omega arith)

pub returns-else-at-out : goal.returns-else-at-out
returns-else-at-out c = let a = c.args in puts_past a.out.now a.at _ (omega arith)
