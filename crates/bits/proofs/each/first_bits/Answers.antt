-- A power of two, less one, is the word of the places below its exponent.
use native.Mathlib.Omega.{arith}
use lib.Pow.{pow_pos}
use Rattle.bits.proofs.Operations.{first_shifted, first_word, full_word}
use Rattle.bits.proofs.each.first_bits.Goals as goal

pub overflow_sub-result : goal.overflow_sub-result
overflow_sub-result c = omega (arith, first_shifted c.args.n 64 (omega arith), pow_pos c.args.n)

pub returns-then-n-lt64 : goal.returns-then-n-lt64
returns-then-n-lt64 c = first_word c.args.n 64 (omega arith)

pub returns-else-n-lt64 : goal.returns-else-n-lt64
returns-else-n-lt64 c = full_word c.args.n 64 (omega arith)
