-- The number is below that of the words, which is a length.
use native.Mathlib.Omega.{arith}
use mathlib.Core.Path.{sym, ◌∙◌}
use lib.ListN.{length}
use borrow.Author.Tests.{ltb-true}
use Rattle.expect.specs.Expect.{words_of}
use Rattle.expect.proofs.Words.{words_most}
use Rattle.expect.proofs.is_last.Goals as goal

pub overflow_add-n : goal.overflow_add-n
overflow_add-n c =
    let text = c.args.text.now in
    let more = ltb-true c.args.n (length (words_of text)) (sym c.has_more.ensures ∙ c.if-has_more.true) in
    omega (arith, more, words_most text)
