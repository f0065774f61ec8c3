use Prim.Native.Nat.{◌+◌}
use native.Mathlib.Omega.{arith}
use native.Mathlib.Numerals.{add-one}
use mathlib.Core.Path.{◌≡◌, ap, ◌∙◌}
use mathlib.Core.List.{[], ◌∷◌}
use lib.ListN.{drop, get_or, drop_of_length-le}
use lib.Seq.{drop-cons}
use Rattle.bits.specs.Bits.{ones_of}
use Rattle.bits.proofs.count.ones.Goals as goal

pub loop-word-preserved : goal.loop-word-preserved
unfolding ones_of
loop-word-preserved c =
    let words = c.args.words.now in
    let i = c.loop-word.word-index in
    let next : drop i words ≡ get_or words i 0 ∷ drop (i + 1) words
    = drop-cons words i 0 (omega arith) ∙ rw add-one in
    (omega arith, omega (arith, c.tally-n.ensures.0, ap ones_of next, c.loop-word.invariant.1))

pub returns : goal.returns
unfolding ones_of
returns c =
    let words = c.args.words.now in
    let none : drop c.loop-word.word-index words ≡ [] = drop_of_length-le words {i = c.loop-word.word-index} (omega arith) in
    omega (arith, ap ones_of none, c.loop-word.invariant.1)
