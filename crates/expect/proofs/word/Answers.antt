-- The word at the place behind so many is the first of the words from there on.
use Prim.Native.Nat.{◌+◌}
use native.Mathlib.Omega.{arith}
use mathlib.Core.Path.{◌≡◌, sym, ◌∙◌}
use mathlib.Core.List.{[]}
use lib.ListN.{drop, get_or}
use lib.Seq.{get_or-drop}
use Rattle.scan.specs.Scan.{word_end}
use Rattle.expect.specs.Expect.{words_of}
use Rattle.scan.proofs.Scanning.{word_end_most}
use Rattle.expect.proofs.Words.{first_here}
use Rattle.expect.proofs.word.Goals as goal

pub slice_bounds-result-end : goal.slice_bounds-result-end
slice_bounds-result-end c =
    let ends : c.until-to.result ≡ word_end c.args.text.now c.behind.result = rw (← c.until-from.ensures) c.until-to.ensures in
    omega (arith, ends, word_end_most c.args.text.now c.behind.result c.behind.ensures.inside)

pub returns : goal.returns
returns c =
    let ends : c.until-to.result ≡ word_end c.args.text.now c.behind.result = rw (← c.until-from.ensures) c.until-to.ensures in
    let a = c.args in
    let text = a.text.now in
    let at = c.behind.result in
    let none : a.n + 0 ≡ a.n = omega arith in
    let nth : get_or (words_of (drop at text)) 0 [] ≡ get_or (words_of text) a.n []
    = rw (c.behind.ensures.rest, get_or-drop a.n (words_of text) 0 [], none) in
    rw (ends, c.until-from.ensures) (sym (first_here text at) ∙ nth)
