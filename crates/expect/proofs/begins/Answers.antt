use Prim.Native.Nat.{◌<◌}
use native.Mathlib.Numerals.{add-one}
use native.Mathlib.Omega.{arith}
use mathlib.Core.Path.{◌≡◌, sym, ◌∙◌}
use mathlib.Core.List.{[]}
use mathlib.Core.Bool.{true, false}
use lib.ListN.{length, get_or}
use borrow.Author.Tests.{ltb-true, ltb-false}
use Rattle.expect.specs.Expect.{words_of, same}
use Rattle.scan.proofs.Fronts.{alike, unlike, short, whole}
use Rattle.expect.proofs.Words.{words_most}
use Rattle.expect.proofs.begins.Goals as goal

pub returns-then-not-has_more : goal.returns-then-not-has_more
returns-then-not-has_more c =
    let wanted : c.loop-i.i < length (words_of c.args.expected.now)
    = ltb-true c.loop-i.i (length (words_of c.args.expected.now)) (sym c.has_more.ensures ∙ c.loop-i-test.true) in
    let expected = words_of c.args.expected.now in
    let answer = words_of c.args.answer.now in
    let i = c.loop-i.i in
    let past = ltb-false i (length answer) (sym c.has_more-in-loop-i.ensures ∙ c.if-not-has_more.true) in
    sym (short same expected answer i [] wanted past) ∙ c.loop-i.invariant

pub returns-then-not-same : goal.returns-then-not-same
returns-then-not-same c =
    let wanted : c.loop-i.i < length (words_of c.args.expected.now)
    = ltb-true c.loop-i.i (length (words_of c.args.expected.now)) (sym c.has_more.ensures ∙ c.loop-i-test.true) in
    let found : c.loop-i.i < length (words_of c.args.answer.now) = ltb-true c.loop-i.i (length (words_of c.args.answer.now))
    (sym c.has_more-in-loop-i.ensures ∙ c.if-not-has_more.false) in
    let expected = words_of c.args.expected.now in
    let answer = words_of c.args.answer.now in
    let i = c.loop-i.i in
    let differ : same (get_or expected i []) (get_or answer i []) ≡ false =
    rw (← c.word.ensures, ← c.word-in-loop-i.ensures)
    (sym c.same.ensures ∙ c.if-not-same.true) in
    sym (unlike same expected answer i [] wanted found differ) ∙ c.loop-i.invariant

pub overflow_add-i : goal.overflow_add-i
overflow_add-i c =
    let wanted : c.loop-i.i < length (words_of c.args.expected.now)
    = ltb-true c.loop-i.i (length (words_of c.args.expected.now)) (sym c.has_more.ensures ∙ c.loop-i-test.true) in
    omega (arith, wanted, words_most c.args.expected.now)

pub loop-i-smaller : goal.loop-i-smaller
loop-i-smaller c =
    let wanted : c.loop-i.i < length (words_of c.args.expected.now)
    = ltb-true c.loop-i.i (length (words_of c.args.expected.now)) (sym c.has_more.ensures ∙ c.loop-i-test.true) in
    omega (arith, wanted)

pub loop-i-preserved : goal.loop-i-preserved
loop-i-preserved c =
    let wanted : c.loop-i.i < length (words_of c.args.expected.now)
    = ltb-true c.loop-i.i (length (words_of c.args.expected.now)) (sym c.has_more.ensures ∙ c.loop-i-test.true) in
    let found : c.loop-i.i < length (words_of c.args.answer.now) = ltb-true c.loop-i.i (length (words_of c.args.answer.now))
    (sym c.has_more-in-loop-i.ensures ∙ c.if-not-has_more.false) in
    let expected = words_of c.args.expected.now in
    let answer = words_of c.args.answer.now in
    let i = c.loop-i.i in
    let agree : same (get_or expected i []) (get_or answer i []) ≡ true =
    rw (← c.word.ensures, ← c.word-in-loop-i.ensures)
    (sym c.same.ensures ∙ c.if-not-same.false) in
    rw add-one (sym (alike same expected answer i [] wanted found agree) ∙ c.loop-i.invariant)

pub returns : goal.returns
returns c =
    let a = c.args in
    let expected = words_of a.expected.now in
    let past = ltb-false c.loop-i.i (length expected) (sym c.has_more.ensures ∙ c.loop-i-test.false) in
    sym (whole same expected (words_of a.answer.now) c.loop-i.i past) ∙ c.loop-i.invariant
