use Prim.Native.Nat.{ℕ, ◌+◌, ◌*◌}
use native.Mathlib.Omega.{arith}
use mathlib.Core.Path.{◌≡◌, ap, sym, ◌∙◌}
use mathlib.Core.List.{List}
use lib.ListN.{length-take, length-drop}
use Rattle.bits.specs.Bits.{is_set, map_limit}
use Rattle.stretches.specs.Values.{clean}
use Rattle.stretches.proofs.Cleaning.{clean_start, clean_word_lent, clean_on, clean_off}
use Rattle.stretches.proofs.clean.clean.Goals as goal

pub loop-i-init : goal.loop-i-init
loop-i-init c = let a = c.args in clean_start (is_set a.words.now) a.values.now

pub clean_word-requires : goal.clean_word-requires
clean_word-requires c = simp (length-take, length-drop) (omega arith)

pub returns-then-not-clean_word : goal.returns-then-not-clean_word
returns-then-not-clean_word c =
    let at : ℕ = c.loop-i.i in
    let words : List ℕ = c.args.words.now in
    let values : List ℕ = c.args.values.now in
    let tells : c.clean_word.result ≡ clean (is_set words) values (64 * at) 64 = c.clean_word.ensures ∙ clean_word_lent words values at in
    sym (clean_off (is_set (words)) (values) (64 * at) 64 map_limit (omega arith) (sym (tells) ∙ c.if-not-clean_word.true))

pub loop-i-preserved : goal.loop-i-preserved
loop-i-preserved c =
    let at : ℕ = c.loop-i.i in
    let words : List ℕ = c.args.words.now in
    let values : List ℕ = c.args.values.now in
    let tells : c.clean_word.result ≡ clean (is_set words) values (64 * at) 64 = c.clean_word.ensures ∙ clean_word_lent words values at in
    let next : 64 * at + 64 ≡ 64 * (at + 1) = omega arith in
    let before = c.loop-i.invariant in
    let clean_then = clean_on (is_set (words)) (values) (64 * at) 64 before (sym (tells) ∙ c.if-not-clean_word.false) in
    ap (clean (is_set (words)) (values) 0) (sym next) ∙ clean_then

pub returns : goal.returns
returns c =
    let a = c.args in
    let all : 64 * c.loop-i.i ≡ map_limit = omega arith in
    sym (ap (clean (is_set a.words.now) a.values.now 0) (sym all) ∙ c.loop-i.invariant)
