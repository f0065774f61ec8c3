use Prim.Native.Nat.{ℕ, ◌+◌, ◌≤◌, ◌<◌, min}
use native.Mathlib.Numerals.{add-one}
use native.Mathlib.Omega.{arith}
use mathlib.Core.Path.{◌≡◌, refl, ap, sym, ◌∙◌}
use mathlib.Core.List.{List, [], ◌∷◌, ◌++◌, append-nil, append_assoc}
use lib.ListN.{length, take, get_or, length-take}
use lib.Seq.{take-suc, take_all}
use borrow.Author.Tests.{lt-ltb, le-ltb}
use Rattle.octets.specs.Text.{ascii}
use Rattle.text.proofs.Putting.{puts_is, puts_none, puts_both}
use Rattle.quoting.specs.Quoting.{quoted_byte, quoted_all, quoted}
use Rattle.quoting.proofs.quote.Goals as goal

quoted_append : (xs ys : List ℕ) → quoted_all (xs ++ ys) ≡ quoted_all xs ++ quoted_all ys
unfolding quoted_all
quoted_append [] ys = refl
quoted_append (x ∷ xs) ys =
    ap (λ (l : List ℕ). quoted_byte x ++ l) (quoted_append xs ys)
    ∙ sym (append_assoc (quoted_byte x) (quoted_all xs) (quoted_all ys))

-- a byte more
quoted_more : (text : List ℕ) (i : ℕ) → i < length text → quoted_all (take i text) ++ quoted_byte (get_or text i 0) ≡ quoted_all (take (i + 1) text)
unfolding quoted_all
quoted_more text i inside =
    sym
    (ap (λ (n : ℕ). quoted_all (take n text)) (add-one i) ∙ ap quoted_all (take-suc text i 0 inside)
    ∙ quoted_append (take i text) (get_or text i 0 ∷ [])
    ∙ ap (λ (l : List ℕ). quoted_all (take i text) ++ l) (append-nil (quoted_byte (get_or text i 0))))

-- a text that is cut, and one that is shown whole
module _ (text : List ℕ) (n : ℕ) (size : n ≡ min (length text) 60) where
  cut : length (take n text) < length text → quoted_all (take n text) ++ ascii "..." ≡ quoted text
  unfolding quoted
  cut less =
      let more : 60 < length text = omega (arith, length-take n text) in
      let full : n ≡ 60 = omega arith in
      rw (full, lt-ltb 60 (length text) more)

  whole : length text ≤ length (take n text) → quoted_all (take n text) ≡ quoted text
  unfolding quoted
  whole all =
      let few : length text ≤ 60 = omega (arith, length-take n text) in
      rw (le-ltb 60 (length text) few, append-nil, take_all n text (omega (arith, length-take n text)), take_all 60 text few)

pub loop-byte-init : goal.loop-byte-init
unfolding quoted_all
loop-byte-init c = puts_none c.args.out.now c.args.at c.min-next.result c.min-next.ensures

pub loop-byte-preserved : goal.loop-byte-preserved
loop-byte-preserved c =
    puts_is (puts_both c.loop-byte.invariant c.quote_byte-next.ensures)
    (quoted_more (take c.min.result c.args.text.now) c.loop-byte.byte-index c.loop-byte-test.true)

pub returns-then-shown-text : goal.returns-then-shown-text
returns-then-shown-text c =
    let text = c.args.text.now in
    let shown = take c.min.result text in
    let done = take_all c.loop-byte.byte-index shown c.loop-byte-test.false in
    puts_is (puts_both c.loop-byte.invariant c.put.ensures)
    (ap (λ (l : List ℕ). quoted_all l ++ ascii "...") done ∙ cut text c.min.result c.min.ensures c.if-shown-text.true)

pub returns : goal.returns
returns c =
    let text = c.args.text.now in
    let done = take_all c.loop-byte.byte-index (take c.min.result text) c.loop-byte-test.false in
    puts_is c.loop-byte.invariant (ap quoted_all done ∙ whole text c.min.result c.min.ensures c.if-shown-text.false)
