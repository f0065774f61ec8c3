-- A word follows behind so many if and only if there are more.
use Prim.Native.Nat.{ℕ, ◌-◌}
use native.Mathlib.Omega.{arith}
use mathlib.Core.Path.{◌≡◌, refl, sym, ◌∙◌}
use mathlib.Core.Bool.{Bool, true, false}
use lib.Dec.{ltb}
use lib.ListN.{length, length-drop}
use borrow.Author.Tests.{ltb-true, ltb-false, lt-ltb, le-ltb}
use Rattle.expect.specs.Expect.{words_of}
use Rattle.expect.proofs.Words.{follows}
use Rattle.expect.proofs.has_more.Goals as goal

some_left : (n k : ℕ) → ltb 0 (k - n) ≡ ltb n k
some_left n k = go (ltb n k) refl
  where
    go : (t : Bool) → ltb n k ≡ t → ltb 0 (k - n) ≡ ltb n k
    go true e = lt-ltb 0 (k - n) (omega (arith, ltb-true n k e)) ∙ sym e
    go false e = le-ltb 0 (k - n) (omega (arith, ltb-false n k e)) ∙ sym e

pub returns : goal.returns
returns c =
    let a = c.args in
    let words = words_of a.text.now in
    let left = rw (c.behind.ensures.rest, length-drop a.n words) at (follows a.text.now c.behind.result) in
    c.has_word.ensures ∙ left ∙ some_left a.n (length words)
