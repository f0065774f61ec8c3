-- The words of a text from a place on: the next word is the first of them, and those behind it are the others.
use Prim.Native.Nat.{ℕ, suc, ◌+◌, ◌-◌, ◌≤◌, ◌<◌}
use native.Mathlib.Omega.{arith}
use mathlib.Core.Path.{◌≡◌, refl, ap, sym, ◌∙◌}
use mathlib.Core.List.{List, [], ◌∷◌, ◌++◌, append-nil, append_assoc}
use mathlib.Core.Bool.{Bool, true, false, cond}
use lib.Dec.{ltb}
use lib.ListN.{length, take, drop, get_or, length-append, length-drop, drop_of_length-le}
use lib.Seq.{drop-cons, drop-drop, get_or-drop, take-nil}
use borrow.Author.Tests.{ltb-true, ltb-false, lt-ltb, le-ltb, not-true}
use Rattle.scan.specs.declared.Stop.TheVariants.{Word, Blank}
use Rattle.scan.specs.Scan.{is_blank, stops, before, word_start, word_end, word_at, has_word}
use Rattle.expect.specs.Expect.{ended, words_on, words_of}
use Rattle.scan.proofs.Scanning.{stopped}

-- how many bytes stand before the next blank, and before the next byte that is none
abbrev letters : List ℕ → ℕ
letters text = before (stops Blank) text

abbrev blanks : List ℕ → ℕ
blanks text = before (stops Word) text

-- the bytes that are read already are of one word with those up to the next blank
read_on_lem : (word text : List ℕ) → words_on word text ≡ ended (word ++ take (letters text) text) (words_of (drop (letters text) text))
unfolding before words_on
read_on_lem word [] = rw (append-nil word)
read_on_lem word (b ∷ text) = go (is_blank b) refl (read_on_lem (word ++ b ∷ []) text)
  where
    go : (t : Bool) → is_blank b ≡ t
        → words_on (word ++ b ∷ []) text ≡ ended ((word ++ b ∷ []) ++ take (letters text) text) (words_of (drop (letters text) text))
        → words_on word (b ∷ text) ≡ ended (word ++ take (letters (b ∷ text)) (b ∷ text)) (words_of (drop (letters (b ∷ text)) (b ∷ text)))
    go true e on = rw (e, append-nil word, e)
    go false e on = rw e (rw append_assoc at on)

-- blanks before a word are passed
blanks_passed : (text : List ℕ) → words_of text ≡ words_of (drop (blanks text) text)
unfolding before words_on
blanks_passed [] = refl
blanks_passed (b ∷ text) = go (is_blank b) refl (blanks_passed text)
  where
    go : (t : Bool) → is_blank b ≡ t → words_of text ≡ words_of (drop (blanks text) text)
        → words_of (b ∷ text) ≡ words_of (drop (blanks (b ∷ text)) (b ∷ text))
    go true e on = rw e on
    go false e on = rw (e, e)

word_first : (b : ℕ) (text : List ℕ) → is_blank b ≡ false
    → words_of (b ∷ text) ≡ take (letters (b ∷ text)) (b ∷ text) ∷ words_of (drop (letters (b ∷ text)) (b ∷ text))
unfolding before words_on
word_first b text e = rw e (read_on_lem (b ∷ []) text)

-- each word takes a byte at least
words_on_most : (word text : List ℕ) → length (words_on word text) ≤ length word + length text
unfolding words_on
words_on_most [] [] = omega arith
words_on_most (x ∷ word) [] = omega arith
words_on_most word (b ∷ text) = go (is_blank b) word (omega (arith, words_on_most [] text)) (words_on_most (word ++ b ∷ []) text)
  where
    go : (t : Bool) (w : List ℕ) → length (words_of text) ≤ length text → length (words_on (w ++ b ∷ []) text) ≤ length (w ++ b ∷ []) + length text
        → length (cond t (ended w (words_of text)) (words_on (w ++ b ∷ []) text)) ≤ length w + suc (length text)
    go true [] few on = omega arith
    go true (x ∷ w) few on = omega arith
    go false w few on = omega (arith, length-append w (b ∷ []))

pub words_most : (text : List ℕ) → length (words_of text) ≤ length text
words_most text = omega (arith, words_on_most [] text)

-- what follows at a place: a word and those behind it, or none
data Next (text : List ℕ) (at : ℕ) : Type 0 where
  some : word_start text at < length text → words_of (drop at text) ≡ word_at text at ∷ words_of (drop (word_end text at) text) → Next text at
  none : length text ≤ word_start text at → words_of (drop at text) ≡ [] → word_at text at ≡ [] → words_of (drop (word_end text at) text) ≡ [] → Next text at

module _ (text : List ℕ) (at : ℕ) where
  from_start : words_of (drop at text) ≡ words_of (drop (word_start text at) text)
  from_start = blanks_passed (drop at text) ∙ ap words_of (drop-drop (blanks (drop at text)) at text)

  -- where a word starts there is no blank
  no_blank : word_start text at < length text → is_blank (get_or text (word_start text at) 0) ≡ false
  no_blank inside =
      not-true (is_blank (get_or text (word_start text at) 0))
      (rw get_or-drop at (stopped (stops Word) (drop at text) 0 (omega (arith, length-drop at text))))

  word_next : word_start text at < length text → words_of (drop at text) ≡ word_at text at ∷ words_of (drop (word_end text at) text)
  word_next inside =
      let start = word_start text at in
      let count : word_end text at - start ≡ letters (drop start text) = omega arith in
      rw (from_start, count, ← drop-drop (letters (drop start text)) start text, drop-cons text start 0 inside)
      (word_first (get_or text start 0) (drop (suc start) text) (no_blank inside))

  next : Next text at
  unfolding words_on
  next = go (has_word text at) refl
    where
      go : (t : Bool) → has_word text at ≡ t → Next text at
      go true e = let inside = ltb-true (word_start text at) (length text) e in some inside (word_next inside)
      go false e =
          let past = ltb-false (word_start text at) (length text) e in
          let gone = drop_of_length-le text {i = word_start text at} past in
          let size = word_end text at - word_start text at in
          none past (from_start ∙ ap words_of gone) (ap (take size) gone ∙ take-nil size)
          (ap words_of (drop_of_length-le text {i = word_end text at} (omega arith)))

  pub others_behind : words_of (drop (word_end text at) text) ≡ drop 1 (words_of (drop at text))
  others_behind = go next
    where
      go : Next text at → words_of (drop (word_end text at) text) ≡ drop 1 (words_of (drop at text))
      go (some inside e) = rw e
      go (none past e f g) = rw (e, g)

  pub first_here : get_or (words_of (drop at text)) 0 [] ≡ word_at text at
  first_here = go next
    where
      go : Next text at → get_or (words_of (drop at text)) 0 [] ≡ word_at text at
      go (some inside e) = rw e
      go (none past e f g) = rw (e, f)

  pub follows : has_word text at ≡ ltb 0 (length (words_of (drop at text)))
  follows = go next
    where
      go : Next text at → has_word text at ≡ ltb 0 (length (words_of (drop at text)))
      go (some inside e) =
          lt-ltb (word_start text at) (length text) inside ∙ sym (lt-ltb 0 (length (words_of (drop at text))) (omega (arith, ap length e)))
      go (none past e f g) = rw e (le-ltb (word_start text at) (length text) past)
