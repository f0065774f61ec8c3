-- Laws of the words of a map: their bits are those of the test that they were made from, words are those of their bits, and the ones of all
-- words are the addresses that pass.
use Prim.Native.Nat.{ℕ, zero, suc, ◌+◌, ◌*◌, ◌/◌, ◌%◌, ◌^◌, ◌<◌}
use native.Mathlib.Omega.{arith}
use native.Mathlib.Nat.{zero-add}
use mathlib.Core.Path.{◌≡◌, refl, sym, ap, ap₂, ◌∙◌}
use mathlib.Core.List.{List, [], map, append-nil}
use mathlib.Core.Bool.{Bool, true}
use lib.Count.{ones, ones_step}
use lib.Dec.{ltb, eqb}
use lib.ListN.{length, get_or, length-map}
use lib.Seq.{take_all}
use borrow.Author.Tests.{ltb-true, eqb-true}
use Rattle.octets.specs.Lists.{count, all}
use Rattle.octets.proofs.Lists.{and_left, and_right, all_at}
use Rattle.state.specs.Records.{span}
use Rattle.state.proofs.Places.{length_span, span_at, map_read}
use Rattle.bits.specs.Claims.{OnesCounted}
use Rattle.bits.specs.Bits.{word_limit, map_limit, bit, is_set, word_of, word_at, words_of, ones_of, are_words}
use Rattle.bits.proofs.Word.{digit, word_odd, word_half, word_bit, word_same, word_of_bits}
use Rattle.bits.proofs.Counts.{count_split, count_same, count_empty}

-- the ones of a word are the places that pass
pub word_ones : (test : ℕ → Bool) (k : ℕ) → ones (word_of test k) ≡ count test (span 0 k)
unfolding word_of count span ones
word_ones test zero = refl
word_ones test (suc k) =
    ones_step (word_of test (suc k))
    ∙ ap₂ (λ (x y : ℕ). x + ones y) (word_odd test k) (word_half test k)
    ∙ ap (λ (n : ℕ). digit (test 0) + n)
    (word_ones (λ j. test (suc j)) k ∙ count_same (λ j. test (suc j)) test 0 1 k (λ j h. ap test (omega arith)))

-- and of the word of 64 addresses those that pass, and of all words all that pass
pub ones_at : (test : ℕ → Bool) (i : ℕ) → ones (word_at test i) ≡ count test (span (64 * i) 64)
ones_at test i =
    word_ones (λ j. test (64 * i + j)) 64
    ∙ count_same (λ j. test (64 * i + j)) test 0 (64 * i) 64 (λ j h. ap (λ (y : ℕ). test (64 * i + y)) (zero-add j))

-- 64 addresses more
pub count_more : (test : ℕ → Bool) (i : ℕ) → count test (span 0 (64 * (i + 1))) ≡ count test (span 0 (64 * i)) + count test (span (64 * i) 64)
count_more test i =
    let more : 64 * (i + 1) ≡ 64 * i + 64 = omega arith in
    ap (λ (m : ℕ). count test (span 0 m)) more
    ∙ count_split test 0 (64 * i) 64
    ∙ ap (λ (x : ℕ). count test (span 0 (64 * i)) + count test (span x 64)) (zero-add (64 * i))

pub ones_span : (test : ℕ → Bool) (i n : ℕ) → ones_of (map (word_at test) (span i n)) ≡ count test (span (64 * i) (64 * n))
unfolding ones_of span
ones_span test i zero = sym (count_empty test (64 * i))
ones_span test i (suc n) =
    let next : 64 * suc i ≡ 64 * i + 64 = omega arith in
    let more : 64 + 64 * n ≡ 64 * suc n = omega arith in
    ap₂ (λ (x y : ℕ). x + y) (ones_at test i) (ones_span test (suc i) n ∙ ap (λ (x : ℕ). count test (span x (64 * n))) next)
    ∙ sym (count_split test (64 * i) 64 (64 * n))
    ∙ ap (λ (m : ℕ). count test (span (64 * i) m)) more

pub ones_of_words : (test : ℕ → Bool) → ones_of (words_of test) ≡ count test (span 0 map_limit)
unfolding words_of
ones_of_words test = ones_span test 0 word_limit

-- word i is that of its 64 addresses
pub words_at : (test : ℕ → Bool) (i : ℕ) → i < word_limit → get_or (words_of test) i 0 ≡ word_at test i
unfolding words_of
words_at test i h =
    ap (λ (l : List ℕ). get_or (map (word_at test) l) i 0) (sym (append-nil (span 0 word_limit)))
    ∙ span_at (word_at test) 0 0 word_limit [] i h ∙ ap (word_at test) (zero-add i)

-- the bit of an address
pub words_set : (test : ℕ → Bool) (x : ℕ) → x < map_limit → is_set (words_of test) x ≡ test x
words_set test x h =
    ap (λ (w : ℕ). bit w (x % 64)) (words_at test (x / 64) (omega arith))
    ∙ word_bit (λ j. test (64 * (x / 64) + j)) 64 (x % 64) (omega arith)
    ∙ ap test (omega arith)

pub length_words : (test : ℕ → Bool) → length (words_of test) ≡ word_limit
unfolding words_of
length_words test = length-map (span 0 word_limit) (word_at test) ∙ length_span 0 word_limit

-- Words as a map has them: 64, each of 64 bits.
pub record Words (words : List ℕ) : Type 0 where
  pub size : length words ≡ word_limit
  pub small : (i : ℕ) → get_or words i 0 < 2 ^ 64

pub words_told : (words : List ℕ) → are_words words ≡ true → Words words
words_told words e = record {
  size = eqb-true (length words) word_limit (and_left (eqb (length words) word_limit) (all (λ w. ltb w (2 ^ 64)) words) e);
  small = λ i. ltb-true (get_or words i 0) (2 ^ 64)
      (all_at (λ w. ltb w (2 ^ 64)) words i 0 (and_right (eqb (length words) word_limit) (all (λ w. ltb w (2 ^ 64)) words) e) refl);
}

module _ (words : List ℕ) (w : Words words) where
  -- a word is that of the bits of its addresses
  pub word_read : (i : ℕ) → word_at (is_set words) i ≡ get_or words i 0
  word_read i =
      word_same (λ j. is_set words (64 * i + j)) (bit (get_or words i 0)) 64
      (λ j h. ap₂ (λ (q r : ℕ). bit (get_or words q 0) r) (omega arith) (omega arith))
      ∙ word_of_bits (get_or words i 0) 64 (w.small i)

  pub words_read : words_of (is_set words) ≡ words
  unfolding words_of
  words_read =
      map_read (word_at (is_set words)) words 0 0 word_limit (omega (arith, w.size))
      (λ i h. ap (word_at (is_set words)) (zero-add i) ∙ word_read i ∙ ap (λ (k : ℕ). get_or words k 0) (sym (zero-add i)))
      ∙ take_all word_limit words (omega (arith, w.size))

-- the words of the bits of words are these words
pub words_of_bits : (words : List ℕ) → are_words words ≡ true → words_of (is_set words) ≡ words
words_of_bits words e = words_read words (words_told words e)

pub ones_counted : OnesCounted
ones_counted words e = sym (ap ones_of (words_of_bits words e)) ∙ ones_of_words (is_set words)
