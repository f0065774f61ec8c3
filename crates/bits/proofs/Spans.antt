-- Laws of a span's bits among those of a map: word by word they are counted, and put to those that are set.
use Prim.Native.Nat.{ℕ, ◌+◌, ◌-◌, ◌*◌, ◌/◌, ◌≤◌, ◌<◌}
use native.Mathlib.Omega.{arith}
use mathlib.Core.Path.{◌≡◌, refl, sym, ap, ap₂, ◌∙◌}
use mathlib.Core.List.{List}
use mathlib.Core.Bool.{Bool, true, false, ◌&&◌, ◌||◌, and-false, or-false}
use lib.Bits.{bit_and, bit_or}
use lib.Count.{ones}
use lib.Dec.{ltb, leb, eqb}
use lib.ListN.{length, get_or, set, length-set}
use lib.Seq.{ext_get_or, get_or-set_same, get_or-set_other}
use borrow.Author.Tests.{ltb-true, ltb-false, eqb-true, eqb-false, lt-leb, le-ltb}
use Rattle.octets.specs.Lists.{count}
use Rattle.state.specs.Records.{span, in_span}
use Rattle.bits.specs.Bits.{word_limit, is_set, word_at, words_of}
use Rattle.bits.proofs.Word.{word_same}
use Rattle.bits.proofs.Operations.{word_and, word_or}
use Rattle.bits.proofs.Counts.{count_none, count_within}
use Rattle.bits.proofs.Words.{Words, word_read, words_at, length_words, ones_at, count_more}

module _ (words : List ℕ) (low high : ℕ) where
  -- is the address set and in the span? Is it set or in the span?
  abbrev pub inner : ℕ → Bool
  inner x = is_set words x && in_span low (high - low) x

  abbrev pub either : ℕ → Bool
  either x = is_set words x || in_span low (high - low) x

-- How far a span is set: the words below word i are as they shall be, and the others as they were.
pub record Filled (words : List ℕ) (low high : ℕ) (now : List ℕ) (i : ℕ) : Type 0 where
  pub size : length now ≡ word_limit
  pub done : (k : ℕ) → k < i → get_or now k 0 ≡ word_at (either words low high) k
  pub rest : (k : ℕ) → i ≤ k → get_or now k 0 ≡ get_or words k 0

module _ (words : List ℕ) (w : Words words) (low high : ℕ) (up : low ≤ high) where
  abbrev both : ℕ → Bool
  both = inner words low high

  abbrev one : ℕ → Bool
  one = either words low high

  below : (x : ℕ) → x < low → in_span low (high - low) x ≡ false
  below x h = rw (lt-leb low x h)

  behind : (x : ℕ) → high ≤ x → in_span low (high - low) x ≡ false
  behind x h = rw (le-ltb x (low + (high - low)) (omega arith)) (and-false (leb low x))

  -- The addresses of the span that are set, counted word by word from the span's lowest word on.
  pub inner_none : count both (span 0 (64 * (low / 64))) ≡ 0
  inner_none = count_none both 0 (64 * (low / 64)) (λ x h k. rw (below x (omega arith)) (and-false (is_set words x)))

  pub inner_more : (i mask : ℕ) → mask ≡ word_at (in_span low (high - low)) i
      → count both (span 0 (64 * (i + 1))) ≡ count both (span 0 (64 * i)) + ones (bit_and (get_or words i 0) mask)
  inner_more i mask e =
      let word : bit_and (get_or words i 0) mask ≡ word_at both i
      = ap₂ bit_and (sym (word_read words w i)) e ∙ word_and (λ j. is_set words (64 * i + j)) (λ j. in_span low (high - low) (64 * i + j)) 64 in
      count_more both i ∙ ap (λ (n : ℕ). count both (span 0 (64 * i)) + n) (sym (ap ones word ∙ ones_at both i))

  pub inner_all : (i : ℕ) → high ≤ 64 * i → count both (span 0 (64 * i)) ≡ count (is_set words) (span low (high - low))
  inner_all i h = count_within (is_set words) 0 (64 * i) low (high - low) (omega arith) (omega arith)

  -- A word of the addresses that are set or in the span; outside the span's words it is the word as it was.
  pub either_word : (i mask : ℕ) → mask ≡ word_at (in_span low (high - low)) i → bit_or (get_or words i 0) mask ≡ word_at one i
  either_word i mask e =
      ap₂ bit_or (sym (word_read words w i)) e ∙ word_or (λ j. is_set words (64 * i + j)) (λ j. in_span low (high - low) (64 * i + j)) 64

  kept : (i : ℕ) → ((j : ℕ) → j < 64 → in_span low (high - low) (64 * i + j) ≡ false) → word_at one i ≡ get_or words i 0
  kept i none =
      word_same (λ j. one (64 * i + j)) (λ j. is_set words (64 * i + j)) 64 (λ j h. rw (none j h) (or-false (is_set words (64 * i + j))))
      ∙ word_read words w i

  pub kept_below : (i : ℕ) → i < low / 64 → get_or words i 0 ≡ word_at one i
  kept_below i h = sym (kept i (λ j k. below (64 * i + j) (omega arith)))

  pub kept_behind : (i : ℕ) → high ≤ 64 * i → get_or words i 0 ≡ word_at one i
  kept_behind i h = sym (kept i (λ j k. behind (64 * i + j) (omega arith)))

  -- Every word of the span is set.
  pub fill_from : Filled words low high words (low / 64)
  fill_from = record {
    size = w.size;
    done = kept_below;
    rest = λ k h. refl;
  }

  pub fill_more : (now : List ℕ) (i mask : ℕ) → i < word_limit → Filled words low high now i → mask ≡ word_at (in_span low (high - low)) i
      → Filled words low high (set now i (bit_or (get_or now i 0) mask)) (i + 1)
  fill_more now i mask h f e = record {
    size = length-set now i value ∙ f.size;
    done = λ k s. go k s (eqb k i) refl;
    rest = λ k s. get_or-set_other now i k value 0 (λ q. omega arith) ∙ f.rest k (omega arith);
  }
    where
      value : ℕ
      value = bit_or (get_or now i 0) mask

      go : (k : ℕ) → k < i + 1 → (b : Bool) → eqb k i ≡ b → get_or (set now i value) k 0 ≡ word_at one k
      go k s true q =
          rw (eqb-true k i q)
          (get_or-set_same now i value 0 (omega (arith, f.size)) ∙ ap (λ (v : ℕ). bit_or v mask) (f.rest i (omega arith)) ∙ either_word i mask e)
      go k s false q = get_or-set_other now i k value 0 (eqb-false k i q) ∙ f.done k (omega (arith, eqb-false k i q))

  pub fill_all : (now : List ℕ) (i : ℕ) → high ≤ 64 * i → i ≤ word_limit → Filled words low high now i → now ≡ words_of one
  fill_all now i h k f =
      ext_get_or 0 now (words_of one) (f.size ∙ sym (length_words one))
      (λ j s. go j (omega (arith, f.size)) (ltb j i) refl ∙ sym (words_at one j (omega (arith, f.size))))
    where
      go : (j : ℕ) → j < word_limit → (b : Bool) → ltb j i ≡ b → get_or now j 0 ≡ word_at one j
      go j s true q = f.done j (ltb-true j i q)
      go j s false q = f.rest j (ltb-false j i q) ∙ kept_behind j (omega (arith, ltb-false j i q))
