-- Laws of one word: its bits, the word of a test, words with the same bits, and what the operations on words do to their bits.
use Prim.Native.Nat.{ℕ, zero, suc, ◌*◌, ◌/◌, ◌%◌, ◌^◌, ◌≤◌, ◌<◌}
use native.Mathlib.Omega.{arith}
use native.Mathlib.Nat.{div-one, div-div-eq-div-mul, mul_comm, pow-suc, not-suc-le-zero}
use mathlib.Core.Path.{◌≡◌, refl, sym, ap, ◌∙◌}
use mathlib.Core.Bool.{Bool, true, false, cond}
use lib.Arith.{lt-one}
use lib.Dec.{eqb}
use Rattle.bits.specs.Bits.{bit, word_of}

-- a bit as a number
abbrev pub digit : Bool → ℕ
digit b = cond b 1 0

pub digit_small : (b : Bool) → digit b ≤ 1
digit_small true = omega arith
digit_small false = omega arith

pub digit_odd : (b : Bool) → eqb (digit b) 1 ≡ b
digit_odd true = refl
digit_odd false = refl

-- the lowest bit, and the others
pub bit_lowest : (w : ℕ) → bit w 0 ≡ eqb (w % 2) 1
bit_lowest w = rw (div-one w)

pub bit_higher : (w j : ℕ) → bit w (suc j) ≡ bit (w / 2) j
bit_higher w j = rw (pow-suc 2 j, mul_comm (2 ^ j) 2, ← div-div-eq-div-mul w 2 (2 ^ j))

pub bit_of_zero : (j : ℕ) → bit 0 j ≡ false
bit_of_zero zero = refl
bit_of_zero (suc j) = bit_higher 0 j ∙ bit_of_zero j

-- the digit of the lowest bit
pub lowest_digit : (w : ℕ) → digit (bit w 0) ≡ w % 2
lowest_digit w = rw (bit_lowest w) (go (w % 2) (omega arith))
  where
    go : (d : ℕ) → d < 2 → digit (eqb d 1) ≡ d
    go zero h = refl
    go (suc zero) h = refl
    go (suc (suc d)) h = absurd (omega arith)

module _ (test : ℕ → Bool) (k : ℕ) where
  pub word_odd : word_of test (suc k) % 2 ≡ digit (test 0)
  unfolding word_of
  word_odd = omega (arith, digit_small (test 0))

  pub word_half : word_of test (suc k) / 2 ≡ word_of (λ j. test (suc j)) k
  unfolding word_of
  word_half = omega (arith, digit_small (test 0))

-- the word of k bits of a test
pub word_below : (test : ℕ → Bool) (k : ℕ) → word_of test k < 2 ^ k
unfolding word_of
word_below test zero = omega arith
word_below test (suc k) = rw (pow-suc 2 k) (omega (arith, word_below (λ j. test (suc j)) k, digit_small (test 0)))

pub word_bit : (test : ℕ → Bool) (k j : ℕ) → j < k → bit (word_of test k) j ≡ test j
word_bit test zero j h = absurd (not-suc-le-zero h)
word_bit test (suc k) zero h = bit_lowest (word_of test (suc k)) ∙ rw (word_odd test k) (digit_odd (test 0))
word_bit test (suc k) (suc j) h =
    bit_higher (word_of test (suc k)) j ∙ ap (λ (w : ℕ). bit w j) (word_half test k) ∙ word_bit (λ j. test (suc j)) k j (omega arith)

-- tests that agree below k have the same word
pub word_same : (f g : ℕ → Bool) (k : ℕ) → ((j : ℕ) → j < k → f j ≡ g j) → word_of f k ≡ word_of g k
unfolding word_of
word_same f g zero same = refl
word_same f g (suc k) same = rw (same 0 (omega arith), word_same (λ j. f (suc j)) (λ j. g (suc j)) k (λ j h. same (suc j) (omega arith)))

-- a word is the word of its bits, so words with the same bits are equal
pub word_of_bits : (w k : ℕ) → w < 2 ^ k → word_of (bit w) k ≡ w
unfolding word_of
word_of_bits w zero h = sym (lt-one h)
word_of_bits w (suc k) h =
    let small : w < 2 ^ k * 2 = rw (pow-suc 2 k) at h in
    let rest : word_of (λ j. bit w (suc j)) k ≡ word_of (bit (w / 2)) k = word_same (λ j. bit w (suc j)) (bit (w / 2)) k (λ j _. bit_higher w j) in
    omega (arith, lowest_digit w, rest, word_of_bits (w / 2) k (omega arith))

pub same_bits : (v w k : ℕ) → v < 2 ^ k → w < 2 ^ k → ((j : ℕ) → j < k → bit v j ≡ bit w j) → v ≡ w
same_bits v w k small small' same = sym (word_of_bits v k small) ∙ word_same (bit v) (bit w) k same ∙ word_of_bits w k small'
