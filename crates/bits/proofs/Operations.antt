-- What the operations on words do to their bits: and, or, not, a shift by one with a bit put in below, the highest bit, and masks.
use Prim.Native.Nat.{ℕ, zero, suc, ◌+◌, ◌-◌, ◌*◌, ◌/◌, ◌%◌, ◌^◌, ◌≤◌, ◌<◌, min, max}
use native.Mathlib.Omega.{arith}
use native.Mathlib.Nat.{pow-suc, mod-eq_of_lt, div-lt_iff_lt-mul, zero-min, suc-min-suc, min-zero}
use mathlib.Core.Path.{◌≡◌, refl, sym, ap, ap₂, ◌∙◌}
use mathlib.Core.Bool.{Bool, true, false, not, ◌&&◌, ◌||◌, or-false}
use lib.Arith.{mod-mul}
use lib.Bits.{bit_and, bit_or, and_step, or_step, and_shr, or_shr, and_lt, or_lt}
use lib.Dec.{ltb, leb, eqb, leb-suc-suc}
use lib.Pow.{pow_pos, pow-lt}
use borrow.Author.Tests.{ltb-true, ltb-false, le-ltb, lt-ltb, le-leb, lt-leb}
use Rattle.state.specs.Records.{in_span}
use Rattle.state.proofs.Cases.{leb_same}
use Rattle.bits.specs.Bits.{bit, word_of, lower}
use Rattle.bits.proofs.Word.{digit, digit_small, digit_odd, bit_lowest, bit_higher, bit_of_zero, word_below, word_bit, word_same, same_bits}

-- a digit of 0 or 1 as a bit
data Digit : ℕ → Type 0 where
  off : Digit 0
  on : Digit 1

digit_of : (w : ℕ) → Digit (w % 2)
digit_of w = go (w % 2) (omega arith)
  where
    go : (d : ℕ) → d < 2 → Digit d
    go zero h = off
    go (suc zero) h = on
    go (suc (suc d)) h = absurd (omega arith)

both_digits : {a b : ℕ} → Digit a → Digit b → eqb (min a b) 1 ≡ (eqb a 1 && eqb b 1)
both_digits off off = refl
both_digits off on = refl
both_digits on off = refl
both_digits on on = refl

either_digit : {a b : ℕ} → Digit a → Digit b → eqb (max a b) 1 ≡ (eqb a 1 || eqb b 1)
either_digit off off = refl
either_digit off on = refl
either_digit on off = refl
either_digit on on = refl

other_digit : {a b : ℕ} → Digit a → Digit b → b ≡ 1 - a → eqb b 1 ≡ not (eqb a 1)
other_digit off d e = rw e
other_digit on d e = rw e

module _ (a b j : ℕ) where
  pub bit_and_lem : bit (bit_and a b) j ≡ (bit a j && bit b j)
  bit_and_lem =
      let x = a / 2 ^ j in
      let y = b / 2 ^ j in
      let odd : bit_and x y % 2 ≡ min (x % 2) (y % 2) = omega (arith, and_step x y) in
      ap (λ (w : ℕ). eqb (w % 2) 1) (and_shr a b j) ∙ ap (λ (d : ℕ). eqb d 1) odd ∙ both_digits (digit_of x) (digit_of y)

  pub bit_or_lem : bit (bit_or a b) j ≡ (bit a j || bit b j)
  bit_or_lem =
      let x = a / 2 ^ j in
      let y = b / 2 ^ j in
      let odd : bit_or x y % 2 ≡ max (x % 2) (y % 2) = omega (arith, or_step x y) in
      ap (λ (w : ℕ). eqb (w % 2) 1) (or_shr a b j) ∙ ap (λ (d : ℕ). eqb d 1) odd ∙ either_digit (digit_of x) (digit_of y)

-- all k bits, less those of a word
pub bit_not : (w k j : ℕ) → w < 2 ^ k → j < k → bit (2 ^ k - 1 - w) j ≡ not (bit w j)
bit_not w zero j small h = absurd (omega arith)
bit_not w (suc k) zero small h =
    let less : w < 2 ^ k * 2 = rw (pow-suc 2 k) at small in
    bit_lowest (2 ^ suc k - 1 - w)
    ∙ other_digit (digit_of w) (digit_of (2 ^ suc k - 1 - w)) (rw (pow-suc 2 k) (omega arith))
    ∙ ap not (sym (bit_lowest w))
bit_not w (suc k) (suc j) small h =
    let less : w < 2 ^ k * 2 = rw (pow-suc 2 k) at small in
    let half : (2 ^ suc k - 1 - w) / 2 ≡ 2 ^ k - 1 - w / 2 = rw (pow-suc 2 k) (omega arith) in
    bit_higher (2 ^ suc k - 1 - w) j ∙ ap (λ (v : ℕ). bit v j) half ∙ bit_not (w / 2) k j (omega arith) (omega arith) ∙ ap not (sym (bit_higher w j))

-- the k low bits of a word
pub bit_low : (w k j : ℕ) → j < k → bit (w % 2 ^ k) j ≡ bit w j
bit_low w zero j h = absurd (omega arith)
bit_low w (suc k) zero h =
    let parts = mod-mul w {m = 2 ^ k} {c = 2} (pow_pos k) (omega arith) in
    let odd : w % 2 ^ suc k % 2 ≡ w % 2 = rw (pow-suc 2 k) (omega arith) in
    bit_lowest (w % 2 ^ suc k) ∙ ap (λ (d : ℕ). eqb d 1) odd ∙ sym (bit_lowest w)
bit_low w (suc k) (suc j) h =
    let parts = mod-mul w {m = 2 ^ k} {c = 2} (pow_pos k) (omega arith) in
    let half : w % 2 ^ suc k / 2 ≡ w / 2 % 2 ^ k = rw (pow-suc 2 k) (omega arith) in
    bit_higher (w % 2 ^ suc k) j ∙ ap (λ (v : ℕ). bit v j) half ∙ bit_low (w / 2) k j (omega arith) ∙ sym (bit_higher w j)

-- the highest of k + 1 bits
pub bit_top : (w k : ℕ) → w < 2 ^ suc k → w / 2 ^ k ≡ digit (bit w k)
bit_top w k small =
    let less : w < 2 * 2 ^ k = omega (arith, rw (pow-suc 2 k) at small) in
    go (w / 2 ^ k) ((div-lt_iff_lt-mul (pow_pos k)).1 less)
  where
    go : (d : ℕ) → d < 2 → d ≡ digit (eqb (d % 2) 1)
    go zero h = refl
    go (suc zero) h = refl
    go (suc (suc d)) h = absurd (omega arith)

-- A word shifted up by one, with a bit put in below: its highest bit is dropped.
pub bit_shifted : (w k : ℕ) (first : Bool) (j : ℕ) → j < k → bit (bit_or (w * 2 % 2 ^ k) (digit first)) j ≡ lower first (bit w) j
bit_shifted w k first zero h =
    let even : w * 2 % 2 ≡ 0 = omega arith in
    let own : digit first % 2 ≡ digit first = omega (arith, digit_small first) in
    bit_or_lem (w * 2 % 2 ^ k) (digit first) 0
    ∙ ap₂ ◌||◌ (bit_low (w * 2) k 0 h ∙ bit_lowest (w * 2) ∙ ap (λ (d : ℕ). eqb d 1) even)
    (bit_lowest (digit first) ∙ ap (λ (d : ℕ). eqb d 1) own ∙ digit_odd first)
bit_shifted w k first (suc j) h =
    let half : w * 2 / 2 ≡ w = omega arith in
    let none : digit first / 2 ≡ 0 = omega (arith, digit_small first) in
    bit_or_lem (w * 2 % 2 ^ k) (digit first) (suc j)
    ∙ ap₂ ◌||◌ (bit_low (w * 2) k (suc j) h ∙ bit_higher (w * 2) j ∙ ap (λ (v : ℕ). bit v j) half)
    (bit_higher (digit first) j ∙ ap (λ (v : ℕ). bit v j) none ∙ bit_of_zero j)
    ∙ or-false (bit w j)

-- The same of the words of tests.
module _ (f g : ℕ → Bool) (k : ℕ) where
  pub word_and : bit_and (word_of f k) (word_of g k) ≡ word_of (λ j. f j && g j) k
  word_and =
      same_bits (bit_and (word_of f k) (word_of g k)) (word_of (λ j. f j && g j) k) k (and_lt k (word_of f k) (word_of g k) (word_below f k) (word_below g k))
      (word_below (λ j. f j && g j) k)
      (λ j h. bit_and_lem (word_of f k) (word_of g k) j ∙ ap₂ ◌&&◌ (word_bit f k j h) (word_bit g k j h) ∙ sym (word_bit (λ j. f j && g j) k j h))

  pub word_or : bit_or (word_of f k) (word_of g k) ≡ word_of (λ j. f j || g j) k
  word_or =
      same_bits (bit_or (word_of f k) (word_of g k)) (word_of (λ j. f j || g j) k) k (or_lt k (word_of f k) (word_of g k) (word_below f k) (word_below g k))
      (word_below (λ j. f j || g j) k)
      (λ j h. bit_or_lem (word_of f k) (word_of g k) j ∙ ap₂ ◌||◌ (word_bit f k j h) (word_bit g k j h) ∙ sym (word_bit (λ j. f j || g j) k j h))

-- Tests of which no two pass at one place, and one of them passes just where a third does: their words add up.
pub word_add : (f g h : ℕ → Bool) (k : ℕ) → ((j : ℕ) → digit (f j) + digit (g j) ≡ digit (h j)) → word_of f k + word_of g k ≡ word_of h k
unfolding word_of
word_add f g h zero sum = refl
word_add f g h (suc k) sum =
    omega (arith, sum 0, word_add (λ j. f (suc j)) (λ j. g (suc j)) (λ j. h (suc j)) k (λ j. sum (suc j)))

-- the word of the places below n
pub word_first : (n k : ℕ) → word_of (λ j. ltb j n) k ≡ 2 ^ min n k - 1
unfolding word_of
word_first n zero = rw (min-zero n)
word_first zero (suc k) =
    let rest : word_of (λ j. ltb (suc j) 0) k ≡ word_of (λ j. ltb j 0) k
    = word_same (λ j. ltb (suc j) 0) (λ j. ltb j 0) k (λ j _. le-ltb (suc j) 0 (omega arith) ∙ sym (le-ltb j 0 (omega arith))) in
    let none : 2 ^ min 0 k - 1 ≡ 0 = rw (zero-min k) in
    rw (zero-min (suc k)) (omega (arith, rest, word_first zero k, none))
word_first (suc n) (suc k) =
    let rest : word_of (λ j. ltb (suc j) (suc n)) k ≡ word_of (λ j. ltb j n) k
    = word_same (λ j. ltb (suc j) (suc n)) (λ j. ltb j n) k (λ j _. leb-suc-suc (suc j) n) in
    rw (lt-ltb 0 (suc n) (omega arith), suc-min-suc n k, pow-suc 2 (min n k)) (omega (arith, rest, word_first n k, pow_pos (min n k)))

-- the places from low up to high are those below high without those below low
pub between_first : (low high : ℕ) → low ≤ high → (j : ℕ) → digit (leb low j && ltb j high) + digit (ltb j low) ≡ digit (ltb j high)
between_first low high h j = go (ltb j low) refl (ltb j high) refl
  where
    go : (p : Bool) → ltb j low ≡ p → (q : Bool) → ltb j high ≡ q → digit (leb low j && q) + digit p ≡ digit q
    go true e true f = rw (lt-leb low j (ltb-true j low e))
    go true e false f = absurd (omega (arith, ltb-true j low e, ltb-false j high f))
    go false e q f = rw (le-leb low j (ltb-false j low e)) (omega arith)

-- the code's word of the places below n
pub first_shifted : (n k : ℕ) → n < k → 1 * 2 ^ n % 2 ^ k ≡ 2 ^ n
first_shifted n k h = mod-eq_of_lt (omega (arith, pow-lt h)) ∙ omega arith

pub first_word : (n k : ℕ) → n < k → 1 * 2 ^ n % 2 ^ k - 1 ≡ word_of (λ j. ltb j n) k
first_word n k h =
    let least : min n k ≡ n = omega arith in
    ap (λ (w : ℕ). w - 1) (first_shifted n k h) ∙ ap (λ (m : ℕ). 2 ^ m - 1) (sym least) ∙ sym (word_first n k)

pub full_word : (n k : ℕ) → k ≤ n → 2 ^ k - 1 ≡ word_of (λ j. ltb j n) k
full_word n k h =
    let least : min n k ≡ k = omega arith in
    ap (λ (m : ℕ). 2 ^ m - 1) (sym least) ∙ sym (word_first n k)

-- The bits of a span among the k addresses from base on: those of the addresses below its end, without those below its start.
pub span_word : (base low high k : ℕ) → low ≤ high
    → word_of (λ j. in_span low (high - low) (base + j)) k + word_of (λ j. ltb j (low - base)) k ≡ word_of (λ j. ltb j (high - base)) k
span_word base low high k h =
    word_add (λ j. in_span low (high - low) (base + j)) (λ j. ltb j (low - base)) (λ j. ltb j (high - base)) k
    (λ j. ap (λ (b : Bool). digit b + digit (ltb j (low - base))) (here j) ∙ between_first (low - base) (high - base) (omega arith) j)
  where
    here : (j : ℕ) → in_span low (high - low) (base + j) ≡ (leb (low - base) j && ltb j (high - base))
    here j =
        ap₂ ◌&&◌ (leb_same low (base + j) (low - base) j (omega arith) (omega arith))
        (leb_same (suc (base + j)) (low + (high - low)) (suc j) (high - base) (omega arith) (omega arith))
