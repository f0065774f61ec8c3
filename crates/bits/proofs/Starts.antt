-- The runs of a test are as many as the addresses at which a run starts.
use Prim.Native.Nat.{ℕ, zero, suc, ◌+◌, ◌-◌, ◌*◌, ◌/◌, ◌%◌, ◌^◌, ◌≤◌, ◌<◌}
use native.Mathlib.Omega.{arith}
use native.Mathlib.Nat.{mod-lt, add-zero, add-suc, zero-add}
use mathlib.Core.Path.{◌≡◌, refl, sym, ap, ap₂, ◌∙◌}
use mathlib.Core.List.{List, [], ◌∷◌}
use mathlib.Core.Bool.{Bool, true, false, cond, not, ◌&&◌, and-true, and-false}
use lib.Bits.{bit_and, bit_or, or_lt, and_le_l}
use lib.Count.{ones}
use lib.Dec.{eqb}
use lib.Pow.{pow_pos, pow_mono}
use lib.ListN.{length}
use borrow.Author.Tests.{eq-eqb, ne_eqb}
use Rattle.octets.specs.Lists.{count}
use Rattle.state.specs.declared.Record.{Record}
use Rattle.state.specs.Records.{span}
use Rattle.state.specs.Runs.{in_front, runs_from}
use Rattle.bits.specs.declared.walk.Walk.{Walk}
use Rattle.bits.specs.Walk.{Walked, Walking}
use Rattle.bits.specs.Bits.{word_limit, map_limit, bit, word_of, word_at, lower, starts_at}
use Rattle.bits.proofs.Word.{digit, digit_small, digit_odd, word_below, word_bit, same_bits}
use Rattle.bits.proofs.Operations.{bit_and_lem, bit_not, bit_shifted, bit_top}
use Rattle.bits.proofs.Counts.{count_empty, count_bound, count_same}
use Rattle.bits.proofs.Words.{word_ones, count_more}

-- does the first of the records start at x?
headed : ℕ → List Record → Bool
headed x [] = false
headed x (r ∷ rs) = eqb r.start x

-- an address in front of records is one record more, if none starts right behind it
front_length : (x : ℕ) (rs : List Record) → length (in_front x rs) + digit (headed (suc x) rs) ≡ suc (length rs)
unfolding headed in_front
front_length x [] = omega arith
front_length x (r ∷ rs) = go (eqb r.start (suc x))
  where
    go : (b : Bool) → length (cond b (record { start = x; len = suc r.len } ∷ rs) (record { start = x; len = 1 } ∷ r ∷ rs)) + digit b ≡ suc (suc (length rs))
    go true = omega arith
    go false = omega arith

front_headed : (x y : ℕ) (rs : List Record) → headed y (in_front x rs) ≡ eqb x y
unfolding headed in_front
front_headed x y [] = refl
front_headed x y (r ∷ rs) = go (eqb r.start (suc x))
  where
    go : (b : Bool) → headed y (cond b (record { start = x; len = suc r.len } ∷ rs) (record { start = x; len = 1 } ∷ r ∷ rs)) ≡ eqb x y
    go true = refl
    go false = refl

module _ (test : ℕ → Bool) where
  -- runs start where the addresses do or behind that
  headed_later : (y x n : ℕ) → y < x → headed y (runs_from test x n) ≡ false
  unfolding headed runs_from
  headed_later y x zero h = refl
  headed_later y x (suc n) h = go (test x) (headed_later y (suc x) n (omega arith))
    where
      go : (b : Bool) → headed y (runs_from test (suc x) n) ≡ false
          → headed y (cond b (in_front x (runs_from test (suc x) n)) (runs_from test (suc x) n)) ≡ false
      go true later = front_headed x y (runs_from test (suc x) n) ∙ ne_eqb x y (omega arith)
      go false later = later

  -- the first starts at the first address just if that passes
  headed_first : (x n : ℕ) → headed x (runs_from test x (suc n)) ≡ test x
  unfolding runs_from
  headed_first x n = go (test x)
    where
      go : (b : Bool) → headed x (cond b (in_front x (runs_from test (suc x) n)) (runs_from test (suc x) n)) ≡ b
      go true = front_headed x x (runs_from test (suc x) n) ∙ eq-eqb x x refl
      go false = headed_later x (suc x) n (omega arith)

  -- one address more
  one_more : (x n : ℕ) (rest : List Record) → headed (suc x) rest ≡ test (suc x) → length rest ≡ digit (test (suc x)) + n → (b : Bool)
      → length (cond b (in_front x rest) rest) ≡ digit b + (digit (test (suc x) && not b) + n)
  one_more x n rest first size false = rw (and-true (test (suc x))) (omega arith)
  one_more x n rest first size true = rw (and-false (test (suc x))) (omega (arith, rw first at (front_length x rest)))

  starts_from : (x n : ℕ) → length (runs_from test x (suc n)) ≡ digit (test x) + count (starts_at false test) (span (suc x) n)
  unfolding runs_from count span in_front
  starts_from x zero = go (test x)
    where
      go : (b : Bool) → length (cond b (in_front x []) []) ≡ digit b + 0
      go true = refl
      go false = refl
  starts_from x (suc n) =
      one_more x (count (starts_at false test) (span (suc (suc x)) n)) (runs_from test (suc x) (suc n)) (headed_first (suc x) n) (starts_from (suc x) n) (test x)

  pub runs_starts : (n : ℕ) → length (runs_from test 0 n) ≡ count (starts_at false test) (span 0 n)
  unfolding runs_from count span
  runs_starts zero = refl
  runs_starts (suc n) = starts_from 0 n ∙ ap (λ (b : Bool). digit b + count (starts_at false test) (span 1 n)) (sym (and-true (test 0)))

-- The code's word of the starts in a word of k bits, where `first` is the bit below its lowest: its bits without those above a set bit.
module _ (w k : ℕ) (first : Bool) (small : w < 2 ^ k) (some : 0 < k) where
  abbrev above : ℕ
  above = bit_or (w * 2 % 2 ^ k) (digit first)

  above_small : above < 2 ^ k
  above_small = or_lt k (w * 2 % 2 ^ k) (digit first) (mod-lt (w * 2) (pow_pos k)) (omega (arith, digit_small first, pow_mono {i = 1} {j = k} some))

  start_bit : (j : ℕ) → j < k → bit (bit_and w (2 ^ k - 1 - above)) j ≡ starts_at first (bit w) j
  start_bit j h =
      bit_and_lem w (2 ^ k - 1 - above) j
      ∙ ap (λ (b : Bool). bit w j && b) (bit_not above k j above_small h ∙ ap not (bit_shifted w k first j h))

  word_starts : ones (bit_and w (2 ^ k - 1 - above)) ≡ count (starts_at first (bit w)) (span 0 k)
  word_starts =
      ap ones
      (same_bits (bit_and w (2 ^ k - 1 - above)) (word_of (starts_at first (bit w)) k) k (omega (arith, and_le_l w (2 ^ k - 1 - above)))
      (word_below (starts_at first (bit w)) k) (λ j h. start_bit j h ∙ sym (word_bit (starts_at first (bit w)) k j h)))
      ∙ word_ones (starts_at first (bit w)) k

pub carry_bit : (carry : ℕ) → carry ≤ 1 → digit (eqb carry 1) ≡ carry
carry_bit zero h = refl
carry_bit (suc zero) h = refl
carry_bit (suc (suc n)) h = absurd (omega arith)

pub carry_starts : (w carry k : ℕ) → w < 2 ^ k → 0 < k → carry ≤ 1
    → ones (bit_and w (2 ^ k - 1 - bit_or (w * 2 % 2 ^ k) carry)) ≡ count (starts_at (eqb carry 1) (bit w)) (span 0 k)
carry_starts w carry k small some few =
    ap (λ (c : ℕ). ones (bit_and w (2 ^ k - 1 - bit_or (w * 2 % 2 ^ k) c))) (sym (carry_bit carry few)) ∙ word_starts w k (eqb carry 1) small some

-- A walk over the words begins, and its numbers are small.
pub walk_from : (test : ℕ → Bool) → Walked test (record { n = 0; carry = 0 }) 0
walk_from test = record { counted = sym (count_empty (starts_at false test) 0); carried = refl }

pub walk_small : {test : ℕ → Bool} {w : Walk} {i : ℕ} → Walked test w i → Walking w i
walk_small {test} {w} {i} before = record {
  few = omega (arith, before.counted, count_bound (starts_at false test) 0 (64 * i));
  bit = omega (arith, before.carried, digit_small (lower false test (64 * i)));
}

-- one word more
module _ (test : ℕ → Bool) (b : Walk) (i : ℕ) (before : Walked test b i) (w : ℕ) (word : w ≡ word_at test i) where
  reads : (j : ℕ) → j < 64 → bit w j ≡ test (64 * i + j)
  reads j h = ap (λ (v : ℕ). bit v j) word ∙ word_bit (λ j. test (64 * i + j)) 64 j h

  below : (j : ℕ) → j < 64 → lower (eqb b.carry 1) (bit w) j ≡ lower false test (64 * i + j)
  below zero h =
      ap (λ (c : ℕ). eqb c 1) before.carried ∙ digit_odd (lower false test (64 * i)) ∙ ap (lower false test) (sym (add-zero (64 * i)))
  below (suc j) h = reads j (omega arith) ∙ ap (lower false test) (sym (add-suc (64 * i) j))

  here : (j : ℕ) → j < 64 → starts_at (eqb b.carry 1) (bit w) (0 + j) ≡ starts_at false test (64 * i + j)
  here j h = ap (starts_at (eqb b.carry 1) (bit w)) (zero-add j) ∙ ap₂ (λ (p q : Bool). p && not q) (reads j h) (below j h)

  top : w / 2 ^ 63 ≡ digit (lower false test (64 * (i + 1)))
  top =
      let small : w < 2 ^ 64 = omega (arith, word, word_below (λ j. test (64 * i + j)) 64) in
      let next : suc (64 * i + 63) ≡ 64 * (i + 1) = omega arith in
      bit_top w 63 small ∙ ap digit (reads 63 (omega arith) ∙ ap (lower false test) next)

  pub walk_on : (r : ℕ) → r ≡ count (starts_at (eqb b.carry 1) (bit w)) (span 0 64)
      → Walked test (record { n = b.n + r; carry = w / 2 ^ 63 }) (i + 1)
  walk_on r found = record {
    counted =
        ap₂ (λ (x y : ℕ). x + y) before.counted
        (found ∙ count_same (starts_at (eqb b.carry 1) (bit w)) (starts_at false test) 0 (64 * i) 64 here)
        ∙ sym (count_more (starts_at false test) i);
    carried = top;
  }

-- all words
pub walk_all : (test : ℕ → Bool) (w : Walk) → Walked test w word_limit → w.n ≡ length (runs_from test 0 map_limit)
walk_all test w end = end.counted ∙ sym (runs_starts test map_limit)
