-- What a loop over a span makes of the values: those that it has passed are taken, and the others are as they were.
use Prim.Native.Nat.{ℕ, zero, suc, ◌+◌, ◌-◌, ◌/◌, ◌%◌, ◌^◌, ◌≤◌, ◌<◌}
use native.Mathlib.Omega.{arith}
use mathlib.Core.Path.{◌≡◌, refl, ap, ap₂, sym, ◌∙◌}
use mathlib.Core.List.{List, ◌++◌, map, map-append}
use mathlib.Core.Bool.{Bool, true, false, cond}
use lib.Dec.{eqb}
use lib.Pow.{shr-shr}
use lib.ListN.{length, get_or, take, drop, length-map, length-take}
use lib.Seq.{take_all}
use Rattle.octets.specs.Lists.{overwrite, part}
use Rattle.octets.proofs.Overwrite.{overwrite_same, overwrite_part, overwrite_none, overwrite_then, overwrite_above}
use Rattle.state.specs.Records.{span}
use Rattle.state.proofs.Places.{length_span, span_append, map_read}
use Rattle.bits.specs.Bits.{bit, is_set}
use Rattle.stretches.specs.Values.{bits_from, taken}

-- a shift to the right moves the bits down
pub bit_shifted : (w s j : ℕ) → bit (w / 2 ^ s) j ≡ bit w (s + j)
bit_shifted w s j = ap (λ (n : ℕ). eqb (n % 2) 1) (shr-shr w s j)

-- what is taken depends on the tests and the values of the span alone
pub taken_same :
    (held held' : ℕ → Bool) (values values' window : List ℕ) (a n : ℕ)
    → ((x : ℕ) → a ≤ x → x < a + n → (held x ≡ held' x) × (get_or values x 0 ≡ get_or values' x 0))
    → taken held values window a n ≡ taken held' values' window a n
unfolding span
taken_same held held' values values' window a zero same = refl
taken_same held held' values values' window a (suc n) same =
    let here = same a (omega arith) (omega arith) in
    rw (here.0, here.1, taken_same held held' values values' window (suc a) n (λ x h k. same x (omega arith) (omega arith)))

module _ (held : ℕ → Bool) (values window : List ℕ) (a : ℕ) where
  pub length_taken : (n : ℕ) → length (taken held values window a n) ≡ n
  length_taken n = length-map (span a n) (λ (x : ℕ). cond (held x) (get_or values x 0) (get_or window x 0)) ∙ length_span a n

  -- none, and some more
  pub taken_none : overwrite values a (taken held values window a 0) ≡ values
  unfolding span
  taken_none = overwrite_none values a

  pub taken_more : (n k : ℕ) → taken held values window a (n + k) ≡ taken held values window a n ++ taken held values window (a + n) k
  taken_more n k =
      ap (map (λ (x : ℕ). cond (held x) (get_or values x 0) (get_or window x 0))) (span_append a n k)
      ∙ map-append (λ (x : ℕ). cond (held x) (get_or values x 0) (get_or window x 0)) (span a n) (span (a + n) k)

  -- the values once the first n of the span are taken
  abbrev pub passed : ℕ → List ℕ
  passed n = overwrite values a (taken held values window a n)

  -- a value that is not passed yet is as it was
  still : (n x : ℕ) → a + n ≤ length values → a + n ≤ x → get_or (passed n) x 0 ≡ get_or values x 0
  still n x fits far =
      overwrite_above values (taken held values window a n) a (omega (arith, length_taken n)) x 0 (omega (arith, length_taken n))

  -- so the next k are taken from the values as they were
  pub passed_more :
      (n k : ℕ) → a + n + k ≤ length values
      → overwrite (passed n) (a + n) (taken held (passed n) window (a + n) k) ≡ passed (n + k)
  passed_more n k fits =
      ap (overwrite (passed n) (a + n)) (taken_same held held (passed n) values window (a + n) k (λ x h i. (refl, still n x (omega arith) h)))
      ∙ ap (λ (i : ℕ). overwrite (passed n) (a + i) (taken held values window (a + n) k)) (sym (length_taken n))
      ∙ overwrite_then values (taken held values window a n) (taken held values window (a + n) k) a (omega arith)
      ∙ ap (overwrite values a) (sym (taken_more n k))

-- where none of the span is held it is the window's, and where all is it stays
pub taken_window : (held : ℕ → Bool) (values window : List ℕ) (a n : ℕ) → a + n ≤ length window → ((i : ℕ) → i < n → held (a + i) ≡ false)
    → taken held values window a n ≡ part window a n
taken_window held values window a n fits none =
    map_read (λ x. cond (held x) (get_or values x 0) (get_or window x 0)) window a a n fits (λ i h. rw (none i h))

pub taken_held : (held : ℕ → Bool) (values window : List ℕ) (a n : ℕ) → a + n ≤ length values → ((i : ℕ) → i < n → held (a + i) ≡ true)
    → overwrite values a (taken held values window a n) ≡ values
taken_held held values window a n fits every =
    ap (overwrite values a) (map_read (λ x. cond (held x) (get_or values x 0) (get_or window x 0)) values a a n fits (λ i h. rw (every i h)))
    ∙ overwrite_same values a n fits

-- the window's part as a function that copies gets it
pub lent_part : (l : List ℕ) (room a n : ℕ) → n ≤ room → take room (take (a + n - a) (drop a l)) ≡ part l a n
lent_part l room a n fits =
    let many : a + n - a ≡ n = omega arith in
    ap (λ (k : ℕ). take room (take k (drop a l))) many ∙ take_all room (take n (drop a l)) (simp length-take (omega arith))

-- what was taken is what a function gets that is lent the values of the span
pub lent_taken : (held : ℕ → Bool) (values window now : List ℕ) (room a n : ℕ) → n ≤ room → a + n ≤ length values
    → now ≡ overwrite values a (taken held values window a n) → take room (take (a + n - a) (drop a now)) ≡ taken held values window a n
lent_taken held values window now room a n fits reach is =
    let bytes = taken held values window a n in
    let many = length_taken held values window a n in
    lent_part now room a n fits ∙ ap (λ (l : List ℕ). part l a n) is ∙ ap (part (overwrite values a bytes) a) (sym many)
    ∙ overwrite_part values bytes a (omega (arith, many))

-- the bits of a word from that of an address on are those of the addresses from there on
same_word : (words : List ℕ) (x y : ℕ) → x ≤ y → y < x + (64 - x % 64)
    → bits_from x (get_or words (x / 64) 0 / 2 ^ (x % 64)) y ≡ is_set words y
same_word words x y after near =
    let word : y / 64 ≡ x / 64 = omega arith in
    let place : x % 64 + (y - x) ≡ y % 64 = omega arith in
    bit_shifted (get_or words (x / 64) 0) (x % 64) (y - x) ∙ ap₂ (λ (w j : ℕ). bit (get_or words w 0) j) (sym word) place

-- some values taken, by a word of the map
pub passed_word :
    (words values window : List ℕ) (low i k : ℕ) → low + i + k ≤ length values → k ≤ 64 - (low + i) % 64 →
    let now = passed (is_set words) values window low i in
    overwrite now (low + i) (taken (bits_from (low + i) (get_or words ((low + i) / 64) 0 / 2 ^ ((low + i) % 64))) now window (low + i) k)
    ≡ passed (is_set words) values window low (i + k)
passed_word words values window low i k fits near =
    let now = passed (is_set words) values window low i in
    let x = low + i in
    ap (overwrite now x)
    (taken_same (bits_from x (get_or words (x / 64) 0 / 2 ^ (x % 64))) (is_set words) now now window x k
    (λ y after below. (same_word words x y after (omega arith), refl)))
    ∙ passed_more (is_set words) values window low i k fits
