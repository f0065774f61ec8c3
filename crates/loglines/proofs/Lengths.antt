-- How long a line is, where what it prints of its reply is short and no more than 4,096 bytes are delivered.
use Prim.Native.Nat.{ℕ, ◌+◌, ◌≤◌, ◌<◌, ◌^◌}
use native.Mathlib.Omega.{arith}
use mathlib.Core.Path.{◌≡◌}
use mathlib.Core.List.{List, [], ◌∷◌, ◌++◌}
use mathlib.Core.Bool.{Bool, true, false, cond}
use lib.Dec.{eqb}
use lib.ListN.{length, length-append}
use Rattle.state.specs.Verdict.{Reply, refused, replied, without_looked}
use Rattle.octets.specs.Text.{ascii}
use Rattle.text.specs.Decimal.{decimal}
use Rattle.loglines.specs.Line.{fetch_letter, shown, delivered_fields, answer_fields, spaced, line_of}
use Rattle.text.proofs.Digits.{decimal_short}
use Rattle.text.proofs.Pairs.{length_hex}

-- a short reply: a refusal number of up to two digits, or up to two numbers of up to four
pub data Short : Reply → Type 0 where
  refusal : {k : ℕ} → k < 10 ^ 2 → Short (refused k)
  none : Short (replied [])
  one : {n : ℕ} → n < 10 ^ 4 → Short (replied (n ∷ []))
  two : {m n : ℕ} → m < 10 ^ 4 → n < 10 ^ 4 → Short (replied (m ∷ n ∷ []))

-- a field has a blank before it
length_spaced : (field : List ℕ) (fields : List (List ℕ)) → length (spaced (field ∷ fields)) ≡ 1 + length field + length (spaced fields)
unfolding spaced
length_spaced field fields = omega (arith, length-append field (spaced fields))

number_short : (n : ℕ) (fields : List (List ℕ)) → n < 10 ^ 4 → length (spaced (decimal n ∷ fields)) ≤ 5 + length (spaced fields)
number_short n fields h = omega (arith, length_spaced (decimal n) fields, decimal_short 4 n (omega arith) h)

shown_short : (bytes : List ℕ) → length bytes ≤ 4096 → length (shown bytes) ≤ 8192
shown_short [] few = omega arith
shown_short (x ∷ xs) few = omega (arith, length_hex (x ∷ xs))

module _ (letter : ℕ) (delivered : List ℕ) (few : length delivered ≤ 4096) where
  abbrev last : List (List ℕ)
  last = delivered_fields letter delivered

  delivered_short : length (spaced last) ≤ 8193
  unfolding delivered_fields spaced
  delivered_short = go (eqb letter fetch_letter)
    where
      go : (b : Bool) → length (spaced (cond b (shown delivered ∷ []) [])) ≤ 8193
      go true = omega (arith, length_spaced (shown delivered) [], shown_short delivered few)
      go false = omega arith

  answer_short : (reply : Reply) → Short reply → length (spaced (answer_fields letter reply delivered)) ≤ 3 + 5 + 5 + 8193
  unfolding answer_fields spaced
  answer_short (refused k) (refusal h) = omega (arith, length_spaced (decimal k) [], decimal_short 2 k (omega arith) h)
  answer_short (replied _) none = omega (arith, delivered_short)
  answer_short (replied _) (one {n} h) = omega (arith, number_short n last h, delivered_short)
  answer_short (replied _) (two {m} {n} h k) = omega (arith, number_short m (decimal n ∷ last) h, number_short n last k, delivered_short)

  -- the number, the letter, `ok`, two numbers, the bytes and the newline
  pub line_short :
      (number : ℕ) (reply : Reply) → number < 10 ^ 20 → Short (without_looked reply)
      → length (line_of number letter reply delivered) ≤ 20 + 2 + 3 + 5 + 5 + 8193 + 1
  unfolding line_of
  line_short number reply below short =
      let fields = answer_fields letter (without_looked reply) delivered in
      omega (
        arith,
        length-append (decimal number ++ spaced ((letter ∷ []) ∷ fields)) (ascii "\n"),
        length-append (decimal number) (spaced ((letter ∷ []) ∷ fields)),
        decimal_short 20 number (omega arith) below,
        length_spaced (letter ∷ []) fields,
        answer_short (without_looked reply) short,
      )
