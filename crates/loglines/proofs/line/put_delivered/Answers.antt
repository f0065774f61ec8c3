-- The tests say what is shown: nothing, `-`, or the bytes in hexadecimal.
use Prim.Native.Nat.{ℕ}
use native.Mathlib.Omega.{arith}
use mathlib.Core.Path.{◌≡◌, refl}
use mathlib.Core.List.{List, [], ◌∷◌, ◌++◌, append-nil}
use lib.ListN.{length}
use borrow.Author.Tests.{eq-eqb, ne_eqb}
use Rattle.octets.specs.Text.{ascii, Puts}
use Rattle.text.specs.Hexadecimal.{hexadecimal}
use Rattle.loglines.specs.Line.{fetch_letter, delivered_fields, spaced}
use Rattle.text.proofs.Putting.{puts_is, puts_both}
use Rattle.loglines.proofs.line.put_delivered.Goals as goal

-- what is shown for another letter, and for a fetch that delivered nothing or something
module _ (letter : ℕ) where
  abbrev text : List ℕ → List ℕ
  text delivered = spaced (delivered_fields letter delivered)

  other : (delivered : List ℕ) → (letter ≡ fetch_letter → ⊥) → [] ≡ text delivered
  unfolding delivered_fields spaced
  other delivered not-fetch = rw (ne_eqb letter fetch_letter not-fetch)

  nothing : (delivered : List ℕ) → letter ≡ fetch_letter → length delivered ≡ 0 → ascii " -" ≡ text delivered
  unfolding delivered_fields spaced
  nothing [] fetch none = rw (eq-eqb letter fetch_letter fetch)
  nothing (byte ∷ bytes) fetch none = absurd (omega arith)

  something : (delivered : List ℕ) → letter ≡ fetch_letter → (length delivered ≡ 0 → ⊥) → ascii " " ++ hexadecimal delivered ≡ text delivered
  unfolding delivered_fields spaced
  something [] fetch some = absurd (some refl)
  something (byte ∷ bytes) fetch some = rw (eq-eqb letter fetch_letter fetch, append-nil)

pub returns-then-letter-ne-FETCH : goal.returns-then-letter-ne-FETCH
returns-then-letter-ne-FETCH c =
    let args = c.args in
    puts_is c.put.ensures (other args.letter args.delivered.now c.if-letter-ne-FETCH.true)

pub returns-then-is_empty : goal.returns-then-is_empty
returns-then-is_empty c =
    let args = c.args in
    let put_word = c.put_word in
    let dash : Puts args.out.now args.at (ascii " -") put_word.result put_word.new.out = put_word.ensures in
    puts_is dash (nothing args.letter args.delivered.now c.if-letter-ne-FETCH.false (grind arith))

pub returns : goal.returns
returns c =
    let args = c.args in
    puts_is (puts_both c.put_byte-next.ensures c.put_hex.ensures)
    (something args.letter args.delivered.now c.if-letter-ne-FETCH.false (grind arith))
