-- One line of the log (01, the agreed scope, "The log program", and request F-6 of 02, the agreed changes; docs/RULES.md has their rules).
use Rattle.std.specs.Prelude.{ℕ, List, [], ◌∷◌, ◌++◌, map, cond, eqb, Result}
use Prim.Native.Char.{code}
use Rattle.state.specs.declared.refusal.Refusal.{Refusal}
use Rattle.state.specs.Answers.{reply_of}
use Rattle.state.specs.Verdict.{Reply, refused, replied, without_looked}
use Rattle.loglines.specs.declared.answer.Numbers.{Numbers}
use Rattle.loglines.specs.declared.answer.Numbers.TheVariants.{Nothing, One, Two, Fetched}
use Rattle.octets.specs.Text.{ascii}
use Rattle.text.specs.Decimal.{decimal}
use Rattle.text.specs.Hexadecimal.{hexadecimal}

-- the numbers that an accepted call replies
abbrev pub told : Numbers → List ℕ
told Nothing = []
told (One n) = n ∷ []
told (Two m n) = m ∷ n ∷ []
told (Fetched counts) = counts.fresh ∷ counts.replayed ∷ counts.looked ∷ []

-- what each answer of the code stands for
abbrev pub answer_reply : Result Numbers Refusal → Reply
answer_reply = reply_of told

-- 01's letter of a fetch
abbrev pub fetch_letter : ℕ
fetch_letter = code "F"

-- delivered bytes in hexadecimal, or `-` if there are none
abbrev pub shown : List ℕ → List ℕ
shown [] = ascii "-"
shown (byte ∷ bytes) = hexadecimal (byte ∷ bytes)

-- only a fetch shows them
unfoldable pub delivered_fields : (letter : ℕ) (delivered : List ℕ) → List (List ℕ)
delivered_fields letter delivered = cond (eqb letter fetch_letter) (shown delivered ∷ []) []

-- the fields behind the letter: `no` and the refusal number, or `ok`, the numbers of the reply and what was delivered
unfoldable pub answer_fields : (letter : ℕ) → Reply → (delivered : List ℕ) → List (List ℕ)
answer_fields letter (refused k) delivered = ascii "no" ∷ decimal k ∷ []
answer_fields letter (replied ns) delivered = ascii "ok" ∷ map decimal ns ++ delivered_fields letter delivered

-- 01 parts fields by one blank: every field but the first has one before it
unfoldable pub spaced : List (List ℕ) → List ℕ
spaced [] = []
spaced (field ∷ fields) = ascii " " ++ field ++ spaced fields

-- a line: its number, the letter, the answer, of which it does not print how many records were looked at (F-6), and one newline
unfoldable pub line_of : (number letter : ℕ) → Reply → (delivered : List ℕ) → List ℕ
line_of number letter reply delivered =
    decimal number ++ spaced ((letter ∷ []) ∷ answer_fields letter (without_looked reply) delivered) ++ ascii "\n"

-- the line that stands alone where the input is too long
abbrev pub too_long : List ℕ
too_long = ascii "input too long\n"
