-- Bytes in hexadecimal, as text.
use Rattle.std.specs.Prelude.{ℕ, ◌+◌, ◌-◌, ◌/◌, ◌%◌, ◌<◌, ◌≡◌, List, [], ◌∷◌, ◌++◌, cond, ltb, get_or}
use Prim.Native.Char.{code}
use Rattle.octets.specs.Text.{ascii}
use Rattle.text.specs.Decimal.{digit}

-- the 16 digits of 02, F-4, in their order
unfoldable pub hex_digits : List ℕ
hex_digits = ascii "0123456789abcdef"

-- the lower-case hexadecimal of 01 (the agreed scope; docs/RULES.md has its rules): a digit, the two characters of a byte, and bytes unbroken
abbrev pub hex_digit : ℕ → ℕ
hex_digit value = get_or hex_digits value 0

abbrev pub hex_pair : ℕ → List ℕ
hex_pair byte = hex_digit (byte / 16) ∷ hex_digit (byte % 16) ∷ []

unfoldable pub hexadecimal : List ℕ → List ℕ
hexadecimal [] = []
hexadecimal (byte ∷ bytes) = hex_pair byte ++ hexadecimal bytes

-- a character of 01's table, which had all bytes in hexadecimal: up from 0 and, behind 9, on from a
unfoldable pub character : ℕ → ℕ
character value = cond (ltb value 10) (digit value) (code "a" + (value - 10))

-- Every line stays as it is (02, F-4): byte b has the two characters, the high one and then the low one, that the table had at its places
-- 2 × b and 2 × b + 1.
abbrev pub PairsAsBefore : Type 0
PairsAsBefore = (byte : ℕ) → byte < 256 → hex_pair byte ≡ character (byte / 16) ∷ character (byte % 16) ∷ []
