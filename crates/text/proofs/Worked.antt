-- The least number, every hexadecimal digit, and text that is cut where the buffer ends.
use mathlib.Core.Path.{◌≡◌, refl}
use mathlib.Core.List.{[], ◌∷◌}
use Rattle.octets.specs.Text.{ascii, Puts}
use Rattle.text.specs.Decimal.{digits, decimal}
use Rattle.text.specs.Hexadecimal.{hex_digits, hexadecimal}

zero_digit : decimal 0 ≡ ascii "0"
unfolding decimal digits
zero_digit = refl

all_digits : hexadecimal (1 ∷ 35 ∷ 69 ∷ 103 ∷ 137 ∷ 171 ∷ 205 ∷ 239 ∷ []) ≡ ascii "0123456789abcdef"
unfolding hexadecimal hex_digits
all_digits = refl

cut : Puts (ascii "....") 2 (ascii "abc") 4 (ascii "..ab")
cut = record { bytes = refl; next = refl }

past : Puts (ascii "....") 5 (ascii "abc") 4 (ascii "....")
past = record { bytes = refl; next = refl }
