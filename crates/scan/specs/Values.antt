-- What the digits of a word stand for. The number of decimal digits is `value_of` of the crate text.
use Rattle.std.specs.Prelude.{ℕ, ◌+◌, ◌*◌, ◌%◌, List, [], ◌∷◌}
use Rattle.scan.specs.Scan.{hex_value}

-- a number above this counts as this one
abbrev pub most : ℕ
most = 1000000

-- the byte of two hexadecimal digits; what is no digit counts as 0
abbrev pub pair_value : ℕ → ℕ → ℕ
pair_value high low = hex_value high % 16 * 16 + hex_value low % 16

-- the bytes of hexadecimal digits, two and two
unfoldable pub bytes_of : List ℕ → List ℕ
bytes_of [] = []
bytes_of (high ∷ []) = []
bytes_of (high ∷ low ∷ rest) = pair_value high low ∷ bytes_of rest
