-- A text as a message shows it.
use Rattle.std.specs.Prelude.{ℕ, List, [], ◌∷◌, ◌++◌, Bool, not, ◌&&◌, cond, ltb, leb, eqb, length, take}
use Prim.Native.Char.{code}
use Rattle.octets.specs.Text.{ascii}
use Rattle.text.specs.Hexadecimal.{hex_pair}

-- a printable character of ASCII, but for the one that begins an escape
abbrev pub is_plain : ℕ → Bool
is_plain byte = leb (code " ") byte && (leb byte (code "~") && not (eqb byte (code "\\")))

-- any other byte is shown in hexadecimal
unfoldable pub quoted_byte : ℕ → List ℕ
quoted_byte byte = cond (is_plain byte) (byte ∷ []) (ascii "\\x" ++ hex_pair byte)

unfoldable pub quoted_all : List ℕ → List ℕ
quoted_all [] = []
quoted_all (byte ∷ bytes) = quoted_byte byte ++ quoted_all bytes

-- the first 60 bytes, and three dots if there are more
unfoldable pub quoted : List ℕ → List ℕ
quoted text = quoted_all (take 60 text) ++ cond (ltb 60 (length text)) (ascii "...") []
