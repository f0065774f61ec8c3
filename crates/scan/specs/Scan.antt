-- Classes of bytes, places in a text, and its words.
use Rattle.std.specs.Prelude.{ℕ, suc, ◌+◌, ◌-◌, List, [], ◌∷◌, Bool, true, false, not, ◌&&◌, ◌||◌, cond, ltb, leb, eqb, length, drop}
use Rattle.octets.specs.Lists.{part}
use Rattle.text.specs.Decimal.{is_digit}
use Rattle.scan.specs.declared.Stop.{Stop}
use Rattle.scan.specs.declared.Stop.TheVariants.{LineEnd, Comment, Equals, Word, Blank, NotDecimal, NotHex}

-- a space, a tab, a carriage return
abbrev pub is_blank : ℕ → Bool
is_blank b = eqb b 32 || (eqb b 9 || eqb b 13)

-- the value of a hexadecimal digit, 0 to 9, A to F, a to f, and 16 for any other byte
unfoldable pub hex_value : ℕ → ℕ
hex_value b =
    cond (ltb b 48) 16 (cond (leb b 57) (b - 48) (cond (ltb b 65) 16 (cond (leb b 70) (b - 65 + 10) (cond (ltb b 97) 16 (cond (leb b 102) (b - 97 + 10) 16)))))

abbrev pub is_hex : ℕ → Bool
is_hex b = ltb (hex_value b) 16

-- is a byte of the class?
abbrev pub stops : Stop → ℕ → Bool
stops LineEnd b = eqb b 10
stops Comment b = eqb b 35
stops Equals b = eqb b 61
stops Word b = not (is_blank b)
stops Blank b = is_blank b
stops NotDecimal b = not (is_digit b)
stops NotHex b = not (is_hex b)

-- how many elements stand before the first that passes the test
unfoldable pub before : {A : Type 0} → (A → Bool) → List A → ℕ
before test [] = 0
before test (x ∷ xs) = cond (test x) 0 (suc (before test xs))

-- does the one list stand at the front of the other, by a test of their elements?
unfoldable pub front : {A : Type 0} → (A → A → Bool) → List A → List A → Bool
front test [] ys = true
front test (x ∷ xs) [] = false
front test (x ∷ xs) (y ∷ ys) = test x y && front test xs ys

-- the first place from a place on whose byte is of the class, or the end
abbrev pub place : Stop → List ℕ → ℕ → ℕ
place stop text from = from + before (stops stop) (drop from text)

-- the next word from a place on: where it starts, where it ends, and its bytes
abbrev pub word_start : List ℕ → ℕ → ℕ
word_start text at = place Word text at

abbrev pub word_end : List ℕ → ℕ → ℕ
word_end text at = place Blank text (word_start text at)

abbrev pub word_at : List ℕ → ℕ → List ℕ
word_at text at = part text (word_start text at) (word_end text at - word_start text at)

-- does a word follow?
abbrev pub has_word : List ℕ → ℕ → Bool
has_word text at = ltb (word_start text at) (length text)
