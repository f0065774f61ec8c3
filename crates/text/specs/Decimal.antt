-- Numbers in decimal, as text.
use Rattle.std.specs.Prelude.{ℕ, zero, suc, ◌+◌, ◌-◌, ◌*◌, ◌/◌, ◌%◌, ◌≡◌, List, [], ◌∷◌, ◌++◌, Bool, true, false, ◌&&◌, ltb, leb}
use Prim.Native.Char.{code}
use Rattle.octets.specs.Lists.{all}

-- the character of a decimal digit
abbrev pub digit : ℕ → ℕ
digit d = code "0" + d

-- The digits of a number, the most significant first: those of its tenth, and then its last. The steps only bound the recursion.
unfoldable pub digits : (steps n : ℕ) → List ℕ
digits zero n = []
digits (suc steps) n = elim (ltb n 10) [ true ↦ digit n ∷ [] | false ↦ digits steps (n / 10) ++ digit (n % 10) ∷ [] ]

-- the decimal numbers of 01 (the agreed scope; docs/RULES.md has its rules)
unfoldable pub decimal : ℕ → List ℕ
decimal n = digits (suc n) n

-- the number that a reader makes of digits, behind those that it has read already
unfoldable pub read_on : ℕ → List ℕ → ℕ
read_on n [] = n
read_on n (d ∷ ds) = read_on (n * 10 + (d - code "0")) ds

abbrev pub value_of : List ℕ → ℕ
value_of text = read_on 0 text

abbrev pub is_digit : ℕ → Bool
is_digit x = leb (code "0") x && leb x (code "9")

-- The claims on decimal numbers: each is read as the number that it stands for, is made of digits, and begins with 0 only if it is 0.
abbrev pub DecimalReads : Type 0
DecimalReads = (n : ℕ) → value_of (decimal n) ≡ n

abbrev pub DecimalDigits : Type 0
DecimalDigits = (n : ℕ) → all is_digit (decimal n) ≡ true

abbrev pub NoLeadingZero : Type 0
NoLeadingZero = (n : ℕ) (rest : List ℕ) → decimal n ≡ code "0" ∷ rest → n ≡ 0
