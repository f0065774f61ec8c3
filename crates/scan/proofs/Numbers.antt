-- A number that is held at the most while it is read is the number read, held at the most.
use Prim.Native.Nat.{ℕ, ◌+◌, ◌-◌, ◌*◌, ◌≤◌, min}
use native.Mathlib.Omega.{arith}
use mathlib.Core.Path.{◌≡◌, refl}
use mathlib.Core.List.{List, [], ◌∷◌}
use mathlib.Core.Bool.{Bool, true, false}
use lib.Dec.{leb}
use borrow.Author.Tests.{leb-true, leb-false}
use Rattle.text.specs.Decimal.{read_on}
use Rattle.scan.specs.Values.{most}

-- more digits make no number smaller
grows : (n : ℕ) (digits : List ℕ) → n ≤ read_on n digits
unfolding read_on
grows n [] = omega arith
grows n (d ∷ digits) = omega (arith, grows (n * 10 + (d - 48)) digits)

held : (n : ℕ) (digits : List ℕ) → min most (read_on (min most n) digits) ≡ min most (read_on n digits)
held n digits = go (leb n most) refl
  where
    go : (t : Bool) → leb n most ≡ t → min most (read_on (min most n) digits) ≡ min most (read_on n digits)
    go true e = let low : min most n ≡ n = omega (arith, leb-true n most e) in rw low
    go false e = omega (arith, leb-false n most e, grows n digits, grows (min most n) digits)

-- one digit more
pub next_digit : (n d : ℕ) (digits : List ℕ) → min most (read_on (min most (n * 10 + (d - 48))) digits) ≡ min most (read_on n (d ∷ digits))
unfolding read_on
next_digit n d digits = held (n * 10 + (d - 48)) digits
