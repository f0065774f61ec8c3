-- Laws of numbers that are all zero: a bitwise or is zero only if both its numbers are, and so a loop may join them and test once.
use Prim.Native.Nat.{ℕ, suc, ◌+◌, ◌<◌}
use native.Mathlib.Omega.{arith}
use native.Mathlib.Numerals.{add-one}
use mathlib.Core.Path.{◌≡◌, refl}
use mathlib.Core.List.{List}
use mathlib.Core.Bool.{Bool, true, false, ◌&&◌}
use lib.Bits.{bit_or, or_add_and, and_le_l, and_le_r}
use lib.Dec.{eqb}
use lib.ListN.{length, drop, get_or}
use lib.Seq.{drop-cons}
use borrow.Author.Tests.{eqb-true, eqb-false, eq-eqb, ne_eqb}
use Rattle.octets.specs.Lists.{all, all_zero}

pub or_zero : (a b : ℕ) → eqb (bit_or a b) 0 ≡ (eqb a 0 && eqb b 0)
or_zero a b = go (eqb a 0) refl (eqb b 0) refl
  where
    go : (p : Bool) → eqb a 0 ≡ p → (q : Bool) → eqb b 0 ≡ q → eqb (bit_or a b) 0 ≡ (p && q)
    go true e true f = eq-eqb (bit_or a b) 0 (omega (arith, or_add_and a b, eqb-true a 0 e, eqb-true b 0 f))
    go true e false f = ne_eqb (bit_or a b) 0 (omega (arith, or_add_and a b, and_le_l a b, eqb-false b 0 f))
    go false e q f = ne_eqb (bit_or a b) 0 (omega (arith, or_add_and a b, and_le_r a b, eqb-false a 0 e))

-- one number more
pub one_more : (words : List ℕ) (i or : ℕ) → i < length words
    → (eqb (bit_or or (get_or words i 0)) 0 && all_zero (drop (i + 1) words)) ≡ (eqb or 0 && all_zero (drop i words))
unfolding all
one_more words i or h =
    rw (or_zero or (get_or words i 0), add-one i, drop-cons words i 0 h) (go (eqb or 0) (eqb (get_or words i 0) 0) (all_zero (drop (suc i) words)))
  where
    go : (b c d : Bool) → (b && c && d) ≡ (b && (c && d))
    go true c d = refl
    go false c d = refl
