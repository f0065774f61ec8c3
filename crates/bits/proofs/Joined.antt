-- Numbers joined by a bitwise or are zero only if each is.
use Prim.Native.Nat.{ℕ}
use native.Mathlib.Omega.{arith}
use mathlib.Core.Path.{◌≡◌, refl, ap, sym, ◌∙◌}
use mathlib.Core.List.{List, [], ◌∷◌}
use mathlib.Core.Bool.{Bool, true, false, ◌&&◌, and-true}
use lib.Bits.{bit_or, or_add_and, and_le_r}
use lib.Dec.{eqb}
use Rattle.std.proofs.Common.{fold}
use Rattle.octets.specs.Lists.{all, all_zero}
use Rattle.octets.proofs.Zero.{or_zero}

pub joined_zero : (or : ℕ) (words : List ℕ) → eqb (fold bit_or or words) 0 ≡ (eqb or 0 && all_zero words)
unfolding all
joined_zero or [] = sym (and-true (eqb or 0))
joined_zero or (w ∷ words) =
    joined_zero (bit_or or w) words ∙ ap (λ (b : Bool). b && all_zero words) (or_zero or w) ∙ go (eqb or 0) (eqb w 0) (all_zero words)
  where
    go : (b c d : Bool) → (b && c && d) ≡ (b && (c && d))
    go true c d = refl
    go false c d = refl

pub or-zero : (a : ℕ) → bit_or a 0 ≡ a
or-zero a = omega (arith, or_add_and a 0, and_le_r a 0)
