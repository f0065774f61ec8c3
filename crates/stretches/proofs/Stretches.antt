-- Laws of stretches: the zeros at the lower end of a word are bits that are not set, and those of the other word, with each bit turned round, are
-- bits that are.
use Prim.Native.Nat.{ℕ, zero, suc, ◌-◌, ◌/◌, ◌%◌, ◌^◌, ◌<◌, min}
use native.Mathlib.Omega.{arith}
use native.Mathlib.Nat.{not-suc-le-zero}
use mathlib.Core.Path.{◌≡◌, refl, ap, sym, ◌∙◌}
use mathlib.Core.Bool.{Bool, true, false, not}
use lib.Count.{count_trailing_zeros, under, trailing_le}
use lib.Dec.{eqb}
use borrow.Author.Tests.{eq-eqb, ne_eqb}
use Rattle.bits.specs.Bits.{bit}
use Rattle.bits.proofs.Word.{bit_lowest, bit_higher}
use Rattle.bits.proofs.Operations.{bit_not}
use Rattle.stretches.specs.Values.{Alike}

below_trailing : (k w j : ℕ) → j < count_trailing_zeros k w → bit w j ≡ false
unfolding count_trailing_zeros
below_trailing zero w j h = absurd (not-suc-le-zero h)
below_trailing (suc k) w j h = go (λ i. below_trailing k (w / 2) i) (w % 2) refl j h
  where
    go : ((i : ℕ) → i < count_trailing_zeros k (w / 2) → bit (w / 2) i ≡ false)
        → (d : ℕ) → w % 2 ≡ d → (j : ℕ) → j < under d (count_trailing_zeros k (w / 2)) → bit w j ≡ false
    go above zero e zero h = bit_lowest w ∙ ap (λ (n : ℕ). eqb n 1) e
    go above zero e (suc i) h = bit_higher w i ∙ above i (omega arith)
    go above (suc d) e j h = absurd (not-suc-le-zero h)

some_trailing : (k w : ℕ) → w % 2 ≡ 0 → 0 < count_trailing_zeros (suc k) w
unfolding count_trailing_zeros
some_trailing k w even = rw even (omega arith)

-- a stretch that is not held
pub free_stretch : (w n r : ℕ) → (w % 2 ≡ 1 → ⊥) → r ≡ min (count_trailing_zeros 64 w) n → Alike w n r
free_stretch w n r odd is =
    let lowest : bit w 0 ≡ false = bit_lowest w ∙ ne_eqb (w % 2) 1 odd in
    let some = some_trailing 63 w (omega arith) in
    record {
      stretch = record { same = λ j h. below_trailing 64 w j (omega arith) ∙ sym lowest };
      most = omega arith;
      some = λ h. omega arith;
    }

-- a stretch that is held
pub held_stretch : (w n r : ℕ) → w < 2 ^ 64 → w % 2 ≡ 1 → r ≡ min (count_trailing_zeros 64 (2 ^ 64 - 1 - w)) n → Alike w n r
held_stretch w n r fits odd is =
    let lowest : bit w 0 ≡ true = bit_lowest w ∙ eq-eqb (w % 2) 1 odd in
    let some = some_trailing 63 (2 ^ 64 - 1 - w) (omega arith) in
    let within = trailing_le 64 (2 ^ 64 - 1 - w) in
    record {
      stretch = record {
        same = λ j h. turned (bit w j) (sym (bit_not w 64 j fits (omega arith)) ∙ below_trailing 64 (2 ^ 64 - 1 - w) j (omega arith)) ∙ sym lowest;
      };
      most = omega arith;
      some = λ h. omega arith;
    }
  where
    turned : (b : Bool) → not b ≡ false → b ≡ true
    turned true e = refl
    turned false e = sym e
