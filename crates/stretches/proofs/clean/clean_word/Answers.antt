-- Where no bit is set all values count.
use Prim.Native.Nat.{ℕ, ◌+◌}
use mathlib.Core.Path.{◌≡◌, refl, ap, sym, ◌∙◌}
use mathlib.Core.Bool.{false}
use Rattle.bits.specs.Bits.{bit}
use Rattle.bits.proofs.Word.{bit_of_zero}
use Rattle.stretches.specs.Values.{clean}
use Rattle.stretches.proofs.Cleaning.{clean_moved}
use Rattle.stretches.proofs.clean.clean_word.Goals as goal

pub returns-then-bits-eq0 : goal.returns-then-bits-eq0
returns-then-bits-eq0 c =
    let a = c.args in
    let none : (j : ℕ) → bit a.bits j ≡ false = λ j. ap (λ (w : ℕ). bit w j) c.if-bits-eq0.true ∙ bit_of_zero j in
    c.clean_none.ensures ∙ ap (clean (λ x. false) a.values.now 0) c.requires
    ∙ clean_moved (λ x. false) (bit a.bits) a.values.now a.values.now 0 0 64 (λ j h. (sym (none (0 + j)), refl))
