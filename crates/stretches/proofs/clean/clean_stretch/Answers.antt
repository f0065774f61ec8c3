-- A stretch that is held is clean, and of any other every value counts.
use Prim.Native.Nat.{◌+◌}
use native.Mathlib.Omega.{arith}
use mathlib.Core.Path.{◌≡◌, refl, sym, ◌∙◌}
use mathlib.Core.Bool.{true, false}
use lib.ListN.{length}
use borrow.Author.Tests.{eq-eqb, ne_eqb}
use Rattle.bits.specs.Bits.{bit}
use Rattle.bits.proofs.Word.{bit_lowest}
use Rattle.stretches.proofs.Cleaning.{clean_moved, clean_full}
use Rattle.stretches.proofs.clean.clean_stretch.Goals as goal

pub returns-then-bits-eq1 : goal.returns-then-bits-eq1
returns-then-bits-eq1 c =
    let a = c.args in
    let set : bit a.bits 0 ≡ true = bit_lowest a.bits ∙ eq-eqb _ 1 c.if-bits-eq1.true in
    sym (clean_full (bit a.bits) a.values.now 0 (length a.values.now) (λ x h k. c.requires.same x (omega arith) ∙ set))

pub returns : goal.returns
returns c =
    let a = c.args in
    let unset : bit a.bits 0 ≡ false = bit_lowest a.bits ∙ ne_eqb _ 1 c.if-bits-eq1.false in
    c.clean_none.ensures
    ∙ clean_moved (λ x. false) (bit a.bits) a.values.now a.values.now 0 0 (length a.values.now)
    (λ j h. (sym (c.requires.same (0 + j) (omega arith) ∙ unset), refl))
