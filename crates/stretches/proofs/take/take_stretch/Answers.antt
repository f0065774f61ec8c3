-- A stretch that is held stays, and any other is the window's.
use Prim.Native.Nat.{ℕ, ◌+◌, ◌<◌}
use native.Mathlib.Omega.{arith}
use mathlib.Core.Path.{◌≡◌, ap, sym, ◌∙◌}
use mathlib.Core.Bool.{true, false}
use borrow.Author.Tests.{eq-eqb, ne_eqb}
use Rattle.octets.specs.Lists.{overwrite}
use Rattle.bits.specs.Bits.{bit}
use Rattle.bits.proofs.Word.{bit_lowest}
use Rattle.stretches.specs.Values.{bits_from}
use Rattle.stretches.proofs.Taking.{taken_window, taken_held}
use Rattle.stretches.proofs.take.take_stretch.Goals as goal

pub returns-then-bits-eq1 : goal.returns-then-bits-eq1
returns-then-bits-eq1 c =
    let like : (i : ℕ) → i < c.args.n → bits_from c.args.low c.args.bits (c.args.low + i) ≡ bit c.args.bits 0 = λ i h. ap (bit c.args.bits) (omega arith) ∙ c.requires.0.same i h in
    let a = c.args in
    let set : bit a.bits 0 ≡ true = bit_lowest a.bits ∙ eq-eqb _ 1 c.if-bits-eq1.true in
    sym (taken_held (bits_from a.low a.bits) a.values.now a.window.now a.low a.n c.requires.1 (λ i h. like i h ∙ set))

pub returns : goal.returns
returns c =
    let like : (i : ℕ) → i < c.args.n → bits_from c.args.low c.args.bits (c.args.low + i) ≡ bit c.args.bits 0 = λ i h. ap (bit c.args.bits) (omega arith) ∙ c.requires.0.same i h in
    let a = c.args in
    let unset : bit a.bits 0 ≡ false = bit_lowest a.bits ∙ ne_eqb _ 1 c.if-bits-eq1.false in
    c.read_host.ensures
    ∙ ap (overwrite a.values.now a.low)
    (sym (taken_window (bits_from a.low a.bits) a.values.now a.window.now a.low a.n c.requires.2 (λ i h. like i h ∙ unset)))
