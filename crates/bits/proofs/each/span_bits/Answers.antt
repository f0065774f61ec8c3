-- The bits below the span's end, less those below its start.
use Prim.Native.Nat.{ℕ, ◌+◌, ◌-◌, ◌*◌}
use native.Mathlib.Omega.{arith}
use mathlib.Core.Path.{◌≡◌, ap, ◌∙◌}
use lib.Dec.{ltb}
use Rattle.state.specs.Records.{in_span}
use Rattle.bits.specs.Bits.{word_of}
use Rattle.bits.proofs.Operations.{span_word}
use Rattle.bits.proofs.each.span_bits.Goals as goal

pub overflow_sub-result : goal.overflow_sub-result
overflow_sub-result c =
    let ends : c.first_bits.result ≡ word_of (λ j. ltb j (c.args.high - 64 * c.args.i)) 64 = c.first_bits.ensures ∙ ap (λ (n : ℕ). word_of (λ j. ltb j n) 64) c.saturating_sub.ensures in
    let starts : c.first_bits-2.result ≡ word_of (λ j. ltb j (c.args.low - 64 * c.args.i)) 64 = c.first_bits-2.ensures ∙ ap (λ (n : ℕ). word_of (λ j. ltb j n) 64) c.saturating_sub-2.ensures in
    let sum : word_of (λ j. in_span c.args.low (c.args.high - c.args.low) (64 * c.args.i + j)) 64 + c.first_bits-2.result
    ≡ c.first_bits.result = omega (arith, ends, starts, span_word (64 * c.args.i) c.args.low c.args.high 64 (omega arith)) in
    omega (arith, sum)

pub returns : goal.returns
returns c =
    let ends : c.first_bits.result ≡ word_of (λ j. ltb j (c.args.high - 64 * c.args.i)) 64 = c.first_bits.ensures ∙ ap (λ (n : ℕ). word_of (λ j. ltb j n) 64) c.saturating_sub.ensures in
    let starts : c.first_bits-2.result ≡ word_of (λ j. ltb j (c.args.low - 64 * c.args.i)) 64 = c.first_bits-2.ensures ∙ ap (λ (n : ℕ). word_of (λ j. ltb j n) 64) c.saturating_sub-2.ensures in
    let sum : word_of (λ j. in_span c.args.low (c.args.high - c.args.low) (64 * c.args.i + j)) 64 + c.first_bits-2.result
    ≡ c.first_bits.result = omega (arith, ends, starts, span_word (64 * c.args.i) c.args.low c.args.high 64 (omega arith)) in
    omega (arith, sum)
