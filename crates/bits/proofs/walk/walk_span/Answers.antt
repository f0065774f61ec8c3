use Prim.Native.Nat.{ℕ, ◌-◌}
use native.Mathlib.Omega.{arith}
use mathlib.Core.Path.{◌≡◌, sym, ◌∙◌}
use Rattle.state.specs.Records.{in_span}
use Rattle.std.proofs.Common.{rules}
use mathlib.Core.Bool.{Bool}
use Rattle.bits.specs.Bits.{word_at, words_of}
use Rattle.bits.proofs.Words.{Words, words_at}
use Rattle.bits.proofs.Spans.{either, either_word}
use Rattle.bits.proofs.walk.walk_span.Goals as goal

pub returns : goal.returns
returns c start =
    let a = c.args in
    let test : ℕ → Bool = either a.words.now a.low a.high in
    let known : Words a.words.now = record { size = c.told-words; small = c.fits-words } in
    c.walk_on.ensures (words_of test)
    (λ j r h k e.
    let mask : r ≡ word_at (in_span a.low (a.high - a.low)) j = search rules in
    words_at test j (omega arith) ∙ sym (either_word a.words.now known a.low a.high (omega arith) j r mask))
    test (λ j h k. words_at test j (omega arith)) start
