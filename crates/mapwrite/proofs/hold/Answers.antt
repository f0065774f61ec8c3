-- The bytes fit among the values and in the window, so that all of them are copied.
use Prim.Native.Nat.{ℕ, ◌+◌, ◌-◌, ◌≤◌}
use native.Mathlib.Omega.{arith}
use mathlib.Core.Path.{◌≡◌, ap, ◌∙◌}
use mathlib.Core.List.{List}
use mathlib.Core.Bool.{◌||◌}
use lib.ListN.{length, take}
use lib.Seq.{take_all}
use Rattle.octets.specs.Lists.{overwrite}
use Rattle.state.specs.Records.{in_span}
use Rattle.bits.specs.Bits.{is_set, words_of}
use Rattle.mapwrite.proofs.hold.Goals as goal

-- bytes that fit from a place on are all copied there
copied_whole : (buffer bytes : List ℕ) (at : ℕ) → at + length bytes ≤ length buffer
    → overwrite buffer at (take (length buffer - at) bytes) ≡ overwrite buffer at bytes
copied_whole buffer bytes at fits = ap (overwrite buffer at) (take_all (length buffer - at) bytes (omega arith))

pub returns : goal.returns
returns c =
    let a = c.args in
    let size : a.address + length a.bytes.now - a.address ≡ length a.bytes.now = omega arith in
    let among : a.address + length a.bytes.now ≤ length a.values.now = omega arith in
    record {
      words = c.set_span.ensures ∙ ap (λ (n : ℕ). words_of (λ x. is_set a.words.now x || in_span a.address n x)) size;
      values = c.copy_at.ensures ∙ copied_whole a.values.now a.bytes.now a.address among;
      window = c.copy_at-2.ensures ∙ copied_whole a.window.now a.bytes.now a.address c.requires.1;
    }
