-- What was taken stands in the values at its place, and is copied from there.
use Prim.Native.Nat.{ℕ, ◌+◌, ◌-◌, ◌≤◌}
use native.Mathlib.Omega.{arith}
use mathlib.Core.Path.{◌≡◌, ap, ◌∙◌}
use mathlib.Core.Bool.{◌||◌}
use lib.ListN.{length}
use Rattle.octets.specs.Lists.{overwrite}
use Rattle.state.specs.Records.{in_span}
use Rattle.bits.specs.Bits.{is_set, words_of}
use Rattle.stretches.proofs.Taking.{lent_taken}
use Rattle.mapfetch.proofs.deliver.Goals as goal

pub returns : goal.returns
returns c =
    let a = c.args in
    let size : a.address + a.size - a.address ≡ a.size = omega arith in
    let whole : a.address + a.size ≤ length a.values.now = omega (arith, c.requires.reach, c.requires.values) in
    record {
      bits = c.set_span.ensures ∙ ap (λ (n : ℕ). words_of (λ x. is_set a.words.now x || in_span a.address n x)) size;
      held = c.take.ensures;
      delivered = c.copy_front.ensures
          ∙ ap (overwrite a.destination.now 0)
          (lent_taken (is_set a.words.now) a.values.now a.window.now _ (length a.destination.now) a.address a.size c.requires.dest whole
          c.take.ensures);
    }
