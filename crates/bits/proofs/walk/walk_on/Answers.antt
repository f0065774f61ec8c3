use Prim.Native.Nat.{ℕ}
use native.Mathlib.Omega.{arith}
use mathlib.Core.Path.{◌≡◌, sym, subst, ◌∙◌}
use lib.Bits.{bit_or, or_lt}
use lib.ListN.{get_or}
use Rattle.bits.specs.Walk.{Walked}
use Rattle.bits.proofs.Starts.{walk_on}
use Rattle.bits.proofs.walk.walk_on.Goals as goal

pub loop-i-init : goal.loop-i-init
loop-i-init g c = (λ both puts test same start. start, c.requires.within.2)

pub loop-i-preserved : goal.loop-i-preserved
loop-i-preserved g c =
    let i = c.loop-i.i in
    let word : ℕ = get_or c.args.words.now i 0 in
    let added : ℕ = c.added.result in (
      λ both puts test same start. walk_on test (record { n = c.loop-i.n; carry = c.loop-i.carry }) i
          (c.loop-i.invariant.0 both (λ j r h k. puts j r h (omega arith)) test (λ j h k. same j h (omega arith)) start) (bit_or word added)
          (sym (puts i added (omega arith) (omega arith) c.added.ensures) ∙ same i (omega arith) (omega arith)) c.starts-n.result c.starts-n.ensures.0,
      record { few = omega (arith, c.starts-n.ensures.1); bit = omega (arith, or_lt 64 word added (omega arith) (omega arith)) },
    )

pub returns : goal.returns
returns g c =
    let all : c.loop-i.i ≡ c.args.to = omega arith in
    λ both puts test same start.
    subst (λ (k : ℕ). Walked test (record { n = c.loop-i.n; carry = c.loop-i.carry }) k) all
    (c.loop-i.invariant.0 both (λ j r h k. puts j r h (omega arith)) test (λ j h k. same j h (omega arith)) start)
