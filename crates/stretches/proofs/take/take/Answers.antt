use Prim.Native.Nat.{ℕ, ◌+◌, ◌-◌, ◌/◌, ◌%◌, ◌^◌, ◌≤◌, ◌<◌}
use native.Mathlib.Omega.{arith}
use mathlib.Core.Path.{◌≡◌, ap, sym, ◌∙◌}
use mathlib.Core.List.{List}
use lib.ListN.{get_or}
use Rattle.octets.specs.Lists.{overwrite}
use Rattle.bits.specs.Bits.{is_set}
use Rattle.stretches.specs.Values.{bits_from, taken}
use Rattle.stretches.proofs.Taking.{passed, taken_none, passed_word}
use Rattle.stretches.proofs.take.take.Goals as goal

pub loop-i-init : goal.loop-i-init
loop-i-init c =
    let a = c.args in
    (omega arith, sym (taken_none (is_set a.words.now) a.values.now a.window.now a.low))

pub take_stretch-requires : goal.take_stretch-requires
take_stretch-requires c =
    let many : ℕ = c.alike-k.result in
    let in_span_lem : c.loop-i.i + many ≤ c.args.n = omega (arith, c.min.ensures, c.alike-k.ensures.most) in
    (c.alike-k.ensures.stretch, omega (arith, in_span_lem), omega (arith, in_span_lem))

pub loop-i-preserved : goal.loop-i-preserved
loop-i-preserved c =
    let at : ℕ = c.args.low + c.loop-i.i in
    let many : ℕ = c.alike-k.result in
    let in_word : many ≤ 64 - at % 64 = omega (arith, c.min.ensures, c.alike-k.ensures.most) in
    let in_span_lem : c.loop-i.i + many ≤ c.args.n = omega (arith, c.min.ensures, c.alike-k.ensures.most) in
    let i = c.loop-i.i in
    let a = c.args in
    let put : List ℕ → List ℕ =
    λ v. overwrite v (at) (taken (bits_from (at) (get_or a.words.now (at / 64) 0 / 2 ^ (at % 64))) v a.window.now (at) (many)) in
    let next : _ ≡ passed (is_set a.words.now) a.values.now a.window.now a.low (i + many) =
    c.take_stretch.ensures ∙ ap put c.loop-i.invariant.1
    ∙ passed_word a.words.now a.values.now a.window.now a.low i (many) (omega (arith, in_span_lem)) (in_word) in
    (in_span_lem, next)

pub returns : goal.returns
returns c =
    let a = c.args in
    let all : c.loop-i.i ≡ a.n = omega arith in
    c.loop-i.invariant.1 ∙ ap (passed (is_set a.words.now) a.values.now a.window.now a.low) all

pub overflow_add-i : goal.overflow_add-i
overflow_add-i c =
    let many : ℕ = c.alike-k.result in
    let in_span_lem : c.loop-i.i + many ≤ c.args.n = omega (arith, c.min.ensures, c.alike-k.ensures.most) in
    omega (arith, in_span_lem)

pub loop-i-smaller : goal.loop-i-smaller
loop-i-smaller c =
    let many : ℕ = c.alike-k.result in
    let some : 0 < many = c.alike-k.ensures.some (omega (arith, c.min.ensures)) in
    omega (arith, some)
