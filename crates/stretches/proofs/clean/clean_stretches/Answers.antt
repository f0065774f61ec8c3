use Prim.Native.Nat.{ℕ, ◌+◌, ◌-◌, ◌/◌, ◌^◌, ◌≤◌, ◌<◌}
use native.Mathlib.Omega.{arith}
use mathlib.Core.Path.{◌≡◌, ap, sym, ◌∙◌}
use mathlib.Core.List.{List}
use lib.ListN.{length, take, drop, length-take, length-drop}
use Rattle.bits.specs.Bits.{bit}
use Rattle.stretches.specs.Values.{clean}
use Rattle.stretches.proofs.Taking.{bit_shifted}
use Rattle.stretches.proofs.Cleaning.{clean_start, clean_lent, clean_on, clean_off}
use Rattle.stretches.proofs.clean.clean_stretches.Goals as goal

pub loop-x-init : goal.loop-x-init
loop-x-init c = let a = c.args in (omega arith, clean_start (bit a.bits) a.values.now)

pub clean_stretch-requires : goal.clean_stretch-requires
clean_stretch-requires c =
    let at : ℕ = c.loop-x.x in
    let many : ℕ = c.alike-k.result in
    let values : List ℕ = c.args.values.now in
    let inside : at + many ≤ 64 = omega (arith, c.alike-k.ensures.most) in
    let lent_length : length (take (at + many - at) (drop at values)) ≡ many = simp (length-take, length-drop) (omega (arith, inside)) in
    let size = lent_length in
    record { same = λ j h. c.alike-k.ensures.stretch.same j (omega (arith, size)) }

pub returns-then-not-clean_stretch : goal.returns-then-not-clean_stretch
returns-then-not-clean_stretch c =
    let at : ℕ = c.loop-x.x in
    let many : ℕ = c.alike-k.result in
    let bits : ℕ = c.args.bits in
    let values : List ℕ = c.args.values.now in
    let inside : at + many ≤ 64 = omega (arith, c.alike-k.ensures.most) in
    let lent_length : length (take (at + many - at) (drop at values)) ≡ many = simp (length-take, length-drop) (omega (arith, inside)) in
    let tells : c.clean_stretch.result ≡ clean (bit (bits)) (values) (at) (many) = c.clean_stretch.ensures ∙ ap (clean (bit (bits / 2 ^ at)) (take (at + many - at) (drop (at) (values))) 0) (lent_length)
    ∙ clean_lent (bit (bits / 2 ^ at)) (bit (bits)) (values) (at) (many) (λ j h. bit_shifted (bits) (at) j) in
    sym (clean_off (bit (bits)) (values) (at) (many) 64 (inside) (sym (tells) ∙ c.if-not-clean_stretch.true))

pub loop-x-preserved : goal.loop-x-preserved
loop-x-preserved c =
    let at : ℕ = c.loop-x.x in
    let many : ℕ = c.alike-k.result in
    let bits : ℕ = c.args.bits in
    let values : List ℕ = c.args.values.now in
    let inside : at + many ≤ 64 = omega (arith, c.alike-k.ensures.most) in
    let lent_length : length (take (at + many - at) (drop at values)) ≡ many = simp (length-take, length-drop) (omega (arith, inside)) in
    let tells : c.clean_stretch.result ≡ clean (bit (bits)) (values) (at) (many) = c.clean_stretch.ensures ∙ ap (clean (bit (bits / 2 ^ at)) (take (at + many - at) (drop (at) (values))) 0) (lent_length)
    ∙ clean_lent (bit (bits / 2 ^ at)) (bit (bits)) (values) (at) (many) (λ j h. bit_shifted (bits) (at) j) in
    (inside, clean_on (bit (bits)) (values) (at) (many) c.loop-x.invariant.1 (sym (tells) ∙ c.if-not-clean_stretch.false))

pub returns : goal.returns
returns c =
    let a = c.args in
    let all : c.loop-x.x ≡ 64 = omega arith in
    sym (ap (clean (bit a.bits) a.values.now 0) (sym all) ∙ c.loop-x.invariant.1)

pub overflow_add-x : goal.overflow_add-x
overflow_add-x c =
    let at : ℕ = c.loop-x.x in
    let many : ℕ = c.alike-k.result in
    let inside : at + many ≤ 64 = omega (arith, c.alike-k.ensures.most) in
    omega (arith, inside)

pub slice_bounds-clean_stretch-end : goal.slice_bounds-clean_stretch-end
slice_bounds-clean_stretch-end c =
    let at : ℕ = c.loop-x.x in
    let many : ℕ = c.alike-k.result in
    let inside : at + many ≤ 64 = omega (arith, c.alike-k.ensures.most) in
    omega (arith, inside)

pub overflow_add-x-in-loop-x : goal.overflow_add-x-in-loop-x
overflow_add-x-in-loop-x c =
    let at : ℕ = c.loop-x.x in
    let many : ℕ = c.alike-k.result in
    let inside : at + many ≤ 64 = omega (arith, c.alike-k.ensures.most) in
    omega (arith, inside)

pub loop-x-smaller : goal.loop-x-smaller
loop-x-smaller c =
    let many : ℕ = c.alike-k.result in
    let some : 0 < many = c.alike-k.ensures.some (omega arith) in
    omega (arith, some)
