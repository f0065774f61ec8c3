use Prim.Native.Nat.{◌*◌}
use native.Mathlib.Omega.{arith}
use mathlib.Core.Path.{sym, ◌∙◌}
use Rattle.bits.proofs.Counts.{count_bound}
use Rattle.bits.proofs.Words.{Words}
use Rattle.bits.proofs.Spans.{inner, inner_none, inner_more, inner_all}
use Rattle.bits.proofs.count.count_span.Goals as goal

pub loop-i-init : goal.loop-i-init
loop-i-init c =
    let known : Words c.args.words.now = record { size = c.told-words; small = c.fits-words } in
    let a = c.args in sym (inner_none a.words.now (known) a.low a.high (omega arith))

pub overflow_add-n : goal.overflow_add-n
overflow_add-n c =
    let a = c.args in
    omega (arith, c.tally-n.ensures.1, count_bound (inner a.words.now a.low a.high) 0 (64 * c.loop-i.i), c.loop-i.invariant)

pub loop-i-preserved : goal.loop-i-preserved
loop-i-preserved c =
    let known : Words c.args.words.now = record { size = c.told-words; small = c.fits-words } in
    let a = c.args in
    let mask = c.span_bits in
    let more = inner_more a.words.now (known) a.low a.high (omega arith) c.loop-i.i mask.result mask.ensures in
    omega (arith, more, c.loop-i.invariant, c.tally-n.ensures.0)

pub returns : goal.returns
returns c =
    let known : Words c.args.words.now = record { size = c.told-words; small = c.fits-words } in
    let a = c.args in
    c.loop-i.invariant ∙ inner_all a.words.now (known) a.low a.high (omega arith) c.loop-i.i (omega arith)
