use native.Mathlib.Omega.{arith}
use Rattle.bits.proofs.Words.{Words}
use Rattle.bits.proofs.Spans.{fill_from, fill_more, fill_all}
use Rattle.bits.proofs.fill.set_span.Goals as goal

pub loop-i-init : goal.loop-i-init
loop-i-init c =
    let known : Words c.args.words.now = record { size = c.told-words; small = c.fits-words } in
    let a = c.args in fill_from a.words.now (known) a.low a.high (omega arith)

pub loop-i-preserved : goal.loop-i-preserved
loop-i-preserved c =
    let known : Words c.args.words.now = record { size = c.told-words; small = c.fits-words } in
    let a = c.args in
    fill_more a.words.now (known) a.low a.high (omega arith) c.loop-i.words c.loop-i.i c.span_bits.result (omega arith)
    c.loop-i.invariant c.span_bits.ensures

pub returns : goal.returns
returns c =
    let known : Words c.args.words.now = record { size = c.told-words; small = c.fits-words } in
    let a = c.args in
    fill_all a.words.now (known) a.low a.high (omega arith) c.loop-i.words c.loop-i.i (omega arith) (omega arith) c.loop-i.invariant
