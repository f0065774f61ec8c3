use native.Mathlib.Numerals.{add-one}
use native.Mathlib.Omega.{arith}
use mathlib.Core.Path.{sym, ◌∙◌}
use Rattle.scan.specs.Scan.{stops}
use Rattle.scan.proofs.Scanning.{found, passed, behind}
use Rattle.scan.proofs.places.until.Goals as goal

pub returns-then-stops : goal.returns-then-stops
returns-then-stops c =
    let text = c.args.text.now in
    let here = found (stops c.args.stop) text c.loop-i.i 0 (omega arith) (sym c.stops.ensures ∙ c.if-stops.true) in
    omega (arith, c.loop-i.invariant, here)

pub loop-i-preserved : goal.loop-i-preserved
loop-i-preserved c =
    let text = c.args.text.now in
    let on = passed (stops c.args.stop) text c.loop-i.i 0 (omega arith) (sym c.stops.ensures ∙ c.if-stops.false) in
    rw add-one (omega (arith, c.loop-i.invariant, on))

-- the end of the text is reached, or was already behind
pub returns : goal.returns
returns c =
    let test = stops c.args.stop in
    let text = c.args.text.now in
    grind (arith, c.loop-i.invariant, behind test text c.loop-i.i (omega arith), behind test text c.args.from)
