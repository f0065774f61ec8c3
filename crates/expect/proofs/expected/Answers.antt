-- The text is the line up to its comment, and it is cut at the first `=`.
use native.Mathlib.Omega.{arith}
use Prim.Native.Nat.{◌≤◌}
use mathlib.Core.Path.{◌≡◌, sym}
use lib.ListN.{length, take}
use lib.Seq.{length-take-le}
use Rattle.expect.specs.Expect.{expected}
use Rattle.scan.proofs.Scanning.{front_most}
use Rattle.expect.proofs.expected.Goals as goal

pub overflow_add-cut : goal.overflow_add-cut
overflow_add-cut c =
    let end_inside : c.until-end.result ≤ length c.args.line.now = front_most _ c.args.line.now c.until-end.result c.until-end.ensures in
    let text_length : length (take c.until-end.result c.args.line.now) ≡ c.until-end.result
    = length-take-le c.until-end.result c.args.line.now end_inside in
    let text = take c.until-end.result c.args.line.now in
    omega (arith, front_most _ text c.until-cut.result c.until-cut.ensures, text_length, end_inside)

pub returns : goal.returns
unfolding expected
returns c =
    let end_inside : c.until-end.result ≤ length c.args.line.now = front_most _ c.args.line.now c.until-end.result c.until-end.ensures in
    let text_length : length (take c.until-end.result c.args.line.now) ≡ c.until-end.result
    = length-take-le c.until-end.result c.args.line.now end_inside in
    rw (c.min.ensures, c.until-cut.ensures, ← c.until-end.ensures, text_length)

pub slice_bounds-until-end : goal.slice_bounds-until-end
slice_bounds-until-end c =
    let end_inside : c.until-end.result ≤ length c.args.line.now = front_most _ c.args.line.now c.until-end.result c.until-end.ensures in
    let text_length : length (take c.until-end.result c.args.line.now) ≡ c.until-end.result
    = length-take-le c.until-end.result c.args.line.now end_inside in
    sym text_length
