-- In each turn a frame more is carried out, and what is left is behind it; an unreadable one ends the run.
use Prim.Native.Nat.{◌<◌}
use native.Mathlib.Omega.{arith}
use mathlib.Core.Path.{◌≡◌, refl}
use lib.ListN.{length, length-drop}
use lib.Seq.{take_all}
use Rattle.std.proofs.lemmas.Bool.Decides.{nat_tests}
use Rattle.std.proofs.lemmas.List.{nil_from_length}
use Rattle.journal.proofs.Running.{running_turn, taken_most, some_read, none_unread, replays_unreadable, replays_all}
use Rattle.replay.proofs.replay.Goals as goal

pub returns-then-r-eq0 : goal.returns-then-r-eq0
returns-then-r-eq0 c =
    let some : 0 < length c.loop-rest.rest.now = grind (arith, nat_tests) in
    let r = c.log_frame-r.ensures in
    replays_unreadable _ _ _ _ _ _ _ _ _ c.loop-rest.invariant some _ _ r.line (none_unread _ r.taken c.if-r-eq0.true) r.leaves

-- a frame takes up no more than is there
pub slice_bounds-rest-count : goal.slice_bounds-rest-count
slice_bounds-rest-count c = omega (arith, c.log_frame-r.ensures.taken, taken_most c.loop-rest.rest.now)

pub slice_bounds-rest-start : goal.slice_bounds-rest-start
slice_bounds-rest-start c = omega (arith, c.log_frame-r.ensures.taken, taken_most c.loop-rest.rest.now)

pub loop-rest-preserved : goal.loop-rest-preserved
loop-rest-preserved c =
    let frame = c.loop-rest.rest.now in
    let some : 0 < length frame = grind (arith, nat_tests) in
    let r = c.log_frame-r.ensures in
    let taken = c.log_frame-r.result.taken in
    running_turn _ _ _ _ _ _ _ _ _ c.loop-rest.invariant some _ _ r.line (some_read _ r.taken c.if-r-eq0.false) r.taken r.accepted (cc r.accepted) r.leaves
    (take_all _ _ (omega (arith, length-drop taken frame)))

pub returns : goal.returns
returns c =
    let none : length c.loop-rest.rest.now ≡ 0 = grind (arith, nat_tests) in
    replays_all _ _ _ _ _ _ _ _ _ c.loop-rest.invariant (nil_from_length _ none) refl
