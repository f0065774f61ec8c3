-- In each turn a frame more is carried out, and its line is written if all before it were; an unreadable one ends the run.
use Prim.Native.Nat.{ℕ, ◌+◌, ◌-◌, ◌≤◌, ◌<◌}
use native.Mathlib.Omega.{arith}
use mathlib.Core.Path.{◌≡◌, refl, ap, subst, ◌∙◌}
use mathlib.Core.List.{List, []}
use mathlib.Core.Bool.{Bool, cond}
use lib.ListN.{length, take, drop, length-drop}
use lib.Seq.{take_all}
use Rattle.std.specs.Io.KnownBytes.{Appends}
use Rattle.std.proofs.KnownBytes.{Appends-trans}
use Rattle.std.proofs.lemmas.Bool.Decides.{nat_tests}
use Rattle.std.proofs.lemmas.List.{nil_from_length}
use Rattle.octets.specs.Text.{Puts}
use Rattle.text.proofs.Putting.{puts_past}
use Rattle.loglines.specs.Line.{line_of}
use Rattle.device.specs.Step.{Device}
use Rattle.device.specs.Frame.{letter_of, frame_says, frame_delivers}
use Rattle.journal.specs.Run.{Replays}
use Rattle.journal.proofs.Running.{running_turn, taken_most, some_read, none_unread, replays_unreadable, replays_all}
use Rattle.fetchlog.specs.declared.printing.Printed.{Printed}
use Rattle.fetchlog.specs.Print.{Prints}
use Rattle.fetchlog.proofs.Counted.{all_told}
use Rattle.fetchlog.proofs.Printed.{said_turn, said_last, said_all, most_one, all_kept}
use Rattle.fetchlog.proofs.printing.print_log.Goals as goal

-- the line of a frame, put nowhere
nowhere : (number : ℕ) (d : Device) (frame : List ℕ) → Puts [] 0 (line_of number (letter_of frame) (frame_says d frame) (frame_delivers d frame)) 0 []
nowhere number d frame = puts_past [] 0 _ (omega arith)

-- what is summed up is what the run gives, with an unreadable frame among the frames
prints :
    {d : Device} {input : List ℕ} {read carried : ℕ} {early : Bool} {words' store' window' dest' : List ℕ} (r : Printed)
    → Replays d input [] (record { carried = carried; refused = read - carried; early = early; written = 0 }) words' store' window' dest' []
    → carried ≤ read → (r.carried ≡ carried) × (r.refused ≡ read - carried) × (r.early ≡ early) × (r.frames ≡ read + cond early 1 0)
    → Prints d input r words' store' window' dest'
prints {d} {input} r R some sum = record {
  leaves = R.leaves;
  frames = omega (arith, sum, all_told (length input) d input, R.carried, R.refused, ap {B = ℕ} (λ (b : Bool). cond b 1 0) R.early, some);
  carried = sum.0 ∙ R.carried;
  refused = sum.1 ∙ R.refused;
  early = sum.2 ∙ R.early;
}

pub returns-then-r-eq0-clause-prints : goal.returns-then-r-eq0-clause-prints
returns-then-r-eq0-clause-prints g c =
    let k = c.loop-rest in
    let some : 0 < length k.rest.now = grind (arith, nat_tests) in
    let shown = c.print_frame-r.ensures.shows in
    prints c.summed.result
    (replays_unreadable _ _ _ _ _ _ _ _ _ k.invariant.running some 0 [] (nowhere _ _ _) (none_unread _ shown.taken c.if-r-eq0.true) shown.leaves)
    k.invariant.running.some c.summed.ensures.run

pub returns-then-r-eq0-clause-printed : goal.returns-then-r-eq0-clause-printed
returns-then-r-eq0-clause-printed g c all =
    let k = c.loop-rest in
    let some : 0 < length k.rest.now = grind (arith, nat_tests) in
    let shown = c.print_frame-r.ensures.shows in
    let sum = c.summed.ensures in
    let kept = all_kept c.print_frame-r.result.kept c.from-kept.ensures k.invariant.few (omega (arith, all, sum.kept, sum.run.3)) in
    subst (Appends (g.O.Write.contents c.args.streams.now.output) (g.O.Write.contents c.print_frame-r.new.streams.output))
    (said_last _ _ _ _ _ _ k.invariant.printed.1 some k.invariant.running.few (none_unread _ shown.taken c.if-r-eq0.true))
    (Appends-trans _ _ _ _ _ (k.invariant.printed.2 kept.0) (c.print_frame-r.ensures.printed kept.1))

-- a frame takes up no more than is there
pub slice_bounds-rest-count : goal.slice_bounds-rest-count
slice_bounds-rest-count g c = omega (arith, c.print_frame-r.ensures.shows.taken, taken_most c.loop-rest.rest.now)

pub slice_bounds-rest-start : goal.slice_bounds-rest-start
slice_bounds-rest-start g c = omega (arith, c.print_frame-r.ensures.shows.taken, taken_most c.loop-rest.rest.now)

pub loop-rest-preserved : goal.loop-rest-preserved
loop-rest-preserved g c =
    let k = c.loop-rest in
    let frame = k.rest.now in
    let some : 0 < length frame = grind (arith, nat_tests) in
    let shown = c.print_frame-r.ensures.shows in
    let read = some_read _ shown.taken c.if-r-eq0.false in
    let taken = c.print_frame-r.result.taken in
    let ended : take (length frame - taken) (drop taken frame) ≡ drop taken frame = take_all _ _ (omega (arith, length-drop taken frame)) in
    record {
      running =
          running_turn _ _ _ _ _ _ _ _ _ k.invariant.running some 0 [] (nowhere _ _ _) read shown.taken shown.accepted c.from-carried.ensures shown.leaves ended;
      few = omega (arith, k.invariant.few, c.from-kept.ensures, most_one c.print_frame-r.result.kept);
      printed = (
        _,
        said_turn _ _ _ _ _ _ k.invariant.printed.1 some k.invariant.running.few read shown.taken shown.leaves ended,
        λ all.
            let kept = all_kept c.print_frame-r.result.kept c.from-kept.ensures k.invariant.few all in
            Appends-trans _ _ _ _ _ (k.invariant.printed.2 kept.0) (c.print_frame-r.ensures.printed kept.1),
      );
    }

pub returns-clause-prints : goal.returns-clause-prints
returns-clause-prints g c =
    let k = c.loop-rest in
    let none : length k.rest.now ≡ 0 = grind (arith, nat_tests) in
    prints c.summed-2.result (replays_all _ _ _ _ _ _ _ _ _ k.invariant.running (nil_from_length _ none) refl) k.invariant.running.some c.summed-2.ensures.run

pub returns-clause-printed : goal.returns-clause-printed
returns-clause-printed g c all =
    let k = c.loop-rest in
    let none : length k.rest.now ≡ 0 = grind (arith, nat_tests) in
    let sum = c.summed-2.ensures in
    let before : k.kept ≡ k.number = omega (arith, all, sum.kept, sum.run.3) in
    subst (Appends (g.O.Write.contents c.args.streams.now.output) (g.O.Write.contents k.streams.output))
    (said_all _ _ _ _ _ _ k.invariant.printed.1 (nil_from_length _ none))
    (k.invariant.printed.2 before)
