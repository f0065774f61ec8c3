use Prim.Native.Nat.{◌+◌, ◌≤◌, ◌<◌}
use native.Mathlib.Omega.{arith}
use mathlib.Core.Path.{◌≡◌, refl, ap, sym, ◌∙◌}
use lib.ListN.{get_or, drop}
use Rattle.state.specs.State.{no_record, records_in}
use Rattle.state.specs.declared.Record.{Record}
use Rattle.state.specs.Records.{looked_up_to}
use Rattle.state.specs.Join.{passed, searched, meeting}
use Rattle.state.proofs.Walk.{at_next, no_record_lem}
use Rattle.state.proofs.Search.{search_stops, search_on}
use Rattle.state.proofs.Looked.{looked_stops, looked_on}
use Rattle.state.specs.Words.{command_in}
use Rattle.words.proofs.EntryWords.{entry_at}
use Rattle.join.proofs.search.search.Goals as goal

pub loop-i-init : goal.loop-i-init
unfolding meeting
loop-i-init c = (refl, record { first = omega arith; last = omega arith; below = omega arith; held = omega arith }, refl, omega arith)

pub returns-then-end-from : goal.returns-then-end-from
returns-then-end-from c =
    let ws = c.args.words.now in
    let p = command_in ws in
    let i = c.loop-i.i in
    let m = c.loop-i.m in
    let r = get_or p.records i no_record in
    let rest = drop (i + 1) (records_in p) in
    let is : c.entry-r.result ≡ r = c.entry-r.ensures ∙ sym (entry_at ws i (omega arith)) in
    let above : c.args.end < r.start = omega (arith, ap (λ (r : Record). r.start) is) in
    record {
      met =
          sym (search_stops c.args.address c.args.end r rest m above)
          ∙ at_next p i (omega arith) (λ rs. searched c.args.address c.args.end rs m) c.loop-i.invariant.0;
      small = record { first = c.loop-i.invariant.1.first; last = omega arith; below = omega arith; held = omega arith };
      looked = omega (
        arith,
        at_next p i (omega arith) (λ rs. i + looked_up_to c.args.end rs) c.loop-i.invariant.3,
        looked_stops c.args.end r rest above,
      );
    }

pub loop-i-preserved : goal.loop-i-preserved
loop-i-preserved c =
    let ws = c.args.words.now in
    let p = command_in ws in
    let i = c.loop-i.i in
    let m = c.loop-i.m in
    let a = c.args.address in
    let r = get_or p.records i no_record in
    let rest = drop (i + 1) (records_in p) in
    let is : c.entry-r.result ≡ r = c.entry-r.ensures ∙ sym (entry_at ws i (omega arith)) in
    let up_to : r.start ≤ c.args.end = omega (arith, ap (λ (r : Record). r.start) is) in (
      ap (searched a c.args.end rest) (c.pass-m.ensures.is ∙ ap (λ (r : Record). passed a r m) is)
          ∙ sym (search_on a c.args.end r rest m up_to)
          ∙ at_next p i (omega arith) (λ rs. searched a c.args.end rs m) c.loop-i.invariant.0,
      record { first = c.pass-m.ensures.order c.loop-i.invariant.1.first; last = omega arith; below = omega arith; held = omega arith },
      omega arith,
      omega (arith, at_next p i (omega arith) (λ rs. i + looked_up_to c.args.end rs) c.loop-i.invariant.3, looked_on c.args.end r rest up_to),
    )

pub returns : goal.returns
returns c =
    let p = command_in c.args.words.now in
    let none = no_record_lem p c.loop-i.i (omega arith) in
    let m = c.loop-i.m in
    let none_left : looked_up_to c.args.end (drop c.loop-i.i (records_in p)) ≡ 0 = rw none (unfold looked_up_to in refl) in
    record {
      met = sym (sym c.loop-i.invariant.0 ∙ ap (λ rs. searched c.args.address c.args.end rs m) none ∙ unfold searched in refl);
      small = record { first = c.loop-i.invariant.1.first; last = omega arith; below = omega arith; held = omega arith };
      looked = omega (arith, c.loop-i.invariant.3, none_left);
    }
