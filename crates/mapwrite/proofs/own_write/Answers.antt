-- Refused, map and window are as they were. Accepted, the bytes fit, and are held and written.
use native.Mathlib.Omega.{arith}
use mathlib.Core.Path.{◌≡◌, ap, ap₂, sym, ◌∙◌}
use mathlib.Core.List.{[], ◌∷◌}
use mathlib.Core.Bool.{true, false}
use lib.ListN.{length}
use Rattle.std.proofs.Common.{rules, Err}
use Rattle.state.specs.Answers.{own_write_reply}
use Rattle.state.specs.Refusals.{number}
use Rattle.state.specs.Verdict.{Reply, refused, replied, accepted}
use Rattle.bytemap.specs.Map.{Map, map_of}
use Rattle.bytemap.specs.OwnWrite.{own_says, own_map, own_window}
use Rattle.mapwrite.proofs.AsFetched.{own_fits}
use Rattle.mapwrite.proofs.own_write.Goals as goal

pub returns-in_err-counts : goal.returns-in_err-counts
unfolding accepted own_map own_window
returns-in_err-counts c =
    let lent : Map = map_of c.args.flag.now c.args.words.now c.args.values.now in
    let said : Reply = own_says lent (length c.args.window.now) c.args.address (length c.args.bytes.now) in
    let same : c.from_residual.result ≡ Err c.in_err-counts.field-0.0 = search rules in
    let says : refused (number c.in_err-counts.field-0.0) ≡ said = c.in_err-counts.ensures in
    let no : accepted said ≡ false = ap accepted (sym says) in
    record { answer = ap own_write_reply same ∙ says; map = rw no; host = rw no }

pub returns : goal.returns
unfolding own_map own_window accepted
returns c =
    let lent : Map = map_of c.args.flag.now c.args.words.now c.args.values.now in
    let said : Reply = own_says lent (length c.args.window.now) c.args.address (length c.args.bytes.now) in
    let told = c.in_ok-counts.counts in
    let says : replied (told.written ∷ told.fresh ∷ []) ≡ said = c.in_ok-counts.ensures in
    let yes : accepted said ≡ true = ap accepted (sym says) in
    let done = c.hold.ensures in
    record {
      answer = says;
      map = rw yes (ap₂ (map_of c.args.flag.now) done.words done.values);
      host = rw yes done.window;
    }

pub hold-requires : goal.hold-requires
unfolding accepted
hold-requires c =
    let lent : Map = map_of c.args.flag.now c.args.words.now c.args.values.now in
    let said : Reply = own_says lent (length c.args.window.now) c.args.address (length c.args.bytes.now) in
    let told = c.in_ok-counts.counts in
    let says : replied (told.written ∷ told.fresh ∷ []) ≡ said = c.in_ok-counts.ensures in
    let fits = own_fits lent (length c.args.window.now) c.args.address (length c.args.bytes.now) (omega arith) (omega arith) (ap accepted (sym says)) in
    (fits.reach, fits.window)
