-- Refused, map and destination are as they were. Accepted, the span is delivered and held.
use native.Mathlib.Omega.{arith}
use mathlib.Core.Path.{◌≡◌, ap, ap₂, sym, ◌∙◌}
use mathlib.Core.List.{[], ◌∷◌}
use mathlib.Core.Bool.{true, false}
use lib.ListN.{length}
use Rattle.std.proofs.Common.{rules, Err}
use Rattle.state.specs.Answers.{map_fetch_reply}
use Rattle.state.specs.Refusals.{number}
use Rattle.state.specs.Verdict.{Reply, refused, replied, accepted}
use Rattle.bytemap.specs.Map.{Map, map_of}
use Rattle.bytemap.specs.Fetch.{fetch_says, fetch_map, fetch_dest}
use Rattle.mapfetch.proofs.Fitting.{fetched}
use Rattle.mapfetch.proofs.fetch.Goals as goal

pub returns-in_err-counts : goal.returns-in_err-counts
unfolding accepted fetch_map fetch_dest
returns-in_err-counts c =
    let lent : Map = map_of c.args.flag.now c.args.words.now c.args.values.now in
    let said : Reply = fetch_says lent (length c.args.window.now) (length c.args.destination.now) c.args.address c.args.size in
    let same : c.from_residual.result ≡ Err c.in_err-counts.field-0.0 = search rules in
    let says : refused (number c.in_err-counts.field-0.0) ≡ said = c.in_err-counts.ensures in
    let no : accepted said ≡ false = ap accepted (sym says) in
    record { answer = ap map_fetch_reply same ∙ says; map = rw no; delivered = rw no }

pub returns : goal.returns
unfolding fetch_map fetch_dest accepted
returns c =
    let lent : Map = map_of c.args.flag.now c.args.words.now c.args.values.now in
    let said : Reply = fetch_says lent (length c.args.window.now) (length c.args.destination.now) c.args.address c.args.size in
    let told = c.in_ok-counts.counts in
    let says : replied (told.fresh ∷ told.replayed ∷ []) ≡ said = c.in_ok-counts.ensures in
    let yes : accepted said ≡ true = ap accepted (sym says) in
    let done = c.deliver.ensures in
    record {
      answer = says;
      map = rw yes (ap₂ (map_of c.args.flag.now) done.bits done.held);
      delivered = rw yes done.delivered;
    }

pub deliver-requires : goal.deliver-requires
unfolding accepted
deliver-requires c =
    let lent : Map = map_of c.args.flag.now c.args.words.now c.args.values.now in
    let said : Reply = fetch_says lent (length c.args.window.now) (length c.args.destination.now) c.args.address c.args.size in
    let told = c.in_ok-counts.counts in
    let says : replied (told.fresh ∷ told.replayed ∷ []) ≡ said = c.in_ok-counts.ensures in
    fetched lent _ _ _ _ (omega arith) (omega arith) (ap accepted (sym says))
