-- Refused, the map is as it was. Accepted, it is cleared.
use mathlib.Core.Path.{◌≡◌, ap, sym, ◌∙◌}
use mathlib.Core.List.{[], ◌∷◌}
use mathlib.Core.Bool.{true, false}
use Rattle.std.proofs.Common.{rules, Err}
use Rattle.state.specs.Answers.{end_reply}
use Rattle.state.specs.Refusals.{number}
use Rattle.state.specs.Verdict.{refused, replied, accepted}
use Rattle.bytemap.specs.Map.{Map, map_of}
use Rattle.bytemap.specs.End.{end_says, end_map}
use Rattle.mapcalls.proofs.end.end.Goals as goal

pub returns-in_err-counts : goal.returns-in_err-counts
unfolding accepted end_map
returns-in_err-counts c =
    let lent : Map = map_of c.args.flag.now c.args.words.now c.args.values.now in
    let same : c.from_residual.result ≡ Err c.in_err-counts.field-0.0 = search rules in
    let says : refused (number c.in_err-counts.field-0.0) ≡ end_says lent = c.in_err-counts.ensures in
    let no : accepted (end_says lent) ≡ false = ap accepted (sym says) in
    record { answer = ap end_reply same ∙ says; map = rw no }

pub returns : goal.returns
unfolding accepted end_map
returns c =
    let lent : Map = map_of c.args.flag.now c.args.words.now c.args.values.now in
    let says : replied (c.in_ok-counts.counts.records ∷ c.in_ok-counts.counts.bytes ∷ []) ≡ end_says lent = c.in_ok-counts.ensures in
    let yes : accepted (end_says lent) ≡ true = ap accepted (sym says) in
    record { answer = says; map = rw yes c.reset.ensures }
