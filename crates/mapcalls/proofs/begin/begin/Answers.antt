-- Refused, the map is as it was. Accepted, it is cleared.
use mathlib.Core.Path.{◌≡◌, ap, sym, ◌∙◌}
use mathlib.Core.List.{[]}
use mathlib.Core.Bool.{true, false}
use Rattle.std.proofs.Common.{rules, Err}
use Rattle.state.specs.Answers.{begin_reply}
use Rattle.state.specs.Refusals.{number}
use Rattle.state.specs.Verdict.{refused, replied, accepted}
use Rattle.bytemap.specs.Map.{Map, map_of}
use Rattle.bytemap.specs.Begin.{begin_says, begin_map}
use Rattle.mapcalls.proofs.begin.begin.Goals as goal

pub returns-in_err-judge : goal.returns-in_err-judge
unfolding accepted begin_map
returns-in_err-judge c =
    let lent : Map = map_of c.args.flag.now c.args.words.now c.args.values.now in
    let same : c.from_residual.result ≡ Err c.in_err-judge.field-0.0 = search rules in
    let says : refused (number c.in_err-judge.field-0.0) ≡ begin_says lent = c.in_err-judge.ensures in
    let no : accepted (begin_says lent) ≡ false = ap accepted (sym says) in
    record { answer = ap begin_reply same ∙ says; map = rw no }

pub returns : goal.returns
unfolding accepted begin_map
returns c =
    let lent : Map = map_of c.args.flag.now c.args.words.now c.args.values.now in
    let says : replied [] ≡ begin_says lent = c.in_ok-judge.ensures in
    let yes : accepted (begin_says lent) ≡ true = ap accepted (sym says) in
    record { answer = says; map = rw yes c.reset.ensures }
