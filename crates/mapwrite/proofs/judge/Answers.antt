-- What fetch's judge says of the span, told as the answer of an own write.
use mathlib.Core.Path.{◌≡◌, ap, ◌∙◌}
use mathlib.Core.List.{[], ◌∷◌}
use Rattle.std.proofs.Common.{rules, Err}
use Rattle.state.specs.Answers.{own_write_reply}
use Rattle.state.specs.Refusals.{number}
use Rattle.state.specs.Verdict.{refused, replied}
use Rattle.bytemap.specs.Map.{Map, map_of}
use Rattle.bytemap.specs.Fetch.{fetch_says}
use Rattle.mapwrite.proofs.AsFetched.{as_written, own_as_fetched}
use Rattle.mapwrite.proofs.judge.Goals as goal

pub returns-in_err-fetched : goal.returns-in_err-fetched
returns-in_err-fetched c =
    let a = c.args in
    let lent : Map = map_of a.flag a.words.now a.values.now in
    let same : c.from_residual.result ≡ Err c.in_err-fetched.field-0.0 = search rules in
    let says : refused (number c.in_err-fetched.field-0.0) ≡ fetch_says lent a.window_len a.size a.address a.size = c.in_err-fetched.ensures in
    ap own_write_reply same ∙ ap (as_written a.size) says ∙ own_as_fetched lent a.window_len a.address a.size

pub returns : goal.returns
returns c =
    let a = c.args in
    let lent : Map = map_of a.flag a.words.now a.values.now in
    let told = c.in_ok-fetched.fetched in
    let says : replied (told.fresh ∷ told.replayed ∷ []) ≡ fetch_says lent a.window_len a.size a.address a.size = c.in_ok-fetched.ensures in
    ap (as_written a.size) says ∙ own_as_fetched lent a.window_len a.address a.size
