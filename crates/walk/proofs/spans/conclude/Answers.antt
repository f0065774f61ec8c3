-- Refused, the lists stay; else the spans are put into both.
use native.Mathlib.Omega.{arith}
use mathlib.Core.List.{[]}
use Rattle.std.proofs.lemmas.Result.{err_from_is_err_and}
use Rattle.lists.specs.Lists.{asked}
use Rattle.walk.proofs.Concluding.{not_gathered, spans_put}
use Rattle.walk.proofs.spans.conclude.Goals as goal

pub returns-in_err-looked : goal.returns-in_err-looked
returns-in_err-looked c =
    let p = err_from_is_err_and c.from_residual.result c.from_residual.ensures.1 in
    rw (p.1, p.2) (not_gathered _ _ _ _ _ _ c.in_err-looked.was)

pub returns : goal.returns
returns c =
    let a = c.args in
    spans_put _ (asked 0 a.prp1 a.prp2 a.transfer []) _ _ _ c.behind_first-behind.result _ _ _ c.in_ok-looked.was
    c.behind_first-behind.ensures.0 (omega arith) c.put_addresses.ensures c.put_lengths.ensures
