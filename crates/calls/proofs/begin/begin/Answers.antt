-- Refused, everything is as it was. Accepted, the command holds nothing and its part is zeroed.
use Rattle.std.proofs.Common.{sym, ◌∙◌}
use Rattle.std.proofs.lemmas.Result.{err_from_is_err_and}
use Rattle.calls.proofs.Calls.{begin_barred, begin_open, begin_done}
use Rattle.calls.proofs.begin.begin.Goals as goal

pub returns-in_err-judge : goal.returns-in_err-judge
returns-in_err-judge c =
    let p = err_from_is_err_and c.from_residual.result c.from_residual.ensures.1 in
    rw (p.1, p.2) (begin_barred _ _ _ c.in_err-judge.field-0.0 c.in_err-judge.ensures.reply)

pub returns-then-is_open : goal.returns-then-is_open
returns-then-is_open c =
    begin_open c.args.state.now c.args.store.now _ c.in_ok-judge.ensures.reply (sym c.is_open.ensures ∙ c.if-is_open.true)

pub returns : goal.returns
returns c =
    rw c.zero.ensures
    (begin_done c.args.state.now c.args.store.now _ c.in_ok-judge.ensures.reply c.told-state c.reset.new.words c.reset.ensures.1
    (sym c.is_open.ensures ∙ c.if-is_open.false) c.reset.ensures.0)
