-- Refused, everything is as it was. Accepted, the command holds nothing and its part is zeroed; what is counted in the command's words is counted
-- in its records.
use Rattle.std.proofs.Common.{ap, sym, ◌∙◌, length}
use Rattle.std.proofs.lemmas.Result.{err_from_is_err_and}
use Rattle.state.specs.Records.{total}
use Rattle.state.specs.State.{CommandState, records_in}
use Rattle.words.proofs.StateWords.{lent_command_lem}
use Rattle.calls.proofs.Calls.{ready, end_barred, end_closed, end_done}
use Rattle.calls.proofs.end.end.Goals as goal

pub returns-in_err-judge : goal.returns-in_err-judge
returns-in_err-judge c =
    let p = err_from_is_err_and c.from_residual.result c.from_residual.ensures.1 in
    rw (p.1, p.2) (end_barred _ _ _ c.in_err-judge.field-0.0 c.in_err-judge.ensures.reply)

pub returns-then-not-is_open : goal.returns-then-not-is_open
returns-then-not-is_open c =
    end_closed c.args.state.now c.args.store.now _ c.in_ok-judge.ensures.reply (sym c.is_open.ensures ∙ c.if-not-is_open.true)

pub returns : goal.returns
returns c =
    let a = c.args in
    let own = lent_command_lem a.state.now a.command c.told-state (ready a.state.now a.store.now _ c.in_ok-judge.ensures.reply).command in
    let records = c.used.ensures.0 ∙ ap (λ (p : CommandState). length (records_in p)) own in
    let bytes = c.held_from.ensures ∙ ap (λ (p : CommandState). total (records_in p)) own in
    rw c.zero.ensures
    (end_done a.state.now a.store.now _ c.in_ok-judge.ensures.reply c.told-state c.reset.new.words c.reset.ensures.1
    (sym c.is_open.ensures ∙ c.if-not-is_open.false) _ _ records bytes c.reset.ensures.0)
