-- Barred, nothing changes, nor by an own write of no bytes.
use Rattle.std.proofs.Common.{arith, ap, sym}
use Rattle.std.proofs.lemmas.Result.{err_from_is_err_and}
use Rattle.state.specs.Verdict.{accepted}
use Rattle.ownwrite.proofs.Writing.{barred, nothing}
use Rattle.ownwrite.proofs.own_write.Goals as goal

pub returns-in_err-admit : goal.returns-in_err-admit
returns-in_err-admit c =
    let a = c.args in
    let p = err_from_is_err_and c.from_residual.result c.from_residual.ensures.1 in
    rw (p.1, p.2) (barred a.state.now a.store.now a.window.now a.command a.address a.bytes.now _ (sym c.in_err-admit.ensures))

pub returns-then-size-eq0 : goal.returns-then-size-eq0
unfolding accepted
returns-then-size-eq0 c =
    let a = c.args in
    nothing a.state.now a.store.now a.window.now a.command a.address a.bytes.now (omega arith) (ap accepted (sym c.in_ok-admit.ensures))

pub write_span-requires : goal.write_span-requires
unfolding accepted
write_span-requires c = (ap accepted (sym c.in_ok-admit.ensures), omega arith)
