-- Refused, everything is as it was; held, the span is delivered from the store.
use Rattle.std.proofs.Common.{arith, length}
use Rattle.std.proofs.lemmas.Result.{err_from_is_err_and}
use Rattle.admission.proofs.Admitted.{admits}
use Rattle.fetch.proofs.Fetching.{may_hold, full_refused, placed, at_most, span_fetched}
use Rattle.fetch.proofs.fetch_span.Goals as goal

pub hold_span-requires : goal.hold_span-requires
hold_span-requires c =
    let a = c.args in
    may_hold a.state.now a.store.now a.window.now a.destination.now _ _ _ c.requires.0 c.told-state c.requires.1

pub returns-in_err-held : goal.returns-in_err-held
returns-in_err-held c =
    let a = c.args in
    let p = err_from_is_err_and c.from_residual.result c.from_residual.ensures.1 in
    rw (p.1, p.2)
    (full_refused a.state.now a.store.now a.window.now a.destination.now _ _ _ c.requires.0 c.told-state c.requires.1 _ _
    c.in_err-held.field-0.0 c.in_err-held.ensures)

pub deliver-requires : goal.deliver-requires
deliver-requires c =
    let a = c.args in
    let A = admits _ (length a.store.now) (length a.window.now) (length a.destination.now) _ _ a.size c.requires.0 in (
      A.command,
      omega (arith, A.size),
      placed a.state.now a.store.now a.window.now a.destination.now _ _ _ c.requires.0 c.told-state c.requires.1
          _ _ _ _ _ c.in_ok-held.ensures,
      A.takes,
    )

pub overflow_sub-result : goal.overflow_sub-result
overflow_sub-result c =
    let a = c.args in
    at_most a.state.now a.store.now a.window.now a.destination.now _ _ _ c.requires.0 c.told-state c.requires.1 _ _ _ _ _ c.in_ok-held.ensures

pub returns : goal.returns
returns c =
    let a = c.args in
    span_fetched a.state.now a.store.now a.window.now a.destination.now _ _ _ c.requires.0 c.told-state c.requires.1 _ _ _ _ _
    c.in_ok-held.ensures _ c.deliver.ensures
