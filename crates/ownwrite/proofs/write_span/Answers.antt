-- Refused, everything is as it was; held, the bytes are put over what was held before, and go into the window.
use Rattle.std.proofs.Common.{arith, ◌-◌, ◌∙◌, ap, length}
use Rattle.std.proofs.lemmas.Result.{err_from_is_err_and}
use lib.Seq.{take_all}
use Rattle.octets.specs.Lists.{overwrite}
use Rattle.admission.proofs.Admitted.{admits}
use Rattle.ownwrite.proofs.Writing.{may_hold, full_refused, placed, span_written}
use Rattle.ownwrite.proofs.write_span.Goals as goal

pub hold_span-requires : goal.hold_span-requires
hold_span-requires c =
    let a = c.args in
    may_hold a.state.now a.store.now a.window.now _ _ a.bytes.now c.requires.0 c.told-state c.requires.1

pub returns-in_err-held : goal.returns-in_err-held
returns-in_err-held c =
    let a = c.args in
    let p = err_from_is_err_and c.from_residual.result c.from_residual.ensures.1 in
    rw (p.1, p.2)
    (full_refused a.state.now a.store.now a.window.now _ _ a.bytes.now c.requires.0 c.told-state c.requires.1 _ _ c.in_err-held.field-0.0
    c.in_err-held.ensures)

pub put_over-requires : goal.put_over-requires
put_over-requires c =
    let a = c.args in
    let n = length a.bytes.now in
    let A = admits _ (length a.store.now) (length a.window.now) n a.command a.address n c.requires.0 in (
      A.command,
      omega (arith, A.size),
      placed a.state.now a.store.now a.window.now _ _ a.bytes.now c.requires.0 c.told-state c.requires.1 _ _ _ _ _
          c.in_ok-held.ensures,
    )

pub returns : goal.returns
returns c =
    let a = c.args in
    let n = length a.bytes.now in
    let A = admits _ (length a.store.now) (length a.window.now) n a.command a.address n c.requires.0 in
    let all = take_all (length a.window.now - a.address) a.bytes.now (omega (arith, A.inside)) in
    span_written a.state.now a.store.now a.window.now _ _ a.bytes.now c.requires.0 c.told-state c.requires.1 _ _ _ _ _ c.in_ok-held.ensures _ _
    c.put_over.ensures (c.copy_at.ensures ∙ ap (overwrite a.window.now a.address) all)
