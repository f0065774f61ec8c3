-- Refused, the window is as it was. Accepted, the bytes fit, so all of them are copied.
use Prim.Native.Nat.{ℕ, ◌-◌}
use native.Mathlib.Omega.{arith}
use mathlib.Core.Path.{◌≡◌, ap, sym, ◌∙◌}
use mathlib.Core.List.{[], ◌∷◌}
use lib.ListN.{length}
use lib.Seq.{take_all}
use Rattle.std.proofs.lemmas.Result.{err_from_is_err_and}
use Rattle.octets.specs.Lists.{overwrite}
use Rattle.state.specs.Refusals.{number}
use Rattle.state.specs.Verdict.{refused, replied, accepted, verdict}
use Rattle.state.proofs.Verdict.{verdict_bars, verdict_passes}
use Rattle.cache.specs.HostWrite.{host_checks, host_says, host_window}
use Rattle.cache.proofs.Accepted.{host_inside}
use Rattle.hostwrite.proofs.host_write.Goals as goal

pub returns-in_err-judge : goal.returns-in_err-judge
unfolding accepted host_says host_window
returns-in_err-judge c =
    let a = c.args in
    let p = err_from_is_err_and c.from_residual.result c.from_residual.ensures.1 in
    let says : host_says (length a.window.now) a.address (length a.bytes.now) ≡ refused (number c.in_err-judge.field-0.0) =
    verdict_bars (host_checks (length a.window.now) a.address (length a.bytes.now)) [] [] _ _ (sym c.in_err-judge.ensures) in
    rw (p.1, p.2) (record { reply = sym says; window = rw says })

pub returns : goal.returns
unfolding accepted host_says host_window verdict
returns c =
    let a = c.args in
    let n : ℕ = length a.bytes.now in
    let says : host_says (length a.window.now) a.address n ≡ replied (n ∷ []) =
    verdict_passes [] (replied []) _ (host_checks (length a.window.now) a.address n) (ap accepted (sym c.in_ok-judge.ensures)) in
    let all_of_it = take_all (length a.window.now - a.address) a.bytes.now (omega (arith, host_inside (length a.window.now) a.address n (ap accepted says))) in
    record { reply = sym says; window = c.copy_at.ensures ∙ ap (overwrite a.window.now a.address) all_of_it ∙ rw says }
