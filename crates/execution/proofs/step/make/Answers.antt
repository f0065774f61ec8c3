-- A fetch delivers as many bytes as it asks for, or is refused; the other steps deliver none.
use Prim.Native.Nat.{ℕ}
use native.Mathlib.Omega.{arith}
use mathlib.Core.Path.{◌≡◌, refl, ap, ◌∙◌}
use mathlib.Core.Bool.{cond}
use Rattle.std.specs.Prelude.{Result, Ok, Err, MatchResult}
use Rattle.std.proofs.Common.{rules}
use Rattle.state.specs.declared.answer.FetchCounts.{FetchCounts}
use Rattle.state.specs.declared.refusal.Refusal.{Refusal}
use Rattle.state.specs.Answers.{fetch_reply}
use Rattle.state.specs.Verdict.{Reply, accepted}
use Rattle.loglines.specs.Line.{answer_reply}
use Rattle.device.specs.Step.{Device, device_of}
use Rattle.device.proofs.Steps.{equal_devices, fetch_delivers, fetch_within}
use Rattle.execution.proofs.step.make.Goals as goal

counted : (answer : Result FetchCounts Refusal) (size k : ℕ) → MatchResult answer (λ _. k ≡ size) (λ _. k ≡ 0) → k ≡ cond (accepted (fetch_reply answer)) size 0
unfolding accepted
counted (Ok counts) size k e = e
counted (Err refusal) size k e = e

pub returns-in-Fetch : goal.returns-in-Fetch
returns-in-Fetch c =
    let d : Device = device_of c.args.state.now c.args.store.now c.args.window.now c.args.destination.now in
    let call = c.fetch-answer.ensures in
    let dest' = c.fetch-answer.new.destination in
    let size = c.in-Fetch.size in
    let told : answer_reply c.map-in-Fetch.result ≡ fetch_reply c.fetch-answer.result = search rules in
    let cases : MatchResult c.fetch-answer.result (λ _. c.map_or.result ≡ size) (λ _. c.map_or.result ≡ 0) = search rules in
    let count = counted c.fetch-answer.result size c.map_or.result cases ∙ ap (λ (q : Reply). cond (accepted q) size 0) call.answer in
    rw c.in-Fetch.is record {
      answer = told ∙ call.answer;
      leaves = equal_devices call.state call.bytes refl call.delivered;
      within = fetch_within d.machine _ _ size d.dest d.window dest' _ count (omega arith);
      delivered = fetch_delivers d.machine _ _ size d.dest d.window dest' _ count call.delivered;
    }
