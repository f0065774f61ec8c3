-- What each answer of the code stands for: the number of a refusal, or the numbers of the reply.
use Rattle.std.specs.Prelude.{ℕ, List, [], ◌∷◌, Result, Ok, Err}
use Rattle.state.specs.declared.Record.{Record}
use Rattle.state.specs.declared.answer.EndCounts.{EndCounts}
use Rattle.state.specs.declared.answer.FetchCounts.{FetchCounts}
use Rattle.state.specs.declared.answer.MapFetchCounts.{MapFetchCounts}
use Rattle.state.specs.declared.answer.OwnWriteCounts.{OwnWriteCounts}
use Rattle.state.specs.declared.answer.WalkCounts.{WalkCounts}
use Rattle.state.specs.declared.refusal.Refusal.{Refusal}
use Rattle.state.specs.Refusals.{number}
use Rattle.state.specs.Verdict.{Reply, refused, replied}

-- an answer, where `told` are the numbers that an accepted call replies
abbrev pub reply_of : {A : Type 0} → (A → List ℕ) → Result A Refusal → Reply
reply_of told (Ok a) = replied (told a)
reply_of told (Err r) = refused (number r)

abbrev pub begin_reply : Result Unit Refusal → Reply
begin_reply = reply_of (λ _. [])

abbrev pub fetch_reply : Result FetchCounts Refusal → Reply
fetch_reply = reply_of (λ (a : FetchCounts). a.fresh ∷ a.replayed ∷ a.looked ∷ [])

abbrev pub map_fetch_reply : Result MapFetchCounts Refusal → Reply
map_fetch_reply = reply_of (λ (a : MapFetchCounts). a.fresh ∷ a.replayed ∷ [])

abbrev pub end_reply : Result EndCounts Refusal → Reply
end_reply = reply_of (λ (a : EndCounts). a.records ∷ a.bytes ∷ [])

abbrev pub own_write_reply : Result OwnWriteCounts Refusal → Reply
own_write_reply = reply_of (λ (a : OwnWriteCounts). a.written ∷ a.fresh ∷ [])

abbrev pub host_write_reply : Result ℕ Refusal → Reply
host_write_reply = reply_of (λ (n : ℕ). n ∷ [])

abbrev pub show_reply : Result Record Refusal → Reply
show_reply = reply_of (λ (r : Record). r.start ∷ r.len ∷ [])

abbrev pub walk_reply : Result WalkCounts Refusal → Reply
walk_reply = reply_of (λ (a : WalkCounts). a.spans ∷ a.looked ∷ [])
