-- What the half of fetch and of own write that reads and judges says: the checks that need no search, and then what the search of one
-- command's records gives.
use Rattle.std.specs.Prelude.{ℕ, ◌+◌, ◌≤◌, ◌<◌, ◌≡◌, drop, Result, Ok, Err}
use Rattle.state.specs.State.{CommandState, records_in}
use Rattle.state.specs.declared.Meeting.{Meeting}
use Rattle.state.specs.Join.{Join, join}
use Rattle.state.specs.Limits.{record_limit, held_limit}
use Rattle.state.specs.Records.{total}
use Rattle.state.specs.declared.refusal.Refusal.{Refusal}
use Rattle.state.specs.declared.refusal.Refusal.TheVariants.{TooManyBytes, TooManyRecords}
use Rattle.state.specs.Answers.{begin_reply}
use Rattle.state.specs.Verdict.{Reply}
use Rattle.admission.specs.declared.plan.Finding.{Finding}

-- a call that is admitted has nothing to tell yet
abbrev pub admission_reply : Result Unit Refusal → Reply
admission_reply = begin_reply

-- the bytes that are held behind the joined record, and all that would be held
abbrev pub behind_of : CommandState → Join → ℕ
behind_of p j = total (drop j.meeting.last (records_in p))

abbrev pub bytes_of : CommandState → Join → ℕ
bytes_of p j = j.meeting.below + j.meeting.held + behind_of p j + j.fresh

-- there is room: the numbers are those of the join
pub record Plan (p : CommandState) (j : Join) (m : Meeting) (fresh place behind looked : ℕ) : Type 0 where
  pub meets : m ≡ j.meeting
  pub new : fresh ≡ j.fresh
  pub stands : place ≡ j.place
  pub rest : behind ≡ behind_of p j
  pub looks : looked ≡ j.looked
  pub bytes : bytes_of p j ≤ held_limit
  pub few : j.command.count ≤ record_limit

pub record TooMany (p : CommandState) (j : Join) : Type 0 where
  pub bytes : bytes_of p j ≤ held_limit
  pub many : record_limit < j.command.count

-- 23 and 24 are the only refusals, and each is given just where it applies
abbrev pub PlansJoin : CommandState → Join → Result Finding Refusal → Type 0
PlansJoin p j (Ok f) = Plan p j f.m f.fresh f.place f.behind f.looked
PlansJoin p j (Err TooManyBytes) = held_limit < bytes_of p j
PlansJoin p j (Err TooManyRecords) = TooMany p j
PlansJoin p j (Err _) = ⊥

abbrev pub Plans : CommandState → (a n : ℕ) → Result Finding Refusal → Type 0
Plans p a n r = PlansJoin p (join p a (a + n)) r
