-- The replies for C, from what a call says: the status, and the numbers of the reply. A refused call has no numbers, so that its other
-- members are 0.
use Rattle.std.specs.Prelude.{ℕ, get_or}
use Rattle.state.specs.Verdict.{Reply, refused, replied, numbers_of}
use Rattle.replies.specs.declared.calls.Begun.{Begun}
use Rattle.replies.specs.declared.calls.Ended.{Ended}
use Rattle.replies.specs.declared.calls.Fetched.{Fetched}
use Rattle.replies.specs.declared.calls.Written.{Written}
use Rattle.replies.specs.declared.calls.Shown.{Shown}
use Rattle.replies.specs.declared.calls.Walked.{Walked}
use Rattle.replies.specs.declared.frame.FrameStep.{FrameStep}
use Rattle.replies.specs.declared.frame.Framed.{Framed}

-- 0, or the number of the refusal
abbrev pub status_of : Reply → ℕ
status_of (refused n) = n
status_of (replied ns) = 0

-- number k of the reply
abbrev pub member : ℕ → Reply → ℕ
member k says = get_or (numbers_of says) k 0

abbrev pub begun_of : Reply → Begun
begun_of says = record { status = status_of says }

abbrev pub ended_of : Reply → Ended
ended_of says = record { status = status_of says; records = member 0 says; bytes = member 1 says }

-- a byte map's fetch says two numbers, so that its third member is 0
abbrev pub fetched_of : Reply → Fetched
fetched_of says = record { status = status_of says; fresh = member 0 says; replayed = member 1 says; looked_at = member 2 says }

-- a host write says one number, so that its second member is 0
abbrev pub written_of : Reply → Written
written_of says = record { status = status_of says; bytes = member 0 says; fresh = member 1 says }

abbrev pub shown_of : Reply → Shown
shown_of says = record { status = status_of says; start = member 0 says; len = member 1 says }

abbrev pub walked_of : Reply → Walked
walked_of says = record { status = status_of says; spans = member 0 says; looked_at = member 1 says }

-- the reader says the bytes taken up first, and then the numbers of the step
abbrev pub step_of : Reply → FrameStep
step_of says =
    record {
      status = status_of says;
      kind = member 1 says;
      command = member 2 says;
      address = member 3 says;
      size = member 4 says;
      taken = member 0 says;
    }

abbrev pub framed_of : Reply → Framed
framed_of says = record { status = status_of says; size = member 0 says }
