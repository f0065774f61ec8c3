-- Reading a frame (01, the agreed scope, "Step frames"; docs/RULES.md has its rules): the step and the number of bytes that it took up,
-- or a refusal.
use Rattle.std.specs.Prelude.{ℕ, ◌-◌, List, [], ◌∷◌, Result, cond, ◌&&◌, leb, length, get_or}
use Rattle.octets.specs.Lists.{part}
use Rattle.state.specs.declared.refusal.Refusal.{Refusal}
use Rattle.state.specs.Answers.{reply_of}
use Rattle.state.specs.Verdict.{Reply, replied, Check, verdict}
use Rattle.state.specs.Checks.{length_too_long}
use Rattle.frames.specs.declared.Step.{Step}
use Rattle.frames.specs.declared.Step.TheVariants.{Begin, Fetch, End, HostWrite, OwnWrite}
use Rattle.frames.specs.declared.Parsed.{Parsed}
use Rattle.frames.specs.Layout.{head_size, fields_of}
use Rattle.frames.specs.Kinds.{frame_size}
use Rattle.frames.specs.Checks.{frame_too_short, unknown_kind, field_not_zero, data_missing}

-- 01's numbers of a step: kind, command, address, length
abbrev pub step_numbers : Step → List ℕ
step_numbers (Begin c) = 0 ∷ c ∷ 0 ∷ 0 ∷ []
step_numbers (Fetch c a n) = 1 ∷ c ∷ a ∷ n ∷ []
step_numbers (End c) = 2 ∷ c ∷ 0 ∷ 0 ∷ []
step_numbers (HostWrite a n) = 3 ∷ 0 ∷ a ∷ n ∷ []
step_numbers (OwnWrite c a n) = 4 ∷ c ∷ a ∷ n ∷ []

-- 01's answer, for each case of the reader's
abbrev pub read_reply : Result Parsed Refusal → Reply
read_reply = reply_of (λ (p : Parsed). p.consumed ∷ step_numbers p.step)

-- what the fields say; given is how many bytes there are
module _ (given kind command address size spare : ℕ) where
  -- 1 to 5
  abbrev pub read_checks : List Check
  read_checks =
      frame_too_short given ∷ unknown_kind kind ∷ field_not_zero kind command address size spare ∷ length_too_long size ∷ data_missing given kind size ∷ []

  -- the reply: the bytes that the frame takes up, and the numbers of its step
  unfoldable pub fields_say : Reply
  fields_say = verdict read_checks (replied (frame_size kind size ∷ kind ∷ command ∷ address ∷ size ∷ []))

-- the reader's answer, for any bytes
unfoldable pub read_says : (frame : List ℕ) → Reply
read_says frame =
    let f = fields_of frame in
    fields_say (length frame) (get_or f 0 0) (get_or f 1 0) (get_or f 2 0) (get_or f 3 0) (get_or f 4 0)

-- the step's data: the bytes from the head on, up to the number taken up; nothing where that number is not one of this frame
abbrev pub data_of : (frame : List ℕ) (consumed : ℕ) → List ℕ
data_of frame consumed = cond (leb head_size consumed && leb consumed (length frame)) (part frame head_size (consumed - head_size)) []
