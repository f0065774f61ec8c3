-- Writing a frame (01, the agreed scope, "Step frames"; docs/RULES.md has its rules): its bytes go to the front of the output, and the
-- reply is their number.
use Rattle.std.specs.Prelude.{ℕ, List, [], ◌∷◌, ◌++◌, Result, cond, length}
use Rattle.octets.specs.Lists.{overwrite}
use Rattle.state.specs.declared.refusal.Refusal.{Refusal}
use Rattle.state.specs.Answers.{reply_of}
use Rattle.state.specs.Verdict.{Reply, replied, accepted, Check, verdict}
use Rattle.state.specs.Checks.{length_too_long, command_too_high, buffer_too_short}
use Rattle.frames.specs.Layout.{head_bytes}
use Rattle.frames.specs.Kinds.{frame_size}
use Rattle.frames.specs.Checks.{unknown_kind, field_not_zero, data_mismatch, address_too_high}

-- 01's answer, for each case of the writer's
abbrev pub write_reply : Result ℕ Refusal → Reply
write_reply = reply_of (λ (n : ℕ). n ∷ [])

-- given is how many bytes of data there are, and room how long the output is
module _ (kind command address size given room : ℕ) where
  -- 2 to 6, 10, 11; the writer makes the spare bits zero itself
  abbrev pub write_checks : List Check
  write_checks =
      unknown_kind kind ∷ field_not_zero kind command address size 0 ∷ length_too_long size ∷ data_mismatch given kind size
      ∷ command_too_high command ∷ buffer_too_short room (frame_size kind size) ∷ address_too_high address ∷ []

  -- the reply: how many bytes the frame has
  unfoldable pub write_says : Reply
  write_says = verdict write_checks (replied (frame_size kind size ∷ []))

module _ (kind command address size : ℕ) (bytes : List ℕ) where
  -- the frame: the data right after the head
  abbrev pub frame_bytes : List ℕ
  frame_bytes = head_bytes (kind ∷ command ∷ address ∷ size ∷ 0 ∷ []) ++ bytes

  -- the output afterwards: the frame at its front and the rest as it was; all of it as it was where the step is refused
  unfoldable pub write_output : List ℕ → List ℕ
  write_output output =
      cond (accepted (write_says kind command address size (length bytes) (length output))) (overwrite output 0 frame_bytes) output
