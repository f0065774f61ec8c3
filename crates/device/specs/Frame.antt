-- One frame carried out, for any bytes (01, the agreed scope, "The log program"; docs/RULES.md has its rules): it is read and its call is
-- made, or the reader's refusal is the answer.
use Rattle.std.specs.Prelude.{ℕ, ◌≤◌, ◌≡◌, List, [], Bool, cond, eqb, length, take, drop, get_or}
use Prim.Native.Char.{code}
use Rattle.state.specs.Verdict.{Reply, accepted, numbers_of}
use Rattle.frames.specs.declared.Step.{Step}
use Rattle.frames.specs.declared.Step.TheVariants.{Begin, Fetch, End, HostWrite, OwnWrite}
use Rattle.kinds.specs.Table.{kind_of}
use Rattle.frames.specs.Read.{read_says, data_of}
use Rattle.cache.specs.Runs.{Call, says, delivers}
use Rattle.loglines.specs.Line.{answer_reply}
use Rattle.device.specs.declared.Carried.{Carried}
use Rattle.device.specs.Step.{Device, device_of, call_of, device_after}

-- the step of these numbers: kind, command, address, length
unfoldable pub step_of : List ℕ → Step
step_of ns =
    let kind = get_or ns 0 0 in
    let c = get_or ns 1 0 in
    let a = get_or ns 2 0 in
    let n = get_or ns 3 0 in
    cond (eqb kind 0) (Begin c) (cond (eqb kind 1) (Fetch c a n) (cond (eqb kind 2) (End c) (cond (eqb kind 3) (HostWrite a n) (OwnWrite c a n))))

-- what is read of a frame: whether it can be read, the bytes that it took up (none of an unreadable one), its step, and its letter
module _ (frame : List ℕ) where
  abbrev pub is_readable : Bool
  is_readable = accepted (read_says frame)

  abbrev pub taken_up : ℕ
  taken_up = get_or (numbers_of (read_says frame)) 0 0

  abbrev pub step_read : Step
  step_read = step_of (drop 1 (numbers_of (read_says frame)))

  abbrev pub letter_of : ℕ
  letter_of = cond is_readable (kind_of (get_or (numbers_of (read_says frame)) 1 0)).letter (code "?")

module _ (d : Device) (frame : List ℕ) where
  -- the frame's call; its data are the frame's bytes behind the head
  abbrev pub frame_call : Call
  frame_call = call_of (step_read frame) (data_of frame (taken_up frame)) d.dest d.window

  unfoldable pub frame_says : Reply
  frame_says = cond (is_readable frame) (says d.machine frame_call) (read_says frame)

  -- an unreadable frame changes nothing
  unfoldable pub frame_leaves : Device
  frame_leaves = cond (is_readable frame) (device_after d frame_call) d

  unfoldable pub frame_delivers : List ℕ
  frame_delivers = cond (is_readable frame) (delivers d.machine frame_call) []

-- a frame carried out by the code; what was delivered stands at the front of the destination
pub record Carries (d : Device) (frame : List ℕ) (r : Carried) (words' store' window' dest' : List ℕ) : Type 0 where
  pub taken : r.taken ≡ taken_up frame
  pub letter : r.letter ≡ letter_of frame
  pub answer : answer_reply r.answer ≡ frame_says d frame
  pub leaves : device_of words' store' window' dest' ≡ frame_leaves d frame
  pub within : r.delivered ≤ length dest'
  pub delivered : take r.delivered dest' ≡ frame_delivers d frame
