-- The claims on frames carried out, and on the numbers that calls and frames are refused with. Each holds for every device, machine and
-- input.
use Rattle.std.specs.Prelude.{ℕ, ◌≡◌, List, [], ◌∷◌, true, false}
use Rattle.state.specs.Verdict.{accepted, keeps_to}
use Rattle.frames.specs.Read.{read_says}
use Rattle.frames.specs.Write.{write_says}
use Rattle.cache.specs.Runs.{Call, begin, fetch, end, host_write, own_write, show, Machine, says}
use Rattle.device.specs.Step.{Device}
use Rattle.device.specs.Frame.{frame_says, frame_leaves, frame_delivers}

-- 01's rule on refusals, of frames: one that cannot be read, and one that is read and whose call is refused, leaves state, store, window
-- and destination as they were, and delivers nothing.
pub record Untouched (d : Device) (frame : List ℕ) : Type 0 where
  pub device : frame_leaves d frame ≡ d
  pub delivered : frame_delivers d frame ≡ []

abbrev pub RefusedFrame : Type 0
RefusedFrame = (d : Device) (frame : List ℕ) → accepted (frame_says d frame) ≡ false → Untouched d frame

-- 01's two lists of refusals: because of the input, and because of the state
abbrev pub listed : List ℕ
listed = 1 ∷ 2 ∷ 3 ∷ 4 ∷ 5 ∷ 6 ∷ 7 ∷ 8 ∷ 9 ∷ 10 ∷ 11 ∷ 20 ∷ 21 ∷ 22 ∷ 23 ∷ 24 ∷ 25 ∷ []

-- which of them can apply, as 01 has it for the reader, the writer and each call, and 02 (the agreed changes) for an own write
abbrev pub of_reader : List ℕ
of_reader = 1 ∷ 2 ∷ 3 ∷ 4 ∷ 5 ∷ []

abbrev pub of_writer : List ℕ
of_writer = 2 ∷ 3 ∷ 4 ∷ 5 ∷ 6 ∷ 10 ∷ 11 ∷ []

abbrev pub of_call : Call → List ℕ
of_call (begin c) = 6 ∷ 8 ∷ 20 ∷ 22 ∷ []
of_call (fetch c a n dest window) = 4 ∷ 6 ∷ 7 ∷ 8 ∷ 9 ∷ 10 ∷ 20 ∷ 21 ∷ 23 ∷ 24 ∷ []
of_call (end c) = 6 ∷ 8 ∷ 20 ∷ 21 ∷ []
of_call (host_write a bytes window) = 4 ∷ 7 ∷ 9 ∷ []
of_call (own_write c a bytes window) = 4 ∷ 6 ∷ 7 ∷ 8 ∷ 9 ∷ 20 ∷ 21 ∷ 23 ∷ 24 ∷ []
of_call (show c i) = 6 ∷ 20 ∷ 21 ∷ 25 ∷ []

-- Every refusal has a number of 01's lists, and one that can apply there.
pub record RefusalsListed : Type 0 where
  pub reads : (frame : List ℕ) → keeps_to of_reader (read_says frame) ≡ true
  pub writes : (kind command address size given room : ℕ) → keeps_to of_writer (write_says kind command address size given room) ≡ true
  pub calls : (m : Machine) (p : Call) → keeps_to (of_call p) (says m p) ≡ true
  pub any_call : (m : Machine) (p : Call) → keeps_to listed (says m p) ≡ true
  pub any_frame : (d : Device) (frame : List ℕ) → keeps_to listed (frame_says d frame) ≡ true
