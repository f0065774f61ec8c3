-- What the code of one frame does.
use Rattle.std.specs.Prelude.{ℕ, ◌≡◌, List}
use Rattle.state.specs.Verdict.{accepted}
use Rattle.octets.specs.Text.{Puts}
use Rattle.loglines.specs.Line.{line_of}
use Rattle.device.specs.Step.{Device, device_of}
use Rattle.device.specs.Frame.{taken_up, letter_of, frame_says, frame_leaves, frame_delivers}
use Rattle.entry.specs.declared.Logged.{Logged}

-- the frame is carried out, and its line put into a buffer
pub record Logs (d : Device) (number : ℕ) (frame : List ℕ) (out : List ℕ) (at : ℕ) (r : Logged) (words' store' window' dest' out' : List ℕ) : Type 0 where
  pub taken : r.taken ≡ taken_up frame
  pub accepted : r.accepted ≡ accepted (frame_says d frame)
  pub leaves : device_of words' store' window' dest' ≡ frame_leaves d frame
  pub line : Puts out at (line_of number (letter_of frame) (frame_says d frame) (frame_delivers d frame)) r.next out'
