-- What the log program does with a journal, whether a line is written or not: what stands in the buffer of which a frame's line is written,
-- and how much of it is the line. What is printed is said by the clauses `printed` of the functions.
use Rattle.std.specs.Prelude.{ℕ, ◌≡◌, List, length}
use Rattle.state.specs.Verdict.{accepted}
use Rattle.octets.specs.Lists.{overwrite, count}
use Rattle.loglines.specs.Line.{line_of}
use Rattle.device.specs.Step.{Device, device_of}
use Rattle.device.specs.Frame.{taken_up, letter_of, frame_says, frame_leaves, frame_delivers}
use Rattle.journal.specs.Run.{entries, journal_leaves, was_carried, was_refused, ends_early}
use Rattle.fetchlog.specs.declared.printing.Shown.{Shown}
use Rattle.fetchlog.specs.declared.printing.Printed.{Printed}

-- one frame: what it does to the device, how long its line is, and that it stands whole at the front of the buffer
pub record Shows (d : Device) (number : ℕ) (frame line : List ℕ) (r : Shown) (words' store' window' dest' line' : List ℕ) : Type 0 where
  pub taken : r.taken ≡ taken_up frame
  pub accepted : r.accepted ≡ accepted (frame_says d frame)
  pub leaves : device_of words' store' window' dest' ≡ frame_leaves d frame
  pub size : r.size ≡ length (line_of number (letter_of frame) (frame_says d frame) (frame_delivers d frame))
  pub whole : line' ≡ overwrite line 0 (line_of number (letter_of frame) (frame_says d frame) (frame_delivers d frame))

-- a journal: every frame of it is carried out, whether its line is written or not; how many there are, an unreadable one counted, how many
-- were carried out and how many a call refused, and whether an unreadable one ended the run
pub record Prints (d : Device) (input : List ℕ) (r : Printed) (words' store' window' dest' : List ℕ) : Type 0 where
  pub leaves : device_of words' store' window' dest' ≡ journal_leaves d input
  pub frames : r.frames ≡ length (entries d input)
  pub carried : r.carried ≡ count was_carried (entries d input)
  pub refused : r.refused ≡ count was_refused (entries d input)
  pub early : r.early ≡ ends_early (entries d input)
