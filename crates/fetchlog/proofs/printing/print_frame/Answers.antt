-- The line fits the buffer, so that all of it stands there, and all of it is written.
use Rattle.std.proofs.Common.{ℕ, ◌≡◌, ◌-◌, ◌≤◌, ◌<◌, ◌^◌, ◌∙◌, ap, subst, List, length, take, take_all, arith}
use Rattle.std.specs.Io.KnownBytes.{Appends}
use Rattle.octets.specs.Lists.{overwrite}
use Rattle.octets.specs.Text.{Puts}
use Rattle.octets.proofs.Overwrite.{overwrite_front}
use Rattle.loglines.specs.Line.{line_of}
use Rattle.device.specs.Step.{Device, device_of}
use Rattle.device.specs.Frame.{letter_of, frame_says, frame_delivers}
use Rattle.journal.proofs.Fits.{line_fits}
use Rattle.fetchlog.proofs.printing.print_frame.Goals as goal

-- the line of a frame, put into a buffer of 8,448 bytes
module _ (d : Device) (frame line : List ℕ) (number : ℕ) (below : number < 10 ^ 20) (room : length line ≡ 8448) where
  abbrev text : List ℕ
  text = line_of number (letter_of frame) (frame_says d frame) (frame_delivers d frame)

  fits : length text ≤ length line
  fits = omega (arith, line_fits d frame number below, room)

  module _ (next : ℕ) (line' : List ℕ) (put : Puts line 0 text next line') where
    size : next ≡ length text
    size = omega (arith, put.next, fits)

    whole : line' ≡ overwrite line 0 text
    whole = rw (take_all (length line - 0) text (omega (arith, fits))) at put.bytes

    front : take next line' ≡ text
    front = ap (take next) whole ∙ overwrite_front line text next (omega (arith, size))

pub returns-clause-shows : goal.returns-clause-shows
returns-clause-shows g c =
    let d : Device = device_of c.args.state.now c.args.store.now c.args.window.now c.args.destination.now in
    let below : c.args.number < 10 ^ 20 = omega (arith, c.ranges.number.fits) in
    let made = c.log_frame-logged.ensures in
    record {
      taken = made.taken;
      accepted = made.accepted;
      leaves = made.leaves;
      size = size d c.args.frame.now c.args.line.now c.args.number below c.requires _ _ made.line;
      whole = whole d c.args.frame.now c.args.line.now c.args.number below c.requires _ _ made.line;
    }

pub returns-clause-printed : goal.returns-clause-printed
returns-clause-printed g c kept =
    let d : Device = device_of c.args.state.now c.args.store.now c.args.window.now c.args.destination.now in
    let below : c.args.number < 10 ^ 20 = omega (arith, c.ranges.number.fits) in
    subst (Appends (g.O.Write.contents c.args.streams.now.output) (g.O.Write.contents c.tell_if.new.streams.output))
    (front d c.args.frame.now c.args.line.now c.args.number below c.requires _ _ c.log_frame-logged.ensures.line)
    (c.tell_if.ensures.written kept)
