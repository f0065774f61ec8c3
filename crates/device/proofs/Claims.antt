-- A refused frame leaves the device as it was, and every refusal has a number of 01's lists.
use Prim.Native.Nat.{ℕ}
use mathlib.Core.Path.{◌≡◌, refl}
use mathlib.Core.List.{List, []}
use mathlib.Core.Bool.{Bool, true, false}
use Rattle.octets.specs.Lists.{all}
use Rattle.state.specs.Verdict.{accepted, contains, keeps_to}
use Rattle.state.proofs.Verdict.{verdict_keeps}
use Rattle.frames.specs.declared.Step.{Step}
use Rattle.frames.specs.declared.Step.TheVariants.{Begin, Fetch, End, HostWrite, OwnWrite}
use Rattle.frames.specs.Read.{fields_say, read_says, data_of}
use Rattle.frames.specs.Write.{write_says}
use Rattle.cache.specs.Begin.{begin_says, begin_state, begin_store}
use Rattle.cache.specs.Fetch.{fetch_says, fetch_state, fetch_store, fetch_dest}
use Rattle.cache.specs.End.{end_says, end_state, end_store}
use Rattle.cache.specs.HostWrite.{host_says, host_window}
use Rattle.cache.specs.OwnWrite.{own_says, own_state, own_store, own_window}
use Rattle.cache.specs.Show.{show_says}
use Rattle.cache.specs.Runs.{Call, begin, fetch, end, host_write, own_write, show, Machine, says, delivers}
use Rattle.device.specs.Step.{Device, call_of, device_after}
use Rattle.device.specs.Frame.{is_readable, taken_up, step_read, frame_call, frame_says, frame_leaves, frame_delivers}
use Rattle.device.specs.Claims.{Untouched, RefusedFrame, listed, of_reader, of_writer, of_call, RefusalsListed}

-- A refused call

call_leaves :
    (d : Device) (s : Step) (bytes : List ℕ) →
    let p = call_of s bytes d.dest d.window in
    accepted (says d.machine p) ≡ false → device_after d p ≡ d
unfolding begin_state begin_store fetch_state fetch_store fetch_dest end_state end_store host_window own_state own_store own_window
call_leaves d (Begin c) bytes e = rw e
call_leaves d (Fetch c a n) bytes e = rw e
call_leaves d (End c) bytes e = rw e
call_leaves d (HostWrite a n) bytes e = rw e
call_leaves d (OwnWrite c a n) bytes e = rw e

call_delivers : (m : Machine) (p : Call) → accepted (says m p) ≡ false → delivers m p ≡ []
call_delivers m p e = rw e

pub refused_frame : RefusedFrame
unfolding frame_says frame_leaves frame_delivers
refused_frame d frame away = go (is_readable frame) refl
  where
    go : (b : Bool) → is_readable frame ≡ b → Untouched d frame
    go true r = record {
      device = rw r (call_leaves d (step_read frame) (data_of frame (taken_up frame)) (rw r at away));
      delivered = rw r (call_delivers d.machine (frame_call d frame) (rw r at away));
    }
    go false r = record { device = rw r; delivered = rw r }

-- The numbers
reads_keep : (frame : List ℕ) → keeps_to of_reader (read_says frame) ≡ true
unfolding read_says fields_say all contains
reads_keep frame = verdict_keeps of_reader _ _ refl

reads_listed : (frame : List ℕ) → keeps_to listed (read_says frame) ≡ true
unfolding read_says fields_say all contains
reads_listed frame = verdict_keeps listed _ _ refl

writes_keep : (kind command address size given room : ℕ) → keeps_to of_writer (write_says kind command address size given room) ≡ true
unfolding write_says all contains
writes_keep kind command address size given room = verdict_keeps of_writer _ _ refl

calls_keep : (m : Machine) (p : Call) → keeps_to (of_call p) (says m p) ≡ true
unfolding begin_says fetch_says end_says host_says own_says show_says all contains
calls_keep m (begin c) = verdict_keeps (of_call (begin c)) _ _ refl
calls_keep m (fetch c a n dest window) = verdict_keeps (of_call (fetch c a n dest window)) _ _ refl
calls_keep m (end c) = verdict_keeps (of_call (end c)) _ _ refl
calls_keep m (host_write a bytes window) = verdict_keeps (of_call (host_write a bytes window)) _ _ refl
calls_keep m (own_write c a bytes window) = verdict_keeps (of_call (own_write c a bytes window)) _ _ refl
calls_keep m (show c i) = verdict_keeps (of_call (show c i)) _ _ refl

calls_listed : (m : Machine) (p : Call) → keeps_to listed (says m p) ≡ true
unfolding begin_says fetch_says end_says host_says own_says show_says all contains
calls_listed m (begin c) = verdict_keeps listed _ _ refl
calls_listed m (fetch c a n dest window) = verdict_keeps listed _ _ refl
calls_listed m (end c) = verdict_keeps listed _ _ refl
calls_listed m (host_write a bytes window) = verdict_keeps listed _ _ refl
calls_listed m (own_write c a bytes window) = verdict_keeps listed _ _ refl
calls_listed m (show c i) = verdict_keeps listed _ _ refl

frames_listed : (d : Device) (frame : List ℕ) → keeps_to listed (frame_says d frame) ≡ true
unfolding frame_says
frames_listed d frame = go (is_readable frame) refl
  where
    go : (b : Bool) → is_readable frame ≡ b → keeps_to listed (frame_says d frame) ≡ true
    go true r = rw r (calls_listed d.machine (frame_call d frame))
    go false r = rw r (reads_listed frame)

pub refusals_listed : RefusalsListed
refusals_listed = record { reads = reads_keep; writes = writes_keep; calls = calls_keep; any_call = calls_listed; any_frame = frames_listed }
