-- A step that was read, made as a call: what it answers and what it leaves (01, the agreed scope, "The calls"; docs/RULES.md has its
-- rules). The definitions are those of the claims over lists of calls, so that a journal of frames is a list of calls to which the claims
-- apply.
use Rattle.std.specs.Prelude.{ℕ, ◌≤◌, ◌≡◌, List, length, take}
use Rattle.state.specs.Words.{state_of}
use Rattle.frames.specs.declared.Step.{Step}
use Rattle.frames.specs.declared.Step.TheVariants.{Begin, Fetch, End, HostWrite, OwnWrite}
use Rattle.cache.specs.Runs.{Call, begin, fetch, end, host_write, own_write, show, Machine, says, after, dest_after, window_after, delivers}
use Rattle.loglines.specs.Line.{answer_reply}
use Rattle.device.specs.declared.Made.{Made}

-- what a run hands on from step to step: state and store, the window, and the destination
pub record Device : Type 0 where
  pub machine : Machine
  pub window : List ℕ
  pub dest : List ℕ

-- the one that the words of the state and the three buffers make
abbrev pub device_of : (words store window dest : List ℕ) → Device
device_of words store window dest = record { machine = record { state = state_of words; store = store }; window = window; dest = dest }

-- the call that a step is, with its data and what is lent
abbrev pub call_of : Step → (bytes dest window : List ℕ) → Call
call_of (Begin c) bytes dest window = begin c
call_of (Fetch c a n) bytes dest window = fetch c a n dest window
call_of (End c) bytes dest window = end c
call_of (HostWrite a n) bytes dest window = host_write a bytes window
call_of (OwnWrite c a n) bytes dest window = own_write c a bytes window

-- the window and the destination after a call; one that the call does not take stays
abbrev pub window_left : Machine → Call → List ℕ → List ℕ
window_left m (begin c) window = window
window_left m (fetch c a n dest w) window = w
window_left m (end c) window = window
window_left m (host_write a bytes w) window = window_after m (host_write a bytes w)
window_left m (own_write c a bytes w) window = window_after m (own_write c a bytes w)
window_left m (show c i) window = window

abbrev pub dest_left : Machine → Call → List ℕ → List ℕ
dest_left m (begin c) dest = dest
dest_left m (fetch c a n d w) dest = dest_after m (fetch c a n d w)
dest_left m (end c) dest = dest
dest_left m (host_write a bytes w) dest = dest
dest_left m (own_write c a bytes w) dest = dest
dest_left m (show c i) dest = dest

-- all that is handed on, after a call
abbrev pub device_after : Device → Call → Device
device_after d p = record {
  machine = after d.machine p;
  window = window_left d.machine p d.window;
  dest = dest_left d.machine p d.dest;
}

-- a step made as a call by the code; what was delivered stands at the front of the destination
pub record Makes (d : Device) (p : Call) (r : Made) (words' store' window' dest' : List ℕ) : Type 0 where
  pub answer : answer_reply r.answer ≡ says d.machine p
  pub leaves : device_of words' store' window' dest' ≡ device_after d p
  pub within : r.delivered ≤ length dest'
  pub delivered : take r.delivered dest' ≡ delivers d.machine p
