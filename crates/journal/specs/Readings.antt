-- What is read of a journal, frame by frame, before any of it is carried out; and the requests that it makes.
use Rattle.std.specs.Prelude.{ℕ, zero, suc, List, [], ◌∷◌, Bool, true, false, cond, length, drop}
use Rattle.state.specs.Verdict.{Reply, accepted, numbers_of}
use Rattle.frames.specs.declared.Step.{Step}
use Rattle.frames.specs.declared.Step.TheVariants.{Begin, Fetch, End, HostWrite, OwnWrite}
use Rattle.frames.specs.Read.{read_says, data_of}
use Rattle.history.specs.Claims.{blank}
use Rattle.device.specs.Frame.{step_of, is_readable, taken_up}
use Rattle.journal.specs.Writes.{Request, begins, fetches, ends, host_writes, own_writes}

-- what the reader says of a frame (the bytes taken up and the step's numbers, or a refusal), and the step's data
pub record Reading : Type 0 where
  pub says : Reply
  pub bytes : List ℕ

abbrev pub reading_of : (frame : List ℕ) → Reading
reading_of frame = record { says = read_says frame; bytes = data_of frame (taken_up frame) }

-- the readings of a journal, of which an unreadable one is the last; the steps only bound the recursion
unfoldable pub readings_in : (steps : ℕ) → (input : List ℕ) → List Reading
readings_in zero input = []
readings_in (suc steps) [] = []
readings_in (suc steps) (x ∷ xs) =
    reading_of (x ∷ xs) ∷ elim (is_readable (x ∷ xs)) [ true ↦ readings_in steps (drop (taken_up (x ∷ xs)) (x ∷ xs)) | false ↦ [] ]

abbrev pub readings : (input : List ℕ) → List Reading
readings input = readings_in (length input) input

abbrev pub step_in : Reading → Step
step_in r = step_of (drop 1 (numbers_of r.says))

abbrev pub is_host_write : Step → Bool
is_host_write (Begin c) = false
is_host_write (Fetch c a n) = false
is_host_write (End c) = false
is_host_write (HostWrite a n) = true
is_host_write (OwnWrite c a n) = false

-- the reading with zeros for the bytes of a host write, as many as there were: all but what the host wrote
abbrev pub but_host_bytes : Reading → Reading
but_host_bytes r = record { says = r.says; bytes = cond (is_host_write (step_in r)) (blank r.bytes) r.bytes }

-- the request of a step and its data, and those of a journal's readable frames
abbrev pub request_of : Step → (bytes : List ℕ) → Request
request_of (Begin c) bytes = begins c
request_of (Fetch c a n) bytes = fetches c a n
request_of (End c) bytes = ends c
request_of (HostWrite a n) bytes = host_writes a bytes
request_of (OwnWrite c a n) bytes = own_writes c a bytes

unfoldable pub requests_of : List Reading → List Request
requests_of [] = []
requests_of (r ∷ rs) = elim (accepted r.says) [ true ↦ request_of (step_in r) r.bytes ∷ requests_of rs | false ↦ [] ]

abbrev pub requests : (input : List ℕ) → List Request
requests input = requests_of (readings input)
