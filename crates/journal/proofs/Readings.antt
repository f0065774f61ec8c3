-- What a journal does depends on what is read of it: its entries and its calls are told from its readings.
use Prim.Native.Nat.{ℕ, zero, suc}
use native.Mathlib.Omega.{arith}
use Prim.Native.Char.{code}
use mathlib.Core.Path.{◌≡◌, refl, ap, ap₂, sym, ◌∙◌}
use mathlib.Core.List.{List, [], ◌∷◌}
use mathlib.Core.Bool.{Bool, true, false, cond}
use lib.ListN.{length, drop, get_or}
use Rattle.state.specs.Verdict.{accepted, numbers_of}
use Rattle.frames.specs.declared.Step.{Step}
use Rattle.frames.specs.declared.Step.TheVariants.{Begin, Fetch, End, HostWrite, OwnWrite}
use Rattle.kinds.specs.Table.{kind_of}
use Rattle.cache.specs.Runs.{Call, says, delivers}
use Rattle.device.specs.Step.{Device, call_of, device_after}
use Rattle.device.specs.Frame.{is_readable, taken_up, frame_call, frame_says, frame_leaves, frame_delivers}
use Rattle.journal.specs.Run.{Entry, entry_of, entries_in, left_in}
use Rattle.journal.specs.Writes.{Request, call_on, made, left}
use Rattle.journal.specs.Readings.{Reading, reading_of, readings_in, step_in, request_of, requests_of}
use Rattle.journal.specs.Claims.{calls_in, JournalIsMade}
use Rattle.journal.proofs.Running.{entries_read, entries_unread, left_read, left_unread}
use Rattle.journal.proofs.Claims.{calls_read, calls_unread}

-- the call of a reading on a device, and the device after it
abbrev pub call_in : Device → Reading → Call
call_in d r = call_of (step_in r) r.bytes d.dest d.window

abbrev pub then_in : Device → Reading → Device
then_in d r = device_after d (call_in d r)

-- the calls of the readable ones, in turn
unfoldable pub calls_of : Device → List Reading → List Call
calls_of d [] = []
calls_of d (r ∷ rs) = elim (accepted r.says) [ true ↦ call_in d r ∷ calls_of (then_in d r) rs | false ↦ [] ]

-- a first reading that is readable is a first call, and an unreadable one ends them
pub calls_of_read :
    (d : Device) (r : Reading) (rs : List Reading) → accepted r.says ≡ true → calls_of d (r ∷ rs) ≡ call_in d r ∷ calls_of (then_in d r) rs
unfolding calls_of
calls_of_read d r rs e = rw (calls_of, e)

pub calls_of_unread : (d : Device) (r : Reading) (rs : List Reading) → accepted r.says ≡ false → calls_of d (r ∷ rs) ≡ []
unfolding calls_of
calls_of_unread d r rs e = rw (calls_of, e)

module _ (k : ℕ) (x : ℕ) (xs : List ℕ) where
  abbrev frame : List ℕ
  frame = x ∷ xs

  abbrev rest : List ℕ
  rest = drop (taken_up frame) frame

  readings_read : is_readable frame ≡ true → readings_in (suc k) frame ≡ reading_of frame ∷ readings_in k rest
  unfolding readings_in
  readings_read e = rw (readings_in, e)

  readings_unread : is_readable frame ≡ false → readings_in (suc k) frame ≡ reading_of frame ∷ []
  unfolding readings_in
  readings_unread e = rw (readings_in, e)

leaves_read : (d : Device) (frame : List ℕ) → is_readable frame ≡ true → frame_leaves d frame ≡ then_in d (reading_of frame)
unfolding frame_leaves
leaves_read d frame e = rw e

pub calls_by_readings : (k : ℕ) (d : Device) (input : List ℕ) → calls_in k d input ≡ calls_of d (readings_in k input)
unfolding calls_in calls_of readings_in
calls_by_readings zero d input = refl
calls_by_readings (suc k) d [] = refl
calls_by_readings (suc k) d (x ∷ xs) = go (is_readable (x ∷ xs)) refl (calls_by_readings k (frame_leaves d (x ∷ xs)) (drop (taken_up (x ∷ xs)) (x ∷ xs)))
  where
    then : Device
    then = frame_leaves d (x ∷ xs)

    go : (b : Bool) → is_readable (x ∷ xs) ≡ b → calls_in k then (rest k x xs) ≡ calls_of then (readings_in k (rest k x xs))
        → calls_in (suc k) d (x ∷ xs) ≡ calls_of d (readings_in (suc k) (x ∷ xs))
    go true e others =
        calls_read k d x xs e
        ∙ ap (λ (cs : List Call). frame_call d (x ∷ xs) ∷ cs)
        (others ∙ ap (λ (l : Device). calls_of l (readings_in k (rest k x xs))) (leaves_read d (x ∷ xs) e))
        ∙ sym (calls_of_read d (reading_of (x ∷ xs)) (readings_in k (rest k x xs)) e) ∙ sym (ap (calls_of d) (readings_read k x xs e))
    go false e others =
        calls_unread k d x xs e ∙ sym (calls_of_unread d (reading_of (x ∷ xs)) [] e) ∙ sym (ap (calls_of d) (readings_unread k x xs e))

-- The requests

made_on : (d : Device) (s : Step) (bytes : List ℕ) → call_of s bytes d.dest d.window ≡ call_on d (request_of s bytes)
made_on d (Begin c) bytes = refl
made_on d (Fetch c a n) bytes = refl
made_on d (End c) bytes = refl
made_on d (HostWrite a n) bytes = refl
made_on d (OwnWrite c a n) bytes = refl

requests_of_read : (r : Reading) (rs : List Reading) → accepted r.says ≡ true → requests_of (r ∷ rs) ≡ request_of (step_in r) r.bytes ∷ requests_of rs
unfolding requests_of
requests_of_read r rs e = rw (requests_of, e)

requests_of_unread : (r : Reading) (rs : List Reading) → accepted r.says ≡ false → requests_of (r ∷ rs) ≡ []
unfolding requests_of
requests_of_unread r rs e = rw (requests_of, e)

calls_made : (d : Device) (rs : List Reading) → calls_of d rs ≡ made d (requests_of rs)
unfolding calls_of made requests_of
calls_made d [] = refl
calls_made d (r ∷ rs) = go (accepted r.says) refl (calls_made (then_in d r) rs)
  where
    go : (b : Bool) → accepted r.says ≡ b → calls_of (then_in d r) rs ≡ made (then_in d r) (requests_of rs)
        → calls_of d (r ∷ rs) ≡ made d (requests_of (r ∷ rs))
    go true e rest =
        let is = made_on d (step_in r) r.bytes in
        rw (calls_of, requests_of, e) (ap₂ ◌∷◌ is (rest ∙ ap (λ (p : Call). made (device_after d p) (requests_of rs)) is))
    go false e rest = rw (calls_of, requests_of, e)

left_by_readings : (k : ℕ) (d : Device) (input : List ℕ) → left_in k d input ≡ left d (requests_of (readings_in k input))
unfolding left_in readings_in requests_of left
left_by_readings zero d input = refl
left_by_readings (suc k) d [] = refl
left_by_readings (suc k) d (x ∷ xs) = go (is_readable (x ∷ xs)) refl (left_by_readings k (frame_leaves d (x ∷ xs)) (drop (taken_up (x ∷ xs)) (x ∷ xs)))
  where
    then : Device
    then = frame_leaves d (x ∷ xs)

    others : List Request
    others = requests_of (readings_in k (rest k x xs))

    go : (b : Bool) → is_readable (x ∷ xs) ≡ b → left_in k then (rest k x xs) ≡ left then others
        → left_in (suc k) d (x ∷ xs) ≡ left d (requests_of (readings_in (suc k) (x ∷ xs)))
    go true e h =
        let r = reading_of (x ∷ xs) in
        left_read k d (x ∷ xs) (omega arith) e ∙ h ∙ ap (λ (l : Device). left l others) (leaves_read d (x ∷ xs) e)
        ∙ ap (λ (p : Call). left (device_after d p) others) (made_on d (step_in r) r.bytes)
        ∙ ap (left d) (sym (requests_of_read r (readings_in k (rest k x xs)) e) ∙ sym (ap requests_of (readings_read k x xs e)))
    go false e h =
        left_unread k d (x ∷ xs) (omega arith) e
        ∙ ap (left d) (sym (requests_of_unread (reading_of (x ∷ xs)) [] e) ∙ sym (ap requests_of (readings_unread k x xs e)))

pub journal_is_made : JournalIsMade
journal_is_made d input = record {
  makes = calls_by_readings (length input) d input ∙ calls_made d (readings_in (length input) input);
  leaves = left_by_readings (length input) d input;
}

-- The entries

abbrev pub entry_in : Device → Reading → Entry
entry_in d r =
    record {
      readable = accepted r.says;
      letter = cond (accepted r.says) (kind_of (get_or (numbers_of r.says) 1 0)).letter (code "?");
      reply = cond (accepted r.says) (says d.machine (call_in d r)) r.says;
      delivered = cond (accepted r.says) (delivers d.machine (call_in d r)) [];
    }

unfoldable pub entries_of : Device → List Reading → List Entry
entries_of d [] = []
entries_of d (r ∷ rs) = entry_in d r ∷ elim (accepted r.says) [ true ↦ entries_of (then_in d r) rs | false ↦ [] ]

pub entries_of_read :
    (d : Device) (r : Reading) (rs : List Reading) → accepted r.says ≡ true → entries_of d (r ∷ rs) ≡ entry_in d r ∷ entries_of (then_in d r) rs
unfolding entries_of
entries_of_read d r rs e = rw (entries_of, e)

pub entries_of_unread : (d : Device) (r : Reading) (rs : List Reading) → accepted r.says ≡ false → entries_of d (r ∷ rs) ≡ entry_in d r ∷ []
unfolding entries_of
entries_of_unread d r rs e = rw (entries_of, e)

entry_in_lem : (d : Device) (frame : List ℕ) → entry_of d frame ≡ entry_in d (reading_of frame)
unfolding frame_says frame_delivers
entry_in_lem d _ = refl

pub entries_by_readings : (k : ℕ) (d : Device) (input : List ℕ) → entries_in k d input ≡ entries_of d (readings_in k input)
unfolding entries_in entries_of readings_in
entries_by_readings zero d input = refl
entries_by_readings (suc k) d [] = refl
entries_by_readings (suc k) d (x ∷ xs) = go (is_readable (x ∷ xs)) refl (entries_by_readings k (frame_leaves d (x ∷ xs)) (drop (taken_up (x ∷ xs)) (x ∷ xs)))
  where
    then : Device
    then = frame_leaves d (x ∷ xs)

    go : (b : Bool) → is_readable (x ∷ xs) ≡ b → entries_in k then (rest k x xs) ≡ entries_of then (readings_in k (rest k x xs))
        → entries_in (suc k) d (x ∷ xs) ≡ entries_of d (readings_in (suc k) (x ∷ xs))
    go true e others =
        entries_read k d (x ∷ xs) (omega arith) e
        ∙ ap₂ ◌∷◌ (entry_in_lem d (x ∷ xs)) (others ∙ ap (λ (l : Device). entries_of l (readings_in k (rest k x xs))) (leaves_read d (x ∷ xs) e))
        ∙ sym (entries_of_read d (reading_of (x ∷ xs)) (readings_in k (rest k x xs)) e) ∙ sym (ap (entries_of d) (readings_read k x xs e))
    go false e others =
        entries_unread k d (x ∷ xs) (omega arith) e ∙ ap (λ (t : Entry). t ∷ []) (entry_in_lem d (x ∷ xs))
        ∙ sym (entries_of_unread d (reading_of (x ∷ xs)) [] e) ∙ sym (ap (entries_of d) (readings_unread k x xs e))
