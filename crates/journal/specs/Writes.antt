-- What a command is given of an address that was written before: Midas' second property, that a fetch which is a command's first of an
-- address, which it has not written either, gets the latest bytes there (docs/RULES.md says what Midas is). It is told from the calls made on
-- one device, whose window each call leaves to the next.
use Rattle.std.specs.Prelude.{ℕ, ◌-◌, ◌≡◌, List, [], ◌∷◌, ◌++◌, Bool, true, false, not, cond, ◌&&◌, length, get_or}
use Rattle.octets.specs.Lists.{all}
use Rattle.state.specs.Records.{in_span}
use Rattle.state.specs.Verdict.{accepted}
use Rattle.cache.specs.Runs.{Call, begin, fetch, end, host_write, own_write, show, says, delivers, along}
use Rattle.history.specs.Journal.{Event, event, backwards, deed}
use Rattle.history.specs.Firsts.{held_since}
use Rattle.history.specs.Claims.{renews}
use Rattle.device.specs.Step.{Device, device_after}
use Rattle.journal.specs.Run.{fresh_device}

-- A call without what the device lends to it
pub data Request : Type 0 where
  begins : (c : ℕ) → Request
  fetches : (c a n : ℕ) → Request
  ends : (c : ℕ) → Request
  host_writes : (a : ℕ) (bytes : List ℕ) → Request
  own_writes : (c a : ℕ) (bytes : List ℕ) → Request
  shows : (c i : ℕ) → Request

-- and with it: the destination and the window as they are
abbrev pub call_on : Device → Request → Call
call_on d (begins c) = begin c
call_on d (fetches c a n) = fetch c a n d.dest d.window
call_on d (ends c) = end c
call_on d (host_writes a bytes) = host_write a bytes d.window
call_on d (own_writes c a bytes) = own_write c a bytes d.window
call_on d (shows c i) = show c i

abbrev pub next : Device → Request → Device
next d q = device_after d (call_on d q)

-- the calls that a list of requests makes, and the device after them
unfoldable pub made : Device → List Request → List Call
made d [] = []
made d (q ∷ qs) = call_on d q ∷ made (next d q) qs

unfoldable pub left : Device → List Request → Device
left d [] = d
left d (q ∷ qs) = left (next d q) qs

-- what happened, the latest first, if it is told on from the events before
abbrev pub past_from : List Event → Device → List Request → List Event
past_from past d qs = backwards past (along event d.machine (made d qs))

-- does a call write at an address, if it is accepted? The host's write does, and a command's.
abbrev pub reaches : Call → ℕ → Bool
reaches (begin c) x = false
reaches (fetch c a n dest window) x = false
reaches (end c) x = false
reaches (host_write a bytes window) x = in_span a (length bytes) x
reaches (own_write c a bytes window) x = in_span a (length bytes) x
reaches (show c i) x = false

abbrev pub writes : ℕ → Event → Bool
writes x e = reaches e.call x && accepted e.answer

-- the byte that a write has for an address
abbrev pub byte_for : Call → ℕ → ℕ
byte_for (begin c) x = 0
byte_for (fetch c a n dest window) x = 0
byte_for (end c) x = 0
byte_for (host_write a bytes window) x = get_or bytes (x - a) 0
byte_for (own_write c a bytes window) x = get_or bytes (x - a) 0
byte_for (show c i) x = 0

-- the byte of the latest accepted write at an address, and the one of the window at the start where there is none
unfoldable pub latest : (window : List ℕ) → List Event → ℕ → ℕ
latest window [] x = get_or window x 0
latest window (e ∷ past) x = cond (writes x e) (byte_for e.call x) (latest window past x)

-- is a request accepted?
abbrev pub is_accepted : Device → Request → Bool
is_accepted d q = accepted (says d.machine (call_on d q))

-- is a fetch accepted that has an address in its span, and which byte does it deliver there?
module _ (d : Device) (c a n x : ℕ) where
  abbrev pub is_fetched : Bool
  is_fetched = is_accepted d (fetches c a n) && in_span a n x

  abbrev pub byte_at : ℕ
  byte_at = get_or (delivers d.machine (call_on d (fetches c a n))) (x - a) 0

-- Whatever was called on a device from the fresh state on: an accepted fetch that is the command's first of an address since its begin, which it
-- has not written either, gets the byte of the latest accepted write there, whoever made it.
abbrev pub FirstGetsLatest : Type 0
FirstGetsLatest =
    (store window dest : List ℕ) (qs : List Request) (c a n x : ℕ) →
    let start = fresh_device store window dest in
    is_fetched (left start qs) c a n x ≡ true → held_since (past_from [] start qs) c x ≡ false
    → byte_at (left start qs) c a n x ≡ latest window (past_from [] start qs) x

-- A write, some calls after it, and a fetch
module _ (store window dest : List ℕ) (before : List Request) (write : Request) (between : List Request) where
  abbrev pub before_write : Device
  before_write = left (fresh_device store window dest) before

  abbrev pub past_of_write : List Event
  past_of_write = past_from [] (fresh_device store window dest) before

  abbrev pub the_write : Event
  the_write = event before_write.machine (call_on before_write write)

  abbrev pub after_write : Device
  after_write = next before_write write

  abbrev pub events_between : List Event
  events_between = along event after_write.machine (made after_write between)

  abbrev pub before_fetch : Device
  before_fetch = left after_write between

  -- The write is accepted and has the address in its span, and no accepted write of the host or of a command at the address comes between.
  -- Nothing else changes the window of a device.
  abbrev pub is_undisturbed : ℕ → Bool
  is_undisturbed x = writes x the_write && all (λ e. not (writes x e)) events_between

  -- Midas' second property: a fetch gets the written byte if it is the command's first of the address since its begin, which it has not
  -- written either; and it is, where the command began after the write (nobody writes there in between, so what renews the address is its
  -- begin), whichever command wrote, and has not fetched the address since. (The command that wrote gets its own byte by the rule on written
  -- values, whatever others write after it.)
  pub record Seen : Type 0 where
    pub first : (c a n x : ℕ) → is_undisturbed x ≡ true → is_fetched before_fetch c a n x ≡ true
        → held_since (backwards (the_write ∷ past_of_write) events_between) c x ≡ false → byte_at before_fetch c a n x ≡ byte_for the_write.call x
    pub later : (c a n x : ℕ) → is_undisturbed x ≡ true → is_fetched before_fetch c a n x ≡ true
        → all (λ e. not (renews c x (deed e))) events_between ≡ false → held_since (backwards [] events_between) c x ≡ false
        → byte_at before_fetch c a n x ≡ byte_for the_write.call x

-- The first fetch of an address after a write there gets the written byte, and a later command sees what an earlier one wrote.
abbrev pub WrittenSeen : Type 0
WrittenSeen =
    (store window dest : List ℕ) (before : List Request) (write : Request) (between : List Request) → Seen store window dest before write between

-- Situation K of 01, whatever was called before it, for every command, address and bytes: fetch, host write over the span, end, begin, and the
-- same fetch delivers what the host wrote.
abbrev pub SituationK : Type 0
SituationK =
    (store window dest : List ℕ) (before : List Request) (c a : ℕ) (bytes : List ℕ) →
    let same = fetches c a (length bytes) in
    let fetched = left (fresh_device store window dest) (before ++ same ∷ []) in
    let ended = next (next fetched (host_writes a bytes)) (ends c) in
    let begun = next ended (begins c) in
    is_accepted fetched (host_writes a bytes) ≡ true → is_accepted ended (begins c) ≡ true → is_accepted begun same ≡ true
    → delivers begun.machine (call_on begun same) ≡ bytes
