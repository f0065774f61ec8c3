-- A journal of frames is a list of calls, so that the claims over lists of calls hold of its log; and how long a line of the log can be.
use Rattle.std.specs.Prelude.{ℕ, zero, suc, ◌+◌, ◌^◌, ◌≤◌, ◌<◌, ◌≡◌, List, [], ◌∷◌, map, Bool, true, false, cond, ◌&&◌, ◌↔◌, length, drop}
use Rattle.cache.specs.Runs.{Call, says, delivers, along, ran}
use Rattle.history.specs.Journal.{journal, told}
use Rattle.history.specs.Firsts.{First, firsts, owed}
use Rattle.loglines.specs.Line.{line_of}
use Rattle.device.specs.Step.{Device}
use Rattle.device.specs.Frame.{is_readable, taken_up, letter_of, frame_call, frame_says, frame_leaves, frame_delivers}
use Rattle.journal.specs.Run.{Entry, entries, journal_leaves, fresh_device, log_from}
use Rattle.journal.specs.Writes.{made, left}
use Rattle.journal.specs.Readings.{readings, but_host_bytes, requests}

-- the calls of a journal's readable frames, in their order; each is given the window that the one before it left
unfoldable pub calls_in : (steps : ℕ) → Device → (input : List ℕ) → List Call
calls_in zero d input = []
calls_in (suc steps) d [] = []
calls_in (suc steps) d (x ∷ xs) =
    elim (is_readable (x ∷ xs)) [ true ↦ frame_call d (x ∷ xs) ∷ calls_in steps (frame_leaves d (x ∷ xs)) (drop (taken_up (x ∷ xs)) (x ∷ xs)) | false ↦ [] ]

abbrev pub calls : Device → (input : List ℕ) → List Call
calls d input = calls_in (length input) d input

-- the entries of readable frames
unfoldable pub of_calls : List Entry → List Entry
of_calls [] = []
of_calls (e ∷ es) = cond e.readable (e ∷ of_calls es) (of_calls es)

-- what the log tells of each is what the call answers and delivers, and what the journal leaves is what the calls leave
pub record IsRun (d : Device) (input : List ℕ) : Type 0 where
  pub answers : map (λ e. e.reply) (of_calls (entries d input)) ≡ along says d.machine (calls d input)
  pub delivered : map (λ e. e.delivered) (of_calls (entries d input)) ≡ along delivers d.machine (calls d input)
  pub leaves : (journal_leaves d input).machine ≡ ran d.machine (calls d input)

abbrev pub JournalIsRun : Type 0
JournalIsRun = (d : Device) (input : List ℕ) → IsRun d input

-- So the bytes in the log of a journal from the fresh state are those that each command last wrote since its begin, and elsewhere those that its
-- first fetches saw.
abbrev pub LogDelivers : Type 0
LogDelivers =
    (store window dest input : List ℕ) →
    let d = fresh_device store window dest in
    map (λ e. e.delivered) (of_calls (entries d input)) ≡ told owed [] (journal store (calls d input))

-- is every entry but the last of a frame that was read?
unfoldable pub read_but_last : List Entry → Bool
read_but_last [] = true
read_but_last (e ∷ []) = true
read_but_last (e ∷ f ∷ es) = e.readable && read_but_last (f ∷ es)

-- 01's rule that an unreadable frame ends the run: no line of the log follows its line.
abbrev pub UnreadableEnds : Type 0
UnreadableEnds = (d : Device) (input : List ℕ) → read_but_last (entries d input) ≡ true

-- The calls of a journal are those that its requests make on the device, and it leaves what they leave: what is claimed of requests holds of
-- journals.
pub record IsMade (d : Device) (input : List ℕ) : Type 0 where
  pub makes : calls d input ≡ made d (requests input)
  pub leaves : journal_leaves d input ≡ left d (requests input)

abbrev pub JournalIsMade : Type 0
JournalIsMade = (d : Device) (input : List ℕ) → IsMade d input

-- what the log of a journal from the fresh state tells, and the first fetches in the journal
module _ (store window dest input : List ℕ) where
  abbrev pub logged : List Entry
  logged = entries (fresh_device store window dest) input

  abbrev pub firsts_in : List (List First)
  firsts_in = told firsts [] (journal store (calls (fresh_device store window dest) input))

module _ (store window dest one other : List ℕ) where
  -- Two journals from the same fresh device that are read alike but for the bytes of host writes: line by line their logs have the same
  -- letters and the same answers, counts and refusals included. They tell the same bytes, too, exactly if the first fetches agree; and then
  -- they are one log.
  pub record EqualLogs : Type 0 where
    pub letters : map (λ e. e.letter) (logged store window dest one) ≡ map (λ e. e.letter) (logged store window dest other)
    pub answers : map (λ e. e.reply) (logged store window dest one) ≡ map (λ e. e.reply) (logged store window dest other)
    pub exactly :
        (logged store window dest one ≡ logged store window dest other) ↔ (firsts_in store window dest one ≡ firsts_in store window dest other)
    pub log :
        firsts_in store window dest one ≡ firsts_in store window dest other
        → log_from 1 (logged store window dest one) ≡ log_from 1 (logged store window dest other)

abbrev pub LogEqualRuns : Type 0
LogEqualRuns =
    (store window dest one other : List ℕ) → map but_host_bytes (readings one) ≡ map but_host_bytes (readings other)
    → EqualLogs store window dest one other

-- the longest line of the log: its number of 20 digits, the letter, `ok`, two counts of 4 digits, 4,096 bytes in hexadecimal, and the
-- newline; every field but the first has a blank before it
abbrev pub longest_line : ℕ
longest_line = 20 + 2 + 3 + 5 + 5 + 8193 + 1

-- No line is longer than these 8,229 bytes, for any bytes as a frame and any state, if its number has no more than 20 digits.
abbrev pub LineFits : Type 0
LineFits =
    (d : Device) (frame : List ℕ) (number : ℕ) → number < 10 ^ 20
    → length (line_of number (letter_of frame) (frame_says d frame) (frame_delivers d frame)) ≤ longest_line
