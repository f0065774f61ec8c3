-- A whole journal, for any bytes (01, the agreed scope, "The log program"; docs/RULES.md has its rules): frame after frame is carried out
-- on what the one before it left, and an unreadable frame ends the run.
use Rattle.std.specs.Prelude.{ℕ, zero, suc, ◌≡◌, List, [], ◌∷◌, ◌++◌, Bool, true, false, not, ◌&&◌, ◌||◌, length, drop}
use Rattle.state.specs.Verdict.{Reply, accepted}
use Rattle.cache.specs.Runs.{start}
use Rattle.octets.specs.Lists.{count}
use Rattle.octets.specs.Text.{Puts}
use Rattle.loglines.specs.Line.{line_of}
use Rattle.journal.specs.declared.Replayed.{Replayed}
use Rattle.device.specs.Step.{Device, device_of}
use Rattle.device.specs.Frame.{is_readable, taken_up, letter_of, frame_says, frame_leaves, frame_delivers}

-- what the log tells of a frame
pub record Entry : Type 0 where
  pub readable : Bool
  pub letter : ℕ
  pub reply : Reply
  pub delivered : List ℕ

abbrev pub entry_of : Device → (frame : List ℕ) → Entry
entry_of d frame = record { readable = is_readable frame; letter = letter_of frame; reply = frame_says d frame; delivered = frame_delivers d frame }

-- The entries of a journal, and what it leaves. The steps only bound the recursion: every frame takes up a byte at least, so as many
-- steps as there are bytes are enough.
unfoldable pub entries_in : (steps : ℕ) → Device → (input : List ℕ) → List Entry
entries_in zero d input = []
entries_in (suc steps) d [] = []
entries_in (suc steps) d (x ∷ xs) =
    let frame = x ∷ xs in
    entry_of d frame ∷ elim (is_readable frame) [ true ↦ entries_in steps (frame_leaves d frame) (drop (taken_up frame) frame) | false ↦ [] ]

unfoldable pub left_in : (steps : ℕ) → Device → (input : List ℕ) → Device
left_in zero d input = d
left_in (suc steps) d [] = d
left_in (suc steps) d (x ∷ xs) =
    let frame = x ∷ xs in
    elim (is_readable frame) [ true ↦ left_in steps (frame_leaves d frame) (drop (taken_up frame) frame) | false ↦ d ]

abbrev pub entries : Device → (input : List ℕ) → List Entry
entries d input = entries_in (length input) d input

abbrev pub journal_leaves : Device → (input : List ℕ) → Device
journal_leaves d input = left_in (length input) d input

-- what the log program runs its journal from: the fresh state and what is lent
abbrev pub fresh_device : (store window dest : List ℕ) → Device
fresh_device store window dest = record { machine = start store; window = window; dest = dest }

-- 01's log: a line for each entry, numbered from n on
unfoldable pub log_from : ℕ → List Entry → List ℕ
log_from n [] = []
log_from n (e ∷ es) = line_of n e.letter e.reply e.delivered ++ log_from (suc n) es

-- how many frames were carried out, how many a call refused, and whether an unreadable one ended the run
abbrev pub was_carried : Entry → Bool
was_carried e = e.readable && accepted e.reply

abbrev pub was_refused : Entry → Bool
was_refused e = e.readable && not (accepted e.reply)

unfoldable pub ends_early : List Entry → Bool
ends_early [] = false
ends_early (e ∷ es) = not e.readable || ends_early es

-- a journal run by the code: the log is put into the output as far as it fits
pub record Replays (d : Device) (input : List ℕ) (out : List ℕ) (r : Replayed) (words' store' window' dest' out' : List ℕ) : Type 0 where
  pub log : Puts out 0 (log_from 1 (entries d input)) r.written out'
  pub leaves : device_of words' store' window' dest' ≡ journal_leaves d input
  pub carried : r.carried ≡ count was_carried (entries d input)
  pub refused : r.refused ≡ count was_refused (entries d input)
  pub early : r.early ≡ ends_early (entries d input)
