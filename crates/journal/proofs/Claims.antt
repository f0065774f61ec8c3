-- A journal of frames is a list of calls.
use Prim.Native.Nat.{ℕ, zero, suc}
use native.Mathlib.Omega.{arith}
use mathlib.Core.Path.{◌≡◌, refl, ap, ap₂, sym, ◌∙◌}
use mathlib.Core.List.{List, [], ◌∷◌, map}
use mathlib.Core.Bool.{Bool, true, false}
use lib.ListN.{length, drop}
use Rattle.octets.proofs.Lists.{both}
use Rattle.cache.specs.Runs.{Call, Machine, says, after, delivers, along, ran}
use Rattle.history.proofs.Delivery.{delivery_rule}
use Rattle.device.specs.Step.{Device}
use Rattle.device.specs.Frame.{is_readable, taken_up, frame_call, frame_says, frame_leaves, frame_delivers}
use Rattle.journal.specs.Run.{Entry, entry_of, entries_in, left_in, fresh_device}
use Rattle.journal.proofs.Running.{entries_read, entries_unread, left_read, left_unread}
use Rattle.journal.specs.Claims.{calls_in, of_calls, JournalIsRun, LogDelivers, read_but_last, UnreadableEnds}

-- with the steps that bound it
record Steps (k : ℕ) (d : Device) (input : List ℕ) : Type 0 where
  answers : map (λ e. e.reply) (of_calls (entries_in k d input)) ≡ along says d.machine (calls_in k d input)
  delivered : map (λ e. e.delivered) (of_calls (entries_in k d input)) ≡ along delivers d.machine (calls_in k d input)
  leaves : (left_in k d input).machine ≡ ran d.machine (calls_in k d input)

module _ (d : Device) (frame : List ℕ) (e : is_readable frame ≡ true) where
  says_is : frame_says d frame ≡ says d.machine (frame_call d frame)
  unfolding frame_says
  says_is = rw e

  delivers_is : frame_delivers d frame ≡ delivers d.machine (frame_call d frame)
  unfolding frame_delivers
  delivers_is = rw e

  machine_is : (frame_leaves d frame).machine ≡ after d.machine (frame_call d frame)
  unfolding frame_leaves
  machine_is = rw e

-- a first readable frame is a first call, and an unreadable one is none
pub calls_read : (k : ℕ) (d : Device) (x : ℕ) (xs : List ℕ) → is_readable (x ∷ xs) ≡ true
    → calls_in (suc k) d (x ∷ xs) ≡ frame_call d (x ∷ xs) ∷ calls_in k (frame_leaves d (x ∷ xs)) (drop (taken_up (x ∷ xs)) (x ∷ xs))
unfolding calls_in
calls_read k d x xs e = rw (calls_in, e)

pub calls_unread : (k : ℕ) (d : Device) (x : ℕ) (xs : List ℕ) → is_readable (x ∷ xs) ≡ false → calls_in (suc k) d (x ∷ xs) ≡ []
unfolding calls_in
calls_unread k d x xs e = rw (calls_in, e)

of_read : (e : Entry) (es : List Entry) → e.readable ≡ true → of_calls (e ∷ es) ≡ e ∷ of_calls es
unfolding of_calls
of_read e es h = rw h

of_unread : (e : Entry) → e.readable ≡ false → of_calls (e ∷ []) ≡ []
unfolding of_calls
of_unread e h = rw h

-- what each entry tells, of a list that begins with such a frame
module _ {A : Type 0} (tells : Entry → A) (f : Machine → Call → A) (k : ℕ) (d : Device) (x : ℕ) (xs : List ℕ) where
  abbrev frame : List ℕ
  frame = x ∷ xs

  abbrev rest : List ℕ
  rest = drop (taken_up frame) frame

  tells_read :
      is_readable frame ≡ true → tells (entry_of d frame) ≡ f d.machine (frame_call d frame)
      → map tells (of_calls (entries_in k (frame_leaves d frame) rest)) ≡ along f (frame_leaves d frame).machine (calls_in k (frame_leaves d frame) rest)
      → map tells (of_calls (entries_in (suc k) d frame)) ≡ along f d.machine (calls_in (suc k) d frame)
  unfolding along
  tells_read e first others =
      ap (λ (es : List Entry). map tells (of_calls es)) (entries_read k d frame (omega arith) e)
      ∙ ap (map tells) (of_read (entry_of d frame) (entries_in k (frame_leaves d frame) rest) e)
      ∙ ap₂ ◌∷◌ first (others ∙ ap (λ (m : Machine). along f m (calls_in k (frame_leaves d frame) rest)) (machine_is d frame e))
      ∙ sym (ap (along f d.machine) (calls_read k d x xs e))

  tells_unread : is_readable frame ≡ false → map tells (of_calls (entries_in (suc k) d frame)) ≡ along f d.machine (calls_in (suc k) d frame)
  unfolding along
  tells_unread e =
      ap (λ (es : List Entry). map tells (of_calls es)) (entries_unread k d frame (omega arith) e) ∙ ap (map tells) (of_unread (entry_of d frame) e)
      ∙ sym (ap (along f d.machine) (calls_unread k d x xs e))

run : (k : ℕ) (d : Device) (input : List ℕ) → Steps k d input
unfolding entries_in left_in calls_in of_calls along ran
run zero d input = record { answers = refl; delivered = refl; leaves = refl }
run (suc k) d [] = record { answers = refl; delivered = refl; leaves = refl }
run (suc k) d (x ∷ xs) = go (is_readable (x ∷ xs)) refl (run k (frame_leaves d (x ∷ xs)) (drop (taken_up (x ∷ xs)) (x ∷ xs)))
  where
    go : (b : Bool) → is_readable (x ∷ xs) ≡ b → Steps k (frame_leaves d (x ∷ xs)) (drop (taken_up (x ∷ xs)) (x ∷ xs)) → Steps (suc k) d (x ∷ xs)
    go true e S = record {
      answers = tells_read (λ t. t.reply) says k d x xs e (says_is d (x ∷ xs) e) S.answers;
      delivered = tells_read (λ t. t.delivered) delivers k d x xs e (delivers_is d (x ∷ xs) e) S.delivered;
      leaves =
          ap (λ (l : Device). l.machine) (left_read k d (x ∷ xs) (omega arith) e) ∙ S.leaves
          ∙ ap (λ (m : Machine). ran m (calls_in k (frame_leaves d (x ∷ xs)) (drop (taken_up (x ∷ xs)) (x ∷ xs)))) (machine_is d (x ∷ xs) e)
          ∙ sym (ap (ran d.machine) (calls_read k d x xs e));
    }
    go false e S = record {
      answers = tells_unread (λ t. t.reply) says k d x xs e;
      delivered = tells_unread (λ t. t.delivered) delivers k d x xs e;
      leaves = ap (λ (l : Device). l.machine) (left_unread k d (x ∷ xs) (omega arith) e) ∙ sym (ap (ran d.machine) (calls_unread k d x xs e));
    }

pub journal_is_run : JournalIsRun
journal_is_run d input = let S = run (length input) d input in record { answers = S.answers; delivered = S.delivered; leaves = S.leaves }

-- An unreadable frame is the last

read_on_lem : (e : Entry) (es : List Entry) → e.readable ≡ true → read_but_last es ≡ true → read_but_last (e ∷ es) ≡ true
unfolding read_but_last
read_on_lem e [] h others = refl
read_on_lem e (f ∷ es) h others = both h others

ends : (k : ℕ) (d : Device) (input : List ℕ) → read_but_last (entries_in k d input) ≡ true
unfolding entries_in read_but_last
ends zero d input = refl
ends (suc k) d [] = refl
ends (suc k) d (x ∷ xs) = go (is_readable (x ∷ xs)) refl (ends k (frame_leaves d (x ∷ xs)) (drop (taken_up (x ∷ xs)) (x ∷ xs)))
  where
    others : List Entry
    others = entries_in k (frame_leaves d (x ∷ xs)) (drop (taken_up (x ∷ xs)) (x ∷ xs))

    go : (b : Bool) → is_readable (x ∷ xs) ≡ b → read_but_last others ≡ true → read_but_last (entries_in (suc k) d (x ∷ xs)) ≡ true
    go true e h = ap read_but_last (entries_read k d (x ∷ xs) (omega arith) e) ∙ read_on_lem (entry_of d (x ∷ xs)) others e h
    go false e h = ap read_but_last (entries_unread k d (x ∷ xs) (omega arith) e)

pub unreadable_ends : UnreadableEnds
unreadable_ends d input = ends (length input) d input

pub log_delivers : LogDelivers
log_delivers store window dest input =
    let d = fresh_device store window dest in
    (run (length input) d input).delivered ∙ delivery_rule store (calls_in (length input) d input)
