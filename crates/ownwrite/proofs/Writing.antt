-- What an own write leaves, case by case: it is refused, it is of no bytes, or its bytes are held and written.
use Prim.Native.Nat.{ℕ, ◌+◌, ◌≤◌, ◌<◌}
use native.Mathlib.Omega.{arith}
use mathlib.Core.Path.{◌≡◌, refl, ap, sym, ◌∙◌}
use mathlib.Core.List.{List, [], ◌∷◌}
use mathlib.Core.Bool.{Bool, true, false, cond, false≢true}
use lib.Dec.{leb}
use lib.ListN.{length}
use Rattle.std.specs.Prelude.{Result, Ok, Err}
use borrow.Author.Tests.{leb-true}
use Rattle.octets.specs.Lists.{overwrite}
use Rattle.octets.proofs.Overwrite.{overwrite_none}
use Rattle.state.specs.declared.Record.{Record}
use Rattle.state.specs.declared.refusal.Refusal.{Refusal}
use Rattle.state.specs.declared.refusal.Refusal.TheVariants.{TooManyBytes, TooManyRecords}
use Rattle.state.specs.Limits.{record_limit, held_limit, state_words}
use Rattle.state.specs.Records.{span, total, count_fresh, fresh, joined}
use Rattle.state.specs.State.{State, records_of, open_with, with_command}
use Rattle.state.specs.Words.{state_of}
use Rattle.state.specs.Refusals.{number}
use Rattle.state.specs.Verdict.{Reply, refused, replied, accepted, verdict}
use Rattle.state.specs.declared.answer.OwnWriteCounts.{OwnWriteCounts}
use Rattle.state.specs.Answers.{own_write_reply}
use Rattle.state.proofs.Verdict.{verdict_bars}
use Rattle.store.specs.Store.{part_start, location, packed, from, sees, written}
use Rattle.state.proofs.Places.{none_held}
use Rattle.store.proofs.Spans.{written_none, written_new}
use Rattle.cache.specs.Fetch.{admit_checks}
use Rattle.cache.specs.OwnWrite.{own_says, own_state, own_store, own_window}
use Rattle.cache.proofs.Accepted.{own_judged}
use Rattle.admission.proofs.Admitted.{Admits, admits, bytes_barred, records_barred, none_barred}
use Rattle.admission.proofs.Nothing.{nothing_joined, nothing_held, nothing_new, nothing_added}
use Rattle.holding.specs.Holding.{MayHold, Held, Holds}
use Rattle.holding.proofs.Held.{span_placed, span_writes}
use Rattle.ownwrite.specs.OwnWrite.{OwnWrites}

-- what an accepted own write gives
abbrev pub done : (written new : ℕ) → Result OwnWriteCounts Refusal
done written new = Ok (record { written = written; fresh = new })

module _ (words store window : List ℕ) (c a : ℕ) (bytes : List ℕ) where
  abbrev s : State
  s = state_of words

  abbrev rs : List Record
  rs = records_of s c

  abbrev n : ℕ
  n = length bytes

  abbrev says : Reply
  says = own_says s (length store) (length window) c a n

  -- the value at each address that is held afterwards
  abbrev value : ℕ → ℕ
  value = written a bytes (sees rs (location s c) store (from a bytes))

  refusing : (why : Refusal) → says ≡ refused (number why) → OwnWrites words store window c a bytes (Err why) words store window
  unfolding accepted own_state own_store own_window
  refusing why is =
      let no : accepted says ≡ false = ap accepted is in
      record { answer = sym is; state = rw no; kept = λ _. refl; stored = rw no; host = rw no }

  pub barred :
      (why : Refusal) → verdict (admit_checks s (length store) (length window) n c a n) (replied []) ≡ refused (number why)
      → OwnWrites words store window c a bytes (Err why) words store window
  unfolding own_says
  barred why is =
      refusing why
      (own_judged s (length store) (length window) c a n _
      ∙ verdict_bars (admit_checks s (length store) (length window) n c a n) _ [] _ (number why) is)

  accepting :
      (r : Result OwnWriteCounts Refusal) (words' store' window' ns : List ℕ) → own_write_reply r ≡ replied ns → says ≡ replied ns
      → state_of words' ≡ with_command s c (open_with (joined rs a n)) → store' ≡ packed store c (joined rs a n) value
      → window' ≡ overwrite window a bytes → OwnWrites words store window c a bytes r words' store' window'
  unfolding accepted own_state own_store own_window
  accepting r words' store' window' ns told is state stored host =
      let yes : accepted says ≡ true = ap accepted is in
      record {
        answer = told ∙ sym is;
        state = state ∙ rw yes;
        kept = λ no. absurd (false≢true (sym no ∙ yes));
        stored = stored ∙ rw yes;
        host = host ∙ rw yes;
      }

  -- no check up to 21 applies
  module _ (e : accepted (verdict (admit_checks s (length store) (length window) n c a n) (replied [])) ≡ true) where
    A : Admits s (length store) (length window) n c a n
    A = admits s (length store) (length window) n c a n e

    taken : total rs + fresh rs a n ≤ held_limit → length (joined rs a n) ≤ record_limit → says ≡ replied (n ∷ fresh rs a n ∷ [])
    unfolding own_says
    taken fits few =
        own_judged s (length store) (length window) c a n _ ∙ none_barred s (length store) (length window) n c a n e _ fits few

    module _ (whole : length words ≡ state_words) (some : 0 < n) where
      -- what is asked to hold the span, with the bytes themselves for the source
      pub may_hold : MayHold words (length store) c a n a n
      may_hold = record {
        sized = whole;
        size = A.size;
        command = A.command;
        whole = A.whole;
        opened = A.opened;
        some = some;
        short = A.short;
        inside = omega (arith, A.inside, A.low);
        starts = omega arith;
        ends = omega arith;
      }

      module _ (words' store' : List ℕ) where
        pub full_refused :
            (why : Refusal) → Holds words store c a n a bytes (Err why) words' store' → OwnWrites words store window c a bytes (Err why) words' store' window
        unfolding own_says
        full_refused TooManyBytes full =
            rw (full.same_words, full.same_store)
            (refusing TooManyBytes
            (own_judged s (length store) (length window) c a n _ ∙ bytes_barred s (length store) (length window) n c a n e _ full.many))
        full_refused TooManyRecords full =
            rw (full.same_words, full.same_store)
            (refusing TooManyRecords
            (own_judged s (length store) (length window) c a n _
            ∙ records_barred s (length store) (length window) n c a n e _ full.bytes full.many))
        full_refused _ full = absurd full

        -- the span is held, its bytes are put over what was held before, and they are in the window
        module _ (new at look : ℕ) (H : Held words store c a n a bytes new at look words' store') where
          pub placed : at + n ≤ held_limit
          placed = span_placed words store c a n a bytes may_hold new at look words' store' H

          -- put over what was held, or there already, since all is new
          stands : (b : Bool) → leb n new ≡ b → cond b store' (overwrite store' (part_start c + at) bytes) ≡ packed store c (joined rs a n) value
          stands true e =
              let all : n ≤ fresh rs a n = omega (arith, leb-true n new e, H.counted) in
              H.stored ∙ ap (packed store c (joined rs a n)) (sym (written_new rs (location s c) store a bytes (none_held rs a n all)))
          stands false e = span_writes words store c a n a bytes may_hold new at look words' store' H bytes refl

          pub span_written :
              (store'' window' : List ℕ) → store'' ≡ cond (leb n new) store' (overwrite store' (part_start c + at) bytes) → window' ≡ overwrite window a bytes
              → OwnWrites words store window c a bytes (done n new) words' store'' window'
          span_written store'' window' puts host =
              accepting (done n new) words' store'' window' (n ∷ fresh rs a n ∷ []) (ap (λ (k : ℕ). replied (n ∷ k ∷ [])) H.counted)
              (taken H.bytes H.records) H.state (puts ∙ stands (leb n new) refl) host

-- No bytes: what is written stands there already.
none_written :
    (words store window : List ℕ) (c a : ℕ)
    → accepted (verdict (admit_checks (state_of words) (length store) (length window) 0 c a 0) (replied [])) ≡ true
    → OwnWrites words store window c a [] (done 0 0) words store window
unfolding span count_fresh
none_written words store window c a e =
    let A = admits (state_of words) (length store) (length window) 0 c a 0 e in
    accepting words store window c a [] (done 0 0) words store window (0 ∷ 0 ∷ []) refl
    (taken words store window c a [] e (nothing_new words store (length window) 0 c a A) (nothing_added words store (length window) 0 c a A))
    (nothing_joined words store (length window) 0 c a A)
    (sym
    (ap (packed store c (joined (records_of (state_of words) c) a 0)) (written_none a _) ∙ nothing_held words store (length window) 0 c a A (from a [])))
    (sym (overwrite_none window a))

pub nothing :
    (words store window : List ℕ) (c a : ℕ) (bytes : List ℕ) → length bytes ≡ 0
    → accepted (verdict (admit_checks (state_of words) (length store) (length window) (length bytes) c a (length bytes)) (replied [])) ≡ true
    → OwnWrites words store window c a bytes (done 0 0) words store window
nothing words store window c a [] none e = none_written words store window c a e
nothing words store window c a (b ∷ bytes) none e = absurd (omega arith)
