-- What a fetch leaves, case by case: it is refused, it is of no bytes, or its span is held and delivered.
use Prim.Native.Nat.{ℕ, ◌+◌, ◌-◌, ◌≤◌, ◌<◌}
use native.Mathlib.Omega.{arith}
use mathlib.Core.Path.{◌≡◌, refl, ap, ap₂, sym, subst, ◌∙◌}
use mathlib.Core.List.{List, [], ◌∷◌, map}
use mathlib.Core.Bool.{true, false, false≢true}
use lib.ListN.{length}
use Rattle.std.specs.Prelude.{Result, Ok, Err}
use Rattle.octets.specs.Lists.{overwrite, part}
use Rattle.octets.proofs.Overwrite.{overwrite_none}
use Rattle.state.specs.declared.Record.{Record}
use Rattle.state.specs.declared.refusal.Refusal.{Refusal}
use Rattle.state.specs.declared.refusal.Refusal.TheVariants.{TooManyBytes, TooManyRecords}
use Rattle.state.specs.Limits.{record_limit, held_limit, state_words}
use Rattle.state.specs.Records.{span, total, count_fresh, fresh, replayed, joined, looked}
use Rattle.state.specs.State.{State, records_of, open_with, with_command}
use Rattle.state.specs.Words.{state_of}
use Rattle.state.specs.Refusals.{number}
use Rattle.state.specs.Verdict.{Reply, refused, replied, accepted, verdict}
use Rattle.state.proofs.Verdict.{verdict_bars}
use Rattle.state.proofs.Places.{counts_fill}
use Rattle.store.specs.Store.{part_start, location, packed, byte_at, from, sees}
use Rattle.store.proofs.Parts.{from_zero}
use Rattle.cache.specs.Fetch.{admit_checks, fetch_says, fetch_state, fetch_store, fetch_dest}
use Rattle.state.specs.declared.answer.FetchCounts.{FetchCounts}
use Rattle.state.specs.Answers.{fetch_reply}
use Rattle.admission.proofs.Admitted.{Admits, admits, bytes_barred, records_barred, none_barred}
use Rattle.admission.proofs.Nothing.{nothing_joined, nothing_held, nothing_new, nothing_added}
use Rattle.holding.specs.Holding.{MayHold, Held, Holds}
use Rattle.holding.proofs.Held.{span_placed, span_reads}
use Rattle.fetch.specs.Fetch.{Fetches}

-- what an accepted fetch gives
abbrev pub done : (new again look : ℕ) → Result FetchCounts Refusal
done new again look = Ok (record { fresh = new; replayed = again; looked = look })

module _ (words store window dest : List ℕ) (c a n : ℕ) where
  abbrev s : State
  s = state_of words

  abbrev rs : List Record
  rs = records_of s c

  abbrev says : Reply
  says = fetch_says s (length store) (length window) (length dest) c a n

  -- a byte as the command sees it
  abbrev seen : ℕ → ℕ
  seen = sees rs (location s c) store (byte_at window)

  refusing : (why : Refusal) → says ≡ refused (number why) → Fetches words store window dest c a n (Err why) words store dest
  unfolding accepted fetch_state fetch_store fetch_dest
  refusing why is =
      let no : accepted says ≡ false = ap accepted is in
      record { answer = sym is; state = rw no; kept = λ _. refl; bytes = rw no; delivered = rw no }

  pub barred :
      (why : Refusal) → verdict (admit_checks s (length store) (length window) (length dest) c a n) (replied []) ≡ refused (number why)
      → Fetches words store window dest c a n (Err why) words store dest
  unfolding fetch_says
  barred why is = refusing why (verdict_bars (admit_checks s (length store) (length window) (length dest) c a n) _ [] _ (number why) is)

  accepting :
      (r : Result FetchCounts Refusal) (words' store' dest' ns : List ℕ) → fetch_reply r ≡ replied ns → says ≡ replied ns
      → state_of words' ≡ with_command s c (open_with (joined rs a n)) → store' ≡ packed store c (joined rs a n) seen
      → dest' ≡ overwrite dest 0 (map seen (span a n)) → Fetches words store window dest c a n r words' store' dest'
  unfolding accepted fetch_state fetch_store fetch_dest
  accepting r words' store' dest' ns told is state bytes delivered =
      let yes : accepted says ≡ true = ap accepted is in
      record {
        answer = told ∙ sym is;
        state = state ∙ rw yes;
        kept = λ no. absurd (false≢true (sym no ∙ yes));
        bytes = bytes ∙ rw yes;
        delivered = delivered ∙ rw yes;
      }

  -- no check up to 21 applies
  module _ (e : accepted (verdict (admit_checks s (length store) (length window) (length dest) c a n) (replied [])) ≡ true) where
    A : Admits s (length store) (length window) (length dest) c a n
    A = admits s (length store) (length window) (length dest) c a n e

    -- what is replied: the code gives what is left of the span, which is as many as are in a record
    taken :
        total rs + fresh rs a n ≤ held_limit → length (joined rs a n) ≤ record_limit
        → says ≡ replied (fresh rs a n ∷ (n - fresh rs a n) ∷ looked rs a n ∷ [])
    unfolding fetch_says
    taken fits few =
        let rest : replayed rs a n ≡ n - fresh rs a n = omega (arith, counts_fill rs a n) in
        none_barred s (length store) (length window) (length dest) c a n e _ fits few ∙ ap (λ (k : ℕ). replied (fresh rs a n ∷ k ∷ looked rs a n ∷ [])) rest

    module _ (whole : length words ≡ state_words) (some : 0 < n) where
      -- what is asked to hold the span, with the window for the source
      pub may_hold : MayHold words (length store) c a n 0 (length window)
      may_hold = record {
        sized = whole;
        size = A.size;
        command = A.command;
        whole = A.whole;
        opened = A.opened;
        some = some;
        short = A.short;
        inside = omega (arith, A.inside, A.low);
        starts = omega arith;
        ends = omega (arith, A.inside);
      }

      module _ (words' store' : List ℕ) where
        pub full_refused :
            (why : Refusal) → Holds words store c a n 0 window (Err why) words' store' → Fetches words store window dest c a n (Err why) words' store' dest
        unfolding fetch_says
        full_refused TooManyBytes full =
            rw (full.same_words, full.same_store)
            (refusing TooManyBytes (bytes_barred s (length store) (length window) (length dest) c a n e _ full.many))
        full_refused TooManyRecords full =
            rw (full.same_words, full.same_store)
            (refusing TooManyRecords (records_barred s (length store) (length window) (length dest) c a n e _ full.bytes full.many))
        full_refused _ full = absurd full

        -- the span is held and delivered
        module _ (new at look : ℕ) (H : Held words store c a n 0 window new at look words' store') where
          pub placed : at + n ≤ held_limit
          placed = span_placed words store c a n 0 window may_hold new at look words' store' H

          from_window : sees rs (location s c) store (from 0 window) ≡ seen
          from_window = ap (sees rs (location s c) store) (from_zero window)

          pub span_fetched :
              (dest' : List ℕ) → dest' ≡ overwrite dest 0 (part store' (part_start c + at) n)
              → Fetches words store window dest c a n (done new (n - new) look) words' store' dest'
          span_fetched dest' delivered =
              accepting (done new (n - new) look) words' store' dest' (fresh rs a n ∷ (n - fresh rs a n) ∷ looked rs a n ∷ [])
              (ap₂ (λ (k l : ℕ). replied (k ∷ (n - k) ∷ l ∷ [])) H.counted H.looks)
              (taken H.bytes H.records) H.state (H.stored ∙ ap (packed store c (joined rs a n)) from_window)
              (delivered ∙ ap (overwrite dest 0) (span_reads words store c a n 0 window may_hold new at look words' store' H)
              ∙ ap (λ (f : ℕ → ℕ). overwrite dest 0 (map f (span a n))) from_window)

          pub at_most : new ≤ n
          at_most = omega (arith, H.counted, counts_fill rs a n)

-- No bytes: what is written stands there already.
none_fetched :
    (words store window dest : List ℕ) (c a : ℕ)
    → accepted (verdict (admit_checks (state_of words) (length store) (length window) (length dest) c a 0) (replied [])) ≡ true
    → Fetches words store window dest c a 0 (done 0 0 0) words store dest
unfolding span count_fresh looked
none_fetched words store window dest c a e =
    let A = admits (state_of words) (length store) (length window) (length dest) c a 0 e in
    accepting words store window dest c a 0 (done 0 0 0) words store dest (0 ∷ 0 ∷ 0 ∷ []) refl
    (taken words store window dest c a 0 e (nothing_new words store (length window) (length dest) c a A)
    (nothing_added words store (length window) (length dest) c a A))
    (nothing_joined words store (length window) (length dest) c a A)
    (sym (nothing_held words store (length window) (length dest) c a A (byte_at window))) (sym (overwrite_none dest 0))

pub nothing :
    (words store window dest : List ℕ) (c a n : ℕ) → n ≡ 0
    → accepted (verdict (admit_checks (state_of words) (length store) (length window) (length dest) c a n) (replied [])) ≡ true
    → Fetches words store window dest c a n (done 0 0 0) words store dest
nothing words store window dest c a n none e =
    subst (λ (k : ℕ). Fetches words store window dest c a k (done 0 0 0) words store dest) (sym none)
    (none_fetched words store window dest c a
    (subst (λ (k : ℕ). accepted (verdict (admit_checks (state_of words) (length store) (length window) (length dest) c a k) (replied [])) ≡ true) none e))
