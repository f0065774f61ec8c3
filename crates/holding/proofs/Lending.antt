-- What is known of the command's words while they are lent to hold a span: what the code needs, and what its numbers are by the definitions.
use Prim.Native.Nat.{ℕ, ◌+◌, ◌-◌, ◌≤◌, ◌<◌}
use native.Mathlib.Omega.{arith}
use mathlib.Core.Path.{◌≡◌, refl, ap, sym, subst, ◌∙◌}
use mathlib.Core.List.{List}
use mathlib.Core.Bool.{true}
use lib.ListN.{length, take, drop, length-take, take-append-drop}
use Rattle.state.specs.declared.Record.{Record}
use Rattle.state.specs.declared.Meeting.{Meeting}
use Rattle.state.specs.Limits.{command_limit, record_limit, held_limit, transfer_limit, window_limit, command_words}
use Rattle.state.specs.Records.{total, fresh}
use Rattle.state.specs.State.{State, CommandState, command_of, records_in, with_command, command_holds}
use Rattle.state.specs.Words.{command_in, state_of}
use Rattle.state.specs.Join.{Join, join, spliced, replaced, Room, Judged, Joined}
use Rattle.state.proofs.Cut.{cut_wider}
use Rattle.state.proofs.Commands.{kept, each_holds}
use Rattle.state.proofs.Join.{join_judged, join_joined}
use Rattle.state.proofs.Laws.{total_append}
use Rattle.words.proofs.EntryWords.{entries_size}
use Rattle.words.proofs.StateWords.{lent, returned, lent_size, lent_command_lem, returned_state}
use Rattle.store.specs.Store.{part_start, location, packed, from, sees}
use Rattle.store.specs.Hold.{Fits}
use Rattle.std.specs.Prelude.{Result, Ok, Err}
use Rattle.state.specs.declared.refusal.Refusal.{Refusal}
use Rattle.state.specs.declared.refusal.Refusal.TheVariants.{TooManyBytes, TooManyRecords}
use Rattle.admission.specs.declared.plan.Finding.{Finding}
use Rattle.admission.specs.Plan.{Plan, Plans, behind_of, bytes_of}
use Rattle.holding.specs.Holding.{MayHold, Held, BytesFull, RecordsFull, Holds}

-- what hold and splice are given: the command that is lent
abbrev pub lent_command : (words : List ℕ) (c : ℕ) → CommandState
lent_command words c = command_in (lent words c)

-- what the search is given
pub record Lent (words : List ℕ) (c a n : ℕ) : Type 0 where
  pub command : c < command_limit
  pub sized : length (lent words c) ≡ command_words
  pub holds : command_holds (lent_command words c) ≡ true
  pub some : 0 < n
  pub short : n ≤ transfer_limit
  pub inside : a + n ≤ window_limit

-- the store as `hold` leaves it
abbrev pub held_of : CommandState → (c base : ℕ) (source store : List ℕ) → Meeting → List ℕ
held_of q c base source store m = packed store c (replaced (records_in q) m) (sees (records_in q) (λ k. part_start c + k) store (from base source))

-- where there is room: what `hold` and `splice` need, and what they have made of words and store
pub record SpanRoom (words store : List ℕ) (c a n base : ℕ) (source : List ℕ) (m : Meeting) (new at rest look : ℕ) : Type 0 where
  pub fits : Fits (lent_command words c) m new held_limit base (length source)
  pub behind : rest ≡ total (drop m.last (records_in (lent_command words c)))
  pub opened : (lent_command words c).opened ≡ true
  pub order : m.first ≤ m.last
  pub most : m.last ≤ length (records_in (lent_command words c))
  pub few : m.first + 1 + (length (records_in (lent_command words c)) - m.last) ≤ record_limit
  pub held :
      (ws store' : List ℕ) → length ws ≡ command_words → command_in ws ≡ spliced (lent_command words c) m
      → store' ≡ held_of (lent_command words c) c base source store m → Held words store c a n base source new at look (returned words c ws) store'

module _ (words store : List ℕ) (c a n base : ℕ) (source : List ℕ) (M : MayHold words (length store) c a n base (length source)) where
  abbrev s : State
  s = state_of words

  abbrev p : CommandState
  p = command_of s c

  abbrev rs : List Record
  rs = records_in p

  abbrev j : Join
  j = join p a (a + n)

  own : lent_command words c ≡ p
  own = lent_command_lem words c M.sized M.command

  whole : command_holds p ≡ true
  whole = each_holds s c M.whole

  pub lends : Lent words c a n
  lends = record {
    command = M.command;
    sized = lent_size words c M.sized M.command;
    holds = subst (λ (q : CommandState). command_holds q ≡ true) (sym own) whole;
    some = M.some;
    short = M.short;
    inside = M.inside;
  }

  judged : Judged p a n j
  judged = join_judged p a n M.some whole

  sum : j.meeting.below + j.meeting.held + behind_of p j ≡ total rs
  sum =
      omega (
        arith,
        judged.bytes,
        ap total (take-append-drop j.meeting.last rs),
        total_append (take j.meeting.last rs) (drop j.meeting.last rs),
      )

  bytes_are : bytes_of p j ≡ total rs + fresh rs a n
  bytes_are = omega (arith, sum, judged.fresh)

  -- what the search gave is told of the command
  plans : (f : Result Finding Refusal) → Plans (lent_command words c) a n f → Plans p a n f
  plans f found = subst (λ (q : CommandState). Plans q a n f) own found

  -- refused, nothing has changed
  pub full : (why : Refusal) → Plans (lent_command words c) a n (Err why) → Holds words store c a n base source (Err why) words store
  full TooManyBytes found = record { many = omega (arith, plans (Err TooManyBytes) found, bytes_are); same_words = refl; same_store = refl }
  full TooManyRecords found =
      let h = plans (Err TooManyRecords) found in
      record { bytes = omega (arith, h.bytes, bytes_are); many = omega (arith, h.many, judged.count); same_words = refl; same_store = refl }
  full _ found = absurd found

  pub bytes_full_lem : Plans (lent_command words c) a n (Err TooManyBytes) → BytesFull words store c a n words store
  bytes_full_lem = full TooManyBytes

  pub records_full_lem : Plans (lent_command words c) a n (Err TooManyRecords) → RecordsFull words store c a n words store
  records_full_lem = full TooManyRecords

  -- there is room
  module _ (m : Meeting) (new at rest look : ℕ) (found : Plans (lent_command words c) a n (Ok (record { m = m; fresh = new; place = at; behind = rest; looked = look }))) where
    P : Plan p j m new at rest look
    P = plans (Ok (record { m = m; fresh = new; place = at; behind = rest; looked = look })) found

    R : Room p a n
    R = record {
      opened = M.opened;
      whole = whole;
      fits = M.inside;
      bytes = omega (arith, P.bytes, bytes_are);
      few = omega (arith, P.few, judged.count);
    }

    joined_is : Joined p a n j
    joined_is = join_joined p a n M.some (ap (λ (q : CommandState). length q.records) (sym own) ∙ entries_size (lent words c)) R

    span_fits : Fits p m new held_limit base (length source)
    span_fits =
        subst (λ (k : Meeting). Fits p k new held_limit base (length source)) (sym P.meets)
        (subst (λ (f : ℕ). Fits p j.meeting f held_limit base (length source)) (sym P.new)
        (record {
          cut = cut_wider rs j.meeting j.fresh a (a + n) base (base + length source) joined_is.cut M.starts M.ends;
          few = omega (arith, (kept s c M.whole).few, length-take p.count p.records);
          room = omega (arith, sum, P.bytes);
        }))

    few_lent : m.first + 1 + (length rs - m.last) ≤ record_limit
    unfolding join spliced
    few_lent = rw P.meets P.few

    -- the union is in the command's words, and its bytes are in the store
    module _ (ws store' : List ℕ) (size : length ws ≡ command_words) (command : command_in ws ≡ spliced (lent_command words c) m)
        (bytes : store' ≡ held_of (lent_command words c) c base source store m) where
      held : Held words store c a n base source new at look (returned words c ws) store'
      unfolding join
      held = record {
        bytes = R.bytes;
        records = R.few;
        counted = P.new ∙ judged.fresh;
        stands = P.stands ∙ joined_is.place;
        looks = P.looks ∙ judged.looked;
        state =
            returned_state words c M.sized M.command ws size
            ∙ ap (with_command s c) (command ∙ ap (λ (q : CommandState). spliced q m) own ∙ ap (spliced p) P.meets ∙ joined_is.records);
        stored =
            bytes ∙ ap (λ (q : CommandState). held_of q c base source store m) own ∙ ap (held_of p c base source store) P.meets
            ∙ ap (λ (l : List Record). packed store c l (sees rs (location s c) store (from base source))) (sym joined_is.replaces);
      }

    pub room : SpanRoom words store c a n base source m new at rest look
    room = record {
      fits = subst (λ (q : CommandState). Fits q m new held_limit base (length source)) (sym own) span_fits;
      behind =
          P.rest ∙ ap (λ (k : Meeting). total (drop k.last rs)) (sym P.meets)
          ∙ ap (λ (q : CommandState). total (drop m.last (records_in q))) (sym own);
      opened = ap (λ (q : CommandState). q.opened) own ∙ M.opened;
      order = span_fits.cut.order;
      most = subst (λ (q : CommandState). m.last ≤ length (records_in q)) (sym own) span_fits.cut.most;
      few = subst (λ (q : CommandState). m.first + 1 + (length (records_in q) - m.last) ≤ record_limit) (sym own) few_lent;
      held = held;
    }
