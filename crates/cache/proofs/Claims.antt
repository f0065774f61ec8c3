-- Show gives every record of an open command and 25 behind the last; begin and end leave no record and a part of zeros; an own write's bytes
-- are held and stand in the window, and it is judged as a fetch; a fetch looks at the records that start at or below its end, and at one more.
use Prim.Native.Nat.{ℕ, suc, ◌+◌, ◌≤◌, ◌<◌}
use native.Mathlib.Omega.{arith}
use mathlib.Core.Path.{◌≡◌, refl, ap, ap₂, sym, ◌∙◌}
use mathlib.Core.List.{List, [], ◌∷◌, map}
use mathlib.Core.Bool.{true, false}
use lib.ListN.{length, get_or, replicate, length-replicate}
use borrow.Author.Tests.{lt-leb, le-leb}
use Rattle.octets.specs.Lists.{part}
use Rattle.octets.proofs.Overwrite.{overwrite_part}
use Rattle.state.specs.declared.Record.{Record}
use Rattle.state.specs.Limits.{command_limit, held_limit}
use Rattle.state.specs.Records.{span, looked}
use Rattle.state.specs.State.{State, empty, records_of, no_record, is_open, holds}
use Rattle.state.specs.Verdict.{Reply, refused, accepted, looked_in, Check, verdict}
use Rattle.state.proofs.Commands.{command_same, kept, eight}
use Rattle.state.proofs.Laws.{total_joined}
use Rattle.state.proofs.Looked.{looked_bound, looked_exactly}
use Rattle.state.proofs.Verdict.{accepted_alike, refused_alike}
use Rattle.store.specs.Store.{part_start, zeroed}
use Rattle.store.proofs.Spans.{read_back, written_span}
use Rattle.cache.specs.Begin.{begin_state, begin_store}
use Rattle.cache.specs.End.{end_state, end_store}
use Rattle.cache.specs.Fetch.{fetch_checks, fetch_says, fetch_state}
use Rattle.cache.specs.OwnWrite.{own_says, own_state, own_store, own_window}
use Rattle.cache.specs.Show.{past_last, show_says}
use Rattle.cache.specs.Runs.{fetch, says}
use Rattle.cache.specs.Claims.{record_reply, ShowsAll, CommandsEmptied, PartsZeroed, WrittenHeld, WindowWritten, OwnAsFetched, FetchLooks}
use Rattle.cache.proofs.Accepted.{Ready, begun, ended, fetched, fetched_reply, own_judged, own_fetched}

-- what is made of a list's numbers and of its records is the same list, if it is the same at each number
each_record :
    (f : ℕ → Reply) (g : Record → Reply) (k : ℕ) (rs : List Record) → ((i : ℕ) → i < length rs → f (k + i) ≡ g (get_or rs i no_record))
    → map f (span k (length rs)) ≡ map g rs
unfolding span
each_record f g k [] same = refl
each_record f g k (r ∷ rs) same =
    ap₂ ◌∷◌ (ap f (omega arith) ∙ same 0 (omega arith))
    (each_record f g (suc k) rs (λ i h. ap f (omega arith) ∙ same (suc i) (omega arith)))

module _ (s : State) (c : ℕ) (whole : holds s ≡ true) (low : c < command_limit) (opened : is_open s c ≡ true) where
  record_given : (i : ℕ) → i < length (records_of s c) → show_says s c i ≡ record_reply (get_or (records_of s c) i no_record)
  unfolding show_says verdict
  record_given i h =
      let there : (past_last s c i).applies ≡ false = lt-leb (length (records_of s c)) i h in
      rw (lt-leb command_limit c low, whole, opened, there)

  none_behind : (i : ℕ) → length (records_of s c) ≤ i → show_says s c i ≡ refused 25
  unfolding show_says verdict
  none_behind i h =
      let past : (past_last s c i).applies ≡ true = le-leb (length (records_of s c)) i h in
      rw (lt-leb command_limit c low, whole, opened, past)

pub shows_all : ShowsAll
shows_all s c whole low opened = record {
  records = each_record (show_says s c) record_reply 0 (records_of s c) (λ i h. ap (show_says s c) (omega arith) ∙ record_given s c whole low opened i h);
  behind = none_behind s c whole low opened;
}

pub commands_emptied : CommandsEmptied
unfolding begin_state end_state
commands_emptied s store_len c shape = record {
  begun = λ e. rw e (command_same s c (empty true) (low (begun s store_len c e)));
  ended = λ e. rw e (command_same s c (empty false) (low (ended s store_len c e)));
}
  where
    low : Ready s store_len c → c < length s.commands
    low r = omega (arith, r.command, eight s shape)

pub parts_zeroed : PartsZeroed
unfolding begin_store end_store
parts_zeroed s store c = record {
  begun = λ e. rw e (zeros (begun s (length store) c e));
  ended = λ e. rw e (zeros (ended s (length store) c e));
}
  where
    zeros : Ready s (length store) c → part (zeroed store c) (part_start c) held_limit ≡ replicate held_limit 0
    zeros r =
        let bytes : List ℕ = replicate held_limit 0 in
        let size = length-replicate {A = ℕ} held_limit 0 in
        ap (part (zeroed store c) (part_start c)) (sym size) ∙ overwrite_part store bytes (part_start c) (omega (arith, r.command, r.size, size))

-- An own write's bytes are those of its span, and a span stands side by side among the packed bytes.
pub written_held : WrittenHeld
unfolding own_store
written_held s store window c a [] e = refl
written_held s store window c a (b ∷ bs) e =
    let n = length (b ∷ bs) in
    let F = own_fetched s (length store) (length window) c a n e in
    let K = kept s c F.whole in
    rw e
    (read_back (records_of s c) a n K.up (omega (arith, F.inside, F.low)) _ store (part_start c)
    (omega (arith, F.command, F.size, F.room, total_joined (records_of s c) a n K.up)) (omega arith)
    ∙ written_span a (b ∷ bs) _)

pub window_written : WindowWritten
unfolding own_window
window_written s store window c a bytes e =
    rw e (overwrite_part window bytes a (own_fetched s (length store) (length window) c a (length bytes) e).inside)

-- Both are judged by one list of checks, whose verdict the numbers of the reply do not enter.
module _ (s : State) (store_len window_len c a n : ℕ) where
  abbrev checks : List Check
  checks = fetch_checks s store_len window_len n c a n

  taken_alike : accepted (own_says s store_len window_len c a n) ≡ accepted (fetch_says s store_len window_len n c a n)
  unfolding own_says fetch_says
  taken_alike = ap accepted (own_judged s store_len window_len c a n _) ∙ accepted_alike _ _ checks

  number_alike : accepted (own_says s store_len window_len c a n) ≡ false → own_says s store_len window_len c a n ≡ fetch_says s store_len window_len n c a n
  unfolding own_says fetch_says
  number_alike away =
      let judged = own_judged s store_len window_len c a n _ in
      judged ∙ refused_alike _ _ checks (sym (ap accepted judged) ∙ away)

  state_alike : own_state s store_len window_len c a n ≡ fetch_state s store_len window_len n c a n
  unfolding own_state fetch_state
  state_alike = rw taken_alike

pub own_as_fetched : OwnAsFetched
own_as_fetched m c a bytes dest window size =
    let store_len = length m.store in
    let n = length bytes in
    record {
      state = rw size (state_alike m.state store_len (length window) c a n);
      taken = rw size (taken_alike m.state store_len (length window) c a n);
      number = rw size (number_alike m.state store_len (length window) c a n);
    }

-- The number of records looked at is the third of the reply.
pub fetch_looks : FetchLooks
fetch_looks m c a n dest window e =
    let s = m.state in
    let rs = records_of s c in
    let is : looked_in (says m (fetch c a n dest window)) ≡ looked rs a n =
    ap looked_in (fetched_reply s (length m.store) (length window) (length dest) c a n e) in
    let exactly = looked_exactly rs a n (kept s c (fetched s (length m.store) (length window) (length dest) c a n e).whole).up in
    record { most = omega (arith, is, looked_bound rs a n); some = λ h. is ∙ exactly.some h; none = λ h. is ∙ exactly.none h }
