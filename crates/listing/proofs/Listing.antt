-- A list page as the code fetches it: the destination that it lends is as long as the entries, so that its bytes do not matter.
use Prim.Native.Nat.{ℕ, ◌+◌, ◌*◌, ◌≤◌}
use native.Mathlib.Omega.{arith}
use mathlib.Core.Path.{◌≡◌, refl, ap, sym, ◌∙◌}
use mathlib.Core.List.{List, [], ◌∷◌, map, append-nil}
use mathlib.Core.Bool.{Bool, true, false, false≢true}
use Rattle.std.specs.Prelude.{Result, Ok, Err}
use lib.ListN.{length, take, replicate, length-replicate, length-map, length-take}
use lib.Seq.{drop-length, take_all}
use Rattle.octets.specs.Lists.{overwrite}
use Rattle.state.specs.declared.refusal.Refusal.{Refusal}
use Rattle.state.specs.declared.answer.FetchCounts.{FetchCounts}
use Rattle.state.specs.Answers.{fetch_reply}
use Rattle.state.specs.Limits.{record_limit}
use Rattle.state.specs.Records.{span, looked}
use Rattle.state.specs.Refusals.{number}
use Rattle.state.specs.State.{State, command_of, records_of}
use Rattle.state.specs.Verdict.{Reply, refused, replied, accepted, looked_in}
use Rattle.state.specs.Words.{state_of}
use Rattle.state.proofs.Commands.{kept}
use Rattle.state.proofs.Looked.{looked_few as looked-most}
use Rattle.state.proofs.Places.{length_span}
use Rattle.store.specs.Store.{location, byte_at, sees}
use Rattle.cache.specs.Fetch.{fetch_says, fetch_state, fetch_store, fetch_dest}
use Rattle.cache.specs.Runs.{Call, Machine, given, says, delivers, after}
use Rattle.cache.proofs.Accepted.{fetched, fetched_reply}
use Rattle.fetch.specs.Fetch.{Fetches}
use Rattle.prp.specs.Pages.{page_size}
use Rattle.prp.specs.Entries.{entries_in, wrong_multiple, judged, ◌then◌, list_fetch}
use Rattle.listing.specs.Page.{gathered_reply, looked_by, ListsPage}

-- a buffer written over whole
written_over : (buffer bytes : List ℕ) → length bytes ≡ length buffer → overwrite buffer 0 bytes ≡ bytes
written_over buffer bytes e =
    let all : 0 + length bytes ≡ length buffer = omega arith in
    rw (all, drop-length buffer) (append-nil bytes)

-- gathered or not, no more was looked at than the fetch says
looked_within : (v : Result ℕ Refusal) (look : ℕ) → (accepted (gathered_reply v) ≡ true → looked_by v ≡ look) → look ≤ record_limit → looked_by v ≤ record_limit
unfolding accepted
looked_within (Ok n) look counted h = omega (arith, counted refl)
looked_within (Err why) look counted h = omega arith

module _ (words store window dest : List ℕ) (c a k : ℕ) (sized : length dest ≡ 8 * k) where
  abbrev s : State
  s = state_of words

  abbrev m : Machine
  m = given words store

  abbrev p : Call
  p = list_fetch c a k window

  as_long : length dest ≡ length {A = ℕ} (replicate (8 * k) 0)
  as_long = sized ∙ sym (length-replicate (8 * k) 0)

  says_same : fetch_says s (length store) (length window) (length dest) c a (8 * k) ≡ says m p
  says_same = ap (λ (n : ℕ). fetch_says s (length store) (length window) n c a (8 * k)) as_long

  state_same : fetch_state s (length store) (length window) (length dest) c a (8 * k) ≡ (after m p).state
  state_same = ap (λ (n : ℕ). fetch_state s (length store) (length window) n c a (8 * k)) as_long

  store_same : fetch_store s store window dest c a (8 * k) ≡ (after m p).store
  unfolding fetch_store
  store_same = rw as_long

  -- the bytes that are fetched
  abbrev bytes : List ℕ
  bytes = map (sees (records_of s c) (location s c) store (byte_at window)) (span a (8 * k))

  length_bytes : length bytes ≡ 8 * k
  length_bytes = length-map (span a (8 * k)) _ ∙ length_span a (8 * k)

  dest_is : accepted (says m p) ≡ true → fetch_dest s store window dest c a (8 * k) ≡ bytes
  unfolding fetch_dest
  dest_is taken = rw (says_same, taken) (written_over dest bytes (length_bytes ∙ sym sized))

  dest_sized : length (fetch_dest s store window dest c a (8 * k)) ≡ 8 * k
  unfolding fetch_dest
  dest_sized = go (accepted (says m p)) refl
    where
      go : (b : Bool) → accepted (says m p) ≡ b → length (fetch_dest s store window dest c a (8 * k)) ≡ 8 * k
      go true taken = ap length (dest_is taken) ∙ length_bytes
      go false not_taken = rw (says_same, not_taken, fetch_dest) sized

  delivers_is : accepted (says m p) ≡ true → delivers m p ≡ bytes
  unfolding fetch_dest
  delivers_is taken =
      rw taken (ap (take (8 * k)) (written_over (replicate (8 * k) 0) bytes (length_bytes ∙ sym (length-replicate (8 * k) 0)))
      ∙ take_all (8 * k) bytes (omega (arith, length_bytes)))

  -- what is said of the entries in some bytes
  abbrev entries_say : List ℕ → Reply
  entries_say l = judged (map (wrong_multiple page_size) (entries_in k l))

  module _ (words' store' dest' : List ℕ) (r : Result FetchCounts Refusal) (F : Fetches words store window dest c a (8 * k) r words' store' dest') where
    left : given words' store' ≡ after m p
    left = λ i. record { state = (F.state ∙ state_same) i; store = (F.bytes ∙ store_same) i }

    got : accepted (says m p) ≡ true → dest' ≡ delivers m p
    got taken = F.delivered ∙ dest_is taken ∙ sym (delivers_is taken)

    pub refused_page : (why : Refusal) → r ≡ Err why → ListsPage words store window c a k (Err why) words' store' dest'
    unfolding accepted
    refused_page why is =
        let said : says m p ≡ refused (number why) = sym says_same ∙ sym F.answer ∙ ap fetch_reply is in
        record {
          answer = sym (ap (λ (q : Reply). q then entries_say (delivers m p)) said);
          machine = left;
          bytes = got;
          sized = ap length F.delivered ∙ dest_sized;
          looked = λ e. absurd (false≢true e);
          few = omega arith;
        }

    -- an accepted fetch looks at no more records than a command can have
    looked_few : accepted (says m p) ≡ true → looked_in (says m p) ≤ record_limit
    looked_few taken =
        let reply = fetched_reply s (length store) (length window) (length {A = ℕ} (replicate (8 * k) 0)) c a (8 * k) taken in
        let K = kept s c (fetched s (length store) (length window) (length {A = ℕ} (replicate (8 * k) 0)) c a (8 * k) taken).whole in
        let number : looked_in (says m p) ≡ looked (records_of s c) a (8 * k) = ap looked_in reply in
        omega (
          arith,
          number,
          looked-most (records_of s c) a (8 * k),
          K.few,
          length-take (command_of s c).count (command_of s c).records,
        )

    pub judged_page :
        (counts : FetchCounts) (v : Result ℕ Refusal) → r ≡ Ok counts
        → gathered_reply v ≡ entries_say dest' → (accepted (gathered_reply v) ≡ true → looked_by v ≡ counts.looked)
        → ListsPage words store window c a k v words' store' dest'
    unfolding accepted
    judged_page counts v is judgement counted =
        let said : says m p ≡ replied (counts.fresh ∷ counts.replayed ∷ counts.looked ∷ []) = sym says_same ∙ sym F.answer ∙ ap fetch_reply is in
        let taken : accepted (says m p) ≡ true = ap accepted said in
        let number : looked_in (says m p) ≡ counts.looked = ap looked_in said in
        record {
          answer = judgement ∙ ap entries_say (got taken) ∙ sym (ap (λ (q : Reply). q then entries_say (delivers m p)) said);
          machine = left;
          bytes = got;
          sized = ap length F.delivered ∙ dest_sized;
          looked = λ e. counted e ∙ sym number;
          few = looked_within v counts.looked counted (omega (arith, number, looked_few taken));
        }
