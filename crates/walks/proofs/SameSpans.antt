-- Two accepted walks of one request give the same spans, if nothing between them renews a byte that the first read: the first list page is the
-- same, so the second list is at the same place, and is the same too.
use Prim.Native.Nat.{ℕ, ◌+◌, ◌-◌, ◌*◌}
use native.Mathlib.Omega.{arith}
use mathlib.Core.Path.{◌≡◌, refl, ap, ap₂, subst, sym, ◌∙◌}
use mathlib.Core.List.{List, [], ◌∷◌, ◌++◌}
use mathlib.Core.Bool.{Bool, true, false, not, and-false}
use lib.ListN.{length, take, get_or, replicate, length-map}
use lib.Seq.{ext_get_or}
use borrow.Author.Tests.{le-leb, lt-ltb}
use Rattle.octets.specs.Lists.{all}
use Rattle.octets.proofs.Lists.{both, and_left, and_right}
use Rattle.state.specs.Records.{in_span, span}
use Rattle.state.specs.Verdict.{accepted}
use Rattle.state.proofs.Places.{length_span}
use Rattle.cache.specs.Runs.{Call, fetch, Machine, start, says, after, delivers, along, ran}
use Rattle.history.specs.Journal.{Event, event, journal, backwards, deed_of, deed}
use Rattle.history.specs.Firsts.{Memory, memory, owed_by}
use Rattle.history.specs.Claims.{renews}
use Rattle.history.proofs.Sound.{Sound, sound_start, sound_after, sound_ran}
use Rattle.history.proofs.Delivery.{delivers_owed}
use Rattle.history.proofs.SameValue.{same_value}
use Rattle.prp.specs.Pages.{Walk, span_lengths, with_list, chained, fit, first_count, second_count}
use Rattle.prp.specs.Entries.{entries_in, list_fetch}
use Rattle.prp.specs.Walk.{asks_of, list_one, list_two, onward, page_entries, walk_checks, walk_says, walk_fetches}
use Rattle.prp.proofs.Listed.{entries_none, entries_one_lem, entries_two_lem}
use Rattle.prp.proofs.Listing.{Listing, no_list, one_page, two_pages, listing, got_one_lem, got_two_lem}
use Rattle.prp.proofs.Spans.{addresses_front, lengths_front}
use Rattle.walks.specs.Places.{went, expanded}
use Rattle.walks.specs.Claims.{SameRequest, listed, SameSpansAt, SameSpans}
use Rattle.walks.proofs.Expanded.{ran_append, went_ran, gathered_along}

-- an accepted fetch delivers as many bytes as it asks for
delivered_length :
    (m : Machine) (mem : Memory) (c a n : ℕ) (dest window : List ℕ) → Sound m mem → accepted (says m (fetch c a n dest window)) ≡ true
    → length (delivers m (fetch c a n dest window)) ≡ n
unfolding owed_by
delivered_length m mem c a n dest window S e =
    ap length (delivers_owed m mem (fetch c a n dest window) true e S) ∙ length-map (span a n) _ ∙ length_span a n

-- does nothing of a list renew the span for the command?
abbrev Kept : (c a n : ℕ) → List Event → Type 0
Kept c a n es = (x : ℕ) → in_span a n x ≡ true → all (λ e. not (renews c x (deed e))) es ≡ true

-- Then two accepted fetches of the span deliver the same bytes.
module _ (store : List ℕ) (qs : List Call) (c a n : ℕ) (dest window : List ℕ) (between : List Call) (dest' window' : List ℕ) where
  abbrev one : Call
  one = fetch c a n dest window

  abbrev other : Call
  other = fetch c a n dest' window'

  abbrev SameBytes : Machine → Machine → Type 0
  SameBytes m k =
      accepted (says m one) ≡ true → accepted (says k other) ≡ true → Kept c a n (along event (after m one) between) → delivers m one ≡ delivers k other

  same_bytes_ran : SameBytes (ran (start store) qs) (ran (after (ran (start store) qs) one) between)
  unfolding memory
  same_bytes_ran taken taken' kept =
      let m = ran (start store) qs in
      let k = ran (after m one) between in
      let past = backwards [] (journal store qs) in
      let S = sound_ran [] (start store) qs (sound_start store) in
      let S' = sound_ran (event m one ∷ past) (after m one) between (sound_after m (memory past) one (accepted (says m one)) refl S) in
      let size = delivered_length m (memory past) c a n dest window S taken in
      let size' = delivered_length k _ c a n dest' window' S' taken' in
      ext_get_or 0 (delivers m one) (delivers k other) (size ∙ sym size') λ i h.
      let near : in_span a n (a + i) ≡ true = both (le-leb a (a + i) (omega arith)) (lt-ltb (a + i) (a + n) (omega arith)) in
      let at : a + i - a ≡ i = omega arith in
      rw at at (same_value store qs c a n dest window between a n dest' window' (a + i) near near taken taken' (kept (a + i) near))

  same_bytes : (m k : Machine) → m ≡ ran (start store) qs → k ≡ ran (after m one) between → SameBytes m k
  same_bytes m k is later =
      subst (SameBytes m) (sym later)
      (subst (λ (j : Machine). SameBytes j (ran (after j one) between)) (sym is) same_bytes_ran)

-- a fetch renews nothing, accepted or refused
fetch_keeps : (c x : ℕ) (m : Machine) (d a n : ℕ) (dest window : List ℕ)
    → all (λ e. not (renews c x (deed e))) (along event m (fetch d a n dest window ∷ [])) ≡ true
unfolding all along
fetch_keeps c x m d a n dest window = both (go (accepted (says m (fetch d a n dest window)))) refl
  where
    go : (b : Bool) → not (renews c x (deed_of b (fetch d a n dest window))) ≡ true
    go true = refl
    go false = refl

-- what holds at each event of two lists of calls, one behind the other
all_along :
    (p : Event → Bool) (m : Machine) (ps qs : List Call) → all p (along event m ps) ≡ true → all p (along event (ran m ps) qs) ≡ true
    → all p (along event m (ps ++ qs)) ≡ true
unfolding all along ran
all_along p m [] qs h k = k
all_along p m (q ∷ ps) qs h k =
    let here = p (event m q) in
    let rest = all p (along event (after m q) ps) in
    both (and_left here rest h) (all_along p (after m q) ps qs (and_right here rest h) k)

-- a walk of the same request, with its own buffers and its own window
abbrev with_rest : Walk → Walk → Walk
with_rest w v = record {
  command = w.command;
  prp1 = w.prp1;
  prp2 = w.prp2;
  transfer = w.transfer;
  least = v.least;
  scratch = v.scratch;
  address_list = v.address_list;
  length_list = v.length_list;
  window = v.window;
}

module _ (store : List ℕ) (qs : List Call) (m : Machine) (is : m ≡ ran (start store) qs) (w v : Walk)
    (b k : Machine) (es : List Call) (behind : b ≡ ran m (walk_fetches m w)) (later : k ≡ ran b es)
    (taken : accepted (walk_says m w) ≡ true) (taken' : accepted (walk_says k (with_rest w v)) ≡ true)
    (kept : (x : ℕ) → listed m w x ≡ true → all (λ e. not (renews w.command x (deed e))) (along event b es) ≡ true) where
  abbrev c : ℕ
  c = w.command

  abbrev first : Call
  first = list_one (asks_of m) w

  abbrev first' : Call
  first' = list_one (asks_of k) (with_rest w v)

  abbrev second : Call
  second = list_two (asks_of m) w

  abbrev second' : Call
  second' = list_two (asks_of k) (with_rest w v)

  abbrev keeps : ℕ → Event → Bool
  keeps x e = not (renews c x (deed e))

  module _ (list : with_list w ≡ true) where
    -- the first page, whatever fetches follow it
    first_bytes : (fs : List Call) → walk_fetches m w ≡ first ∷ fs → ((x : ℕ) → all (keeps x) (along event (after m first) fs) ≡ true)
        → delivers m first ≡ delivers k first'
    unfolding ran walk_says all
    first_bytes fs made fetches =
        let n = 8 * first_count w in
        let through : b ≡ ran (after m first) fs = behind ∙ ap (ran m) made in
        same_bytes store qs c w.prp2 n (replicate n 0) w.window (fs ++ es) (replicate n 0) v.window m k is
        (later ∙ ap (λ (j : Machine). ran j es) through ∙ sym (ran_append (after m first) fs es))
        (got_one_lem (asks_of m) w (walk_checks m w) taken list) (got_one_lem (asks_of k) (with_rest w v) (walk_checks k (with_rest w v)) taken' list)
        λ x near.
        all_along (keeps x) (after m first) fs es (fetches x)
        (subst (λ (j : Machine). all (keeps x) (along event j es) ≡ true) through (kept x (rw (made, near))))

    -- and the second
    second_bytes : chained w ≡ true → walk_fetches m w ≡ first ∷ second ∷ [] → delivers m first ≡ delivers k first'
        → delivers (after m first) second ≡ delivers (after k first') second'
    unfolding ran walk_says all along
    second_bytes chain made one =
        let n = 8 * second_count w in
        let a = onward (asks_of m) w in
        let same_place : a ≡ onward (asks_of k) (with_rest w v) = ap (λ (bytes : List ℕ). get_or (entries_in (first_count w) bytes) (fit w - 1) 0) one in
        let through : b ≡ after (after m first) second = behind ∙ ap (ran m) made in
        let there : k ≡ ran (after (after m first) second) es = later ∙ ap (λ (j : Machine). ran j es) through in
        same_bytes store (qs ++ first ∷ []) c a n (replicate n 0) w.window (es ++ first' ∷ []) (replicate n 0) v.window (after m first) (after k first')
        (ap (λ (j : Machine). after j first) is ∙ sym (ran_append (start store) qs (first ∷ [])))
        (ap (λ (j : Machine). after j first') there ∙ sym (ran_append (after (after m first) second) es (first' ∷ [])))
        (got_two_lem (asks_of m) w (walk_checks m w) taken list chain)
        (rw same_place (got_two_lem (asks_of k) (with_rest w v) (walk_checks k (with_rest w v)) taken' list chain))
        (λ x near.
        all_along (keeps x) (after (after m first) second) es (first' ∷ [])
        (subst (λ (j : Machine). all (keeps x) (along event j es) ≡ true) through (kept x (rw (made, near, and-false))))
        (fetch_keeps c x (ran (after (after m first) second) es) c w.prp2 (8 * first_count w) (replicate (8 * first_count w) 0) v.window))
        ∙ ap (λ (at : ℕ). delivers (after k first') (list_fetch c at (second_count w) v.window)) same_place

  entries_kept : page_entries (asks_of m) w ≡ page_entries (asks_of k) (with_rest w v)
  unfolding walk_says walk_fetches ran
  entries_kept = go (listing (asks_of m) w (walk_checks m w) taken)
    where
      go : Listing (asks_of m) w (walk_checks m w) → page_entries (asks_of m) w ≡ page_entries (asks_of k) (with_rest w v)
      go (no_list e none) = entries_none (asks_of m) w e ∙ sym (entries_none (asks_of k) (with_rest w v) e)
      go (one_page e u made) =
          entries_one_lem (asks_of m) w e u
          ∙ ap (entries_in (first_count w)) (first_bytes e [] made (λ x. unfold all along in refl))
          ∙ sym (entries_one_lem (asks_of k) (with_rest w v) e u)
      go (two_pages e u made) =
          let n = 8 * second_count w in
          let one = first_bytes e (second ∷ []) made
          (λ x. fetch_keeps c x (after m first) c (onward (asks_of m) w) n (replicate n 0) w.window) in
          let two = second_bytes e u made one in
          entries_two_lem (asks_of m) w e u
          ∙ ap₂ (λ bytes bytes'. take (fit w - 1) (entries_in (first_count w) bytes) ++ entries_in (second_count w) bytes') one two
          ∙ sym (entries_two_lem (asks_of k) (with_rest w v) e u)

-- two walks of one request differ in buffers and windows alone
same_request : (w v : Walk) → SameRequest w v → with_rest w v ≡ v
same_request w v R i = record {
  command = R.command i;
  prp1 = R.prp1 i;
  prp2 = R.prp2 i;
  transfer = R.transfer i;
  least = v.least;
  scratch = v.scratch;
  address_list = v.address_list;
  length_list = v.length_list;
  window = v.window;
}

pub same_spans : SameSpans
unfolding span_lengths
same_spans store before w between w' R taken taken' unrenewed =
    let m = went (start store) before in
    let b = ran m (walk_fetches m w) in
    let k = went b between in
    let kept : (x : ℕ) → listed m w x ≡ true → all (λ e. not (renews w.command x (deed e))) (along event b (expanded b between)) ≡ true =
    λ x read. rw (gathered_along event b between) at (unrenewed x read) in
    subst (λ (v : Walk). accepted (walk_says k v) ≡ true → SameSpansAt m k w v) (same_request w w' R)
    (λ fine. record {
      addresses =
          addresses_front m w taken
          ∙ ap (λ (xs : List ℕ). w.prp1 ∷ xs)
          (entries_kept store (expanded (start store) before) m (went_ran (start store) before) w w' b k (expanded b between) refl (went_ran b between)
          taken fine kept)
          ∙ sym (addresses_front k (with_rest w w') fine);
      lengths = lengths_front m w taken ∙ sym (lengths_front k (with_rest w w') fine);
    })
    taken'
