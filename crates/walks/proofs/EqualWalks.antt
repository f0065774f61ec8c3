-- The equal-runs rule for lists with walks: where at each place the first fetches agree, two lists that have all in common but the bytes of
-- windows, host writes, destinations and scratches do the same at every place.
use Prim.Native.Nat.{ℕ}
use native.Mathlib.Omega.{arith}
use mathlib.Core.Path.{◌≡◌, refl, ap, ap₂, subst, sym, ◌∙◌}
use mathlib.Core.List.{List, [], ◌∷◌, map, flat_map}
use mathlib.Core.Bool.{Bool, true, false}
use lib.ListN.{length, length-replicate}
use Rattle.octets.specs.Lists.{overwrite}
use Rattle.octets.proofs.Lists.{and_left, and_right, cons_head, cons_tail}
use Rattle.state.specs.Verdict.{Reply, accepted}
use Rattle.cache.specs.Runs.{Call, Machine, start, along}
use Rattle.history.specs.Journal.{Event, event, told, backwards}
use Rattle.history.specs.Firsts.{memory, firsts}
use Rattle.history.specs.Claims.{blank, common_lengths}
use Rattle.history.proofs.Sound.{Sound, sound_start, sound_ran}
use Rattle.history.proofs.Alike.{alike}
use Rattle.prp.specs.Pages.{Walk, span_lengths}
use Rattle.prp.specs.Walk.{asks_of, answer_by, page_entries, walk_checks, walk_says, walk_fetches, walk_addresses, walk_lengths}
use Rattle.walks.specs.Places.{Place, plain, walk, calls_at, place_says, place_after, place_events, place_delivers, place_lists, throughout, gathered}
use Rattle.walks.specs.Claims.{common_at, firsts_at, agree, agreeing, EqualWalksRule}
use Rattle.walks.proofs.Expanded.{after_calls}
use Rattle.walks.proofs.Agreeing.{agree_front}
use Rattle.walks.proofs.SameCalls.{same_call, SameRun, same_none, same_next}
use Rattle.walks.proofs.SameWalks.{with_bytes, answer_same, entries_same, checks_same, Pair, pair}

-- what two places have in common
record SamePlace (m : Machine) (past past' : List Event) (p q : Place) : Type 0 where
  answer : place_says m p ≡ place_says m q
  lists : place_lists m p ≡ place_lists m q
  run : SameRun m past past' (calls_at m p) (calls_at m q)

-- two walks that have all in common but the bytes of their scratches and windows
module _ (w u : Walk) (e : common_at (walk w) ≡ common_at (walk u)) where
  blanked : with_bytes w (blank w.scratch) (blank w.window) ≡ with_bytes u (blank u.scratch) (blank u.window)
  unfolding common_at
  blanked = cc

  scratch_size : length w.scratch ≡ length u.scratch
  scratch_size = sym (length-replicate _ 0) ∙ ap (λ (v : Walk). length v.scratch) blanked ∙ length-replicate _ 0

  window_size : length w.window ≡ length u.window
  window_size = sym (length-replicate _ 0) ∙ ap (λ (v : Walk). length v.window) blanked ∙ length-replicate _ 0

  bytes_apart : with_bytes w u.scratch u.window ≡ u
  bytes_apart i = record {
    command = (blanked i).command;
    prp1 = (blanked i).prp1;
    prp2 = (blanked i).prp2;
    transfer = (blanked i).transfer;
    least = (blanked i).least;
    scratch = u.scratch;
    address_list = (blanked i).address_list;
    length_list = (blanked i).length_list;
    window = u.window;
  }

module _ (m : Machine) (past past' : List Event) (known : memory past ≡ memory past') (S : Sound m (memory past)) where
  same_plain : (p q : Call) → common_lengths p ≡ common_lengths q
      → agree (gathered (told firsts past (place_events m (plain p)))) (gathered (told firsts past' (place_events m (plain q)))) ≡ true
      → SamePlace m past past' (plain p) (plain q)
  unfolding told along flat_map
  same_plain p q e agreed =
      let C = same_call m past past' p q known S (alike p q e)
      (agree_front (firsts past (event m p)) [] (firsts past' (event m q)) [] agreed) in
      record { answer = C.answer; lists = refl; run = same_next m past past' p q [] [] C (same_none _ _ _ C.remembered) }

  module _ (w : Walk) (scratch window : List ℕ) (room : length w.scratch ≡ length scratch) (size : length w.window ≡ length window) where
    abbrev v : Walk
    v = with_bytes w scratch window

    module _ (P : Pair m w scratch window room size past past') where
      answer_alike : walk_says m w ≡ walk_says m v
      unfolding walk_says
      answer_alike =
          answer_same (asks_of m) w scratch window (walk_checks m w) P.one P.two
          ∙ ap (answer_by (asks_of m) v) (sym (checks_same m w scratch window room size))

      entries_alike : accepted (walk_says m w) ≡ true → page_entries (asks_of m) w ≡ page_entries (asks_of m) v
      unfolding walk_says
      entries_alike e = entries_same (asks_of m) w scratch window (walk_checks m w) P.one P.two e

      lists_alike : place_lists m (walk w) ≡ place_lists m (walk v)
      unfolding walk_addresses walk_lengths span_lengths
      lists_alike = go (accepted (walk_says m w)) refl
        where
          go : (b : Bool) → accepted (walk_says m w) ≡ b → walk_addresses m w ∷ walk_lengths m w ∷ [] ≡ walk_addresses m v ∷ walk_lengths m v ∷ []
          go true e =
              rw (← answer_alike, e)
              (ap (λ (xs : List ℕ). overwrite w.address_list 0 (w.prp1 ∷ xs) ∷ overwrite w.length_list 0 (span_lengths w) ∷ []) (entries_alike e))
          go false e = rw (← answer_alike, e)

      same_walk : SamePlace m past past' (walk w) (walk v)
      unfolding walk_fetches
      same_walk = record { answer = answer_alike; lists = lists_alike; run = rw (checks_same m w scratch window room size) P.run }

    same_walk_of : agree (gathered (told firsts past (place_events m (walk w)))) (gathered (told firsts past' (place_events m (walk v)))) ≡ true
        → SamePlace m past past' (walk w) (walk v)
    unfolding walk_fetches
    same_walk_of agreed = same_walk (pair m w scratch window room size past past' known S (rw (checks_same m w scratch window room size) at agreed))

  same_place : (p q : Place) → common_at p ≡ common_at q
      → agree (gathered (told firsts past (place_events m p))) (gathered (told firsts past' (place_events m q))) ≡ true → SamePlace m past past' p q
  unfolding common_at
  same_place (plain p) (plain q) e agreed = same_plain p q (cc) agreed
  same_place (plain p) (walk v) e agreed = let z : ◌≡◌ {A = ℕ} 0 1 = cc in absurd (omega arith)
  same_place (walk w) (plain q) e agreed = let z : ◌≡◌ {A = ℕ} 0 1 = cc in absurd (omega arith)
  same_place (walk w) (walk u) e agreed =
      subst (λ (v : Walk). agree (gathered (told firsts past (place_events m (walk w)))) (gathered (told firsts past' (place_events m (walk v)))) ≡ true
      → SamePlace m past past' (walk w) (walk v)) (bytes_apart w u e)
      (same_walk_of w u.scratch u.window (scratch_size w u e) (window_size w u e)) agreed

-- what two lists have in common, place by place
data Steps : Machine → List Place → List Place → Type 0 where
  done : {m : Machine} → Steps m [] []
  next : {m : Machine} {p q : Place} {ps qs : List Place} {past past' : List Event} → SamePlace m past past' p q → Steps (place_after m p) ps qs
      → Steps m (p ∷ ps) (q ∷ qs)

leaves_same : {m : Machine} {past past' : List Event} {p q : Place} → SamePlace m past past' p q → place_after m p ≡ place_after m q
leaves_same {m} {past} {past'} {p} {q} P = after_calls m p ∙ P.run.leaves ∙ sym (after_calls m q)

steps :
    (past past' : List Event) (m : Machine) → memory past ≡ memory past' → Sound m (memory past) → (ps qs : List Place) → map common_at ps ≡ map common_at qs
    → agreeing (firsts_at past m ps) (firsts_at past' m qs) ≡ true → Steps m ps qs
unfolding firsts_at agreeing
steps past past' m known S [] [] e agreed = done
steps past past' m known S [] (q ∷ qs) e agreed = absurd (omega (arith, ap length e))
steps past past' m known S (p ∷ ps) [] e agreed = absurd (omega (arith, ap length e))
steps past past' m known S (p ∷ ps) (q ∷ qs) e agreed =
    let es = place_events m p in
    let es' = place_events m q in
    let fs = gathered (told firsts past es) in
    let gs = gathered (told firsts past' es') in
    let rest = agreeing (firsts_at (backwards past es) (place_after m p) ps) (firsts_at (backwards past' es') (place_after m q) qs) in
    let P = same_place m past past' known S p q (cons_head e) (and_left (agree fs gs) rest agreed) in
    next P
    (steps (backwards past es) (backwards past' es') (place_after m p) P.run.remembered (rw (after_calls m p) (sound_ran past m (calls_at m p) S)) ps qs
    (cons_tail e) (rw (← leaves_same P) at (and_right (agree fs gs) rest agreed)))

-- what is the same at each place is the same along the lists
module _ {A : Type 0} (f : Machine → Place → A)
    (at_each : (m : Machine) (past past' : List Event) (p q : Place) → SamePlace m past past' p q → f m p ≡ f m q) where
  throughout_same : {m : Machine} {ps qs : List Place} → Steps m ps qs → throughout f m ps ≡ throughout f m qs
  unfolding throughout
  throughout_same done = refl
  throughout_same (next {m} {p} {q} {ps} {qs} P rest) =
      ap₂ ◌∷◌ (at_each _ _ _ _ _ P) (throughout_same rest ∙ ap (λ (j : Machine). throughout f j qs) (leaves_same P))

map_throughout : {A B : Type 0} (g : A → B) (f : Machine → Place → A) (m : Machine) (ps : List Place)
    → map g (throughout f m ps) ≡ throughout (λ k p. g (f k p)) m ps
unfolding throughout
map_throughout g f m [] = refl
map_throughout g f m (p ∷ ps) = ap (λ (rest : List _). g (f m p) ∷ rest) (map_throughout g f (place_after m p) ps)

pub equal_walks : EqualWalksRule
equal_walks store ps qs e agreed =
    let T = steps [] [] (start store) refl (sound_start store) ps qs e agreed in
    let answers_of : List Event → List Reply = map (λ d. d.answer) in
    record {
      answers = throughout_same place_says (λ m past past' p q P. P.answer) T;
      events =
          map_throughout answers_of place_events (start store) ps
          ∙ throughout_same (λ m p. answers_of (place_events m p)) (λ m past past' p q P. P.run.answers) T
          ∙ sym (map_throughout answers_of place_events (start store) qs);
      delivered = throughout_same place_delivers (λ m past past' p q P. P.run.delivered) T;
      lists = throughout_same place_lists (λ m past past' p q P. P.lists) T;
      machines = throughout_same place_after (λ m past past' p q P. leaves_same P) T;
    }
