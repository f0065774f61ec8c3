-- Demand 3 (docs/EVIDENCE.md lists the demands), the equal-runs rule, over every two lists of calls that have all in common but the bytes
-- of windows, of host writes and of destinations; and, as a case of it, where they have the destinations in common too.
use Prim.Native.Nat.{ℕ}
use mathlib.Core.Path.{◌≡◌, refl, ap, ap₂, sym, ◌∙◌}
use mathlib.Core.List.{List, [], ◌∷◌, map, map-map}
use mathlib.Core.Bool.{Bool, true, false}
use lib.ListN.{length}
use Rattle.octets.specs.Lists.{overwrite}
use Rattle.octets.proofs.Lists.{cons_head, cons_tail}
use Rattle.state.specs.Records.{in_span, held, span}
use Rattle.state.specs.State.{is_open}
use Rattle.state.specs.Verdict.{accepted}
use Rattle.state.proofs.Laws.{held_joined, map_held}
use Rattle.store.specs.Store.{part_start}
use Rattle.cache.specs.OwnWrite.{own_store}
use Rattle.cache.specs.Runs.{Call, fetch, Machine, start, along, says, state_after, store_after, after}
use Rattle.cache.proofs.Unchanged.{refused_same}
use Rattle.history.specs.Journal.{Deed, deed_of}
use Rattle.history.specs.Firsts.{none, Memory, remember, memory, firsts_by, recall, owed_by}
use Rattle.history.specs.Claims.{common, blank_dest, common_lengths, EqualRunsRule, EqualRunsLengths}
use Rattle.history.proofs.Effects.{old, grown, packed, found, fetch_after, fetch_taken, length_after}
use Rattle.history.proofs.Sound.{Sound, sound_start, sound_after}
use Rattle.history.proofs.Memories.{along_memory, told_memory}
use Rattle.history.proofs.Delivery.{delivery}
use Rattle.history.proofs.Alike.{Alike, begins, fetches, ends, host_writes, own_writes, shows, Alikes, nil, next, alikes, Twin, says_alike, state_alike}
use Rattle.history.proofs.Alike.{View, same, fetching, view}
use Rattle.history.proofs.Values.{value, firsts_values, values_firsts, owed_values, values_owed, values_remember, at_span, in_span_lem}

-- Twins stay twins.

twin_after : {m k : Machine} {p q : Call} → Twin m k → Alike p q → Twin (after m p) (after k q)
twin_after {m} {k} {p} {q} T A = record { state = state_alike T A; size = length_after m p ∙ T.size ∙ sym (length_after k q) }

pub twin : {m k : Machine} → m ≡ k → Twin m k
twin is = record { state = ap (λ (j : Machine). j.state) is; size = ap (λ (j : Machine). length j.store) is }

-- What twins give alike at each call is equal along the whole lists: answers and states, whatever the bytes.

module _ {A : Type 0} (f : Machine → Call → A) (at_each : (m k : Machine) (p q : Call) → Twin m k → Alike p q → f m p ≡ f k q) where
  twins_along : {m k : Machine} {ps qs : List Call} → Twin m k → Alikes ps qs → along f m ps ≡ along f k qs
  unfolding along
  twins_along T nil = refl
  twins_along {m} {k} T (next {p} {q} A As) = ap₂ ◌∷◌ (at_each m k p q T A) (twins_along {m = after m p} {k = after k q} (twin_after T A) As)

-- Where f of two deeds is equal, they leave one memory, and g is equal.

abbrev Carries : {A B : Type 0} → (Memory → Deed → A) → (Memory → Deed → B) → Type 0
Carries f g = (d e : Deed) (mem : Memory) → View d e → f mem d ≡ f mem e → (remember mem d ≡ remember mem e) × (g mem d ≡ g mem e)

module _ {A B : Type 0} (f : Memory → Deed → A) (g : Memory → Deed → B) (carries : Carries f g) where
  carried :
      {m k : Machine} {ps qs : List Call} (mem : Memory) → Twin m k → Alikes ps qs
      → along_memory f mem m ps ≡ along_memory f mem k qs → along_memory g mem m ps ≡ along_memory g mem k qs
  unfolding along_memory
  carried mem T nil e = refl
  carried {m} {k} mem T (next {p} {q} {ps} {qs} A As) e =
      let ok = accepted (says m p) in
      let agree : accepted (says k q) ≡ ok = ap accepted (sym (says_alike T A)) in
      let here = rw agree at e in
      let (remembered, head) = carries (deed_of ok p) (deed_of ok q) mem (view ok A) (cons_head here) in
      rw (agree, ← remembered)
      (ap₂ ◌∷◌ head
      (carried {m = after m p} {k = after k q} (remember mem (deed_of ok p)) (twin_after T A) As (rw (← remembered) at (cons_tail here))))

owed_carries : Carries owed_by firsts_by
unfolding owed_by firsts_by
owed_carries d e mem same h = (refl, refl)
owed_carries d e mem (fetching {c} {a} {n} {w} {v}) h =
    let values = owed_values (mem c) w v (span a n) h in
    (values_remember mem c a n w v values, values_firsts (mem c) w v (span a n) values)

pub firsts_carry : Carries firsts_by owed_by
unfolding owed_by firsts_by
firsts_carry d e mem same h = (refl, refl)
firsts_carry d e mem (fetching {c} {a} {n} {w} {v}) h =
    let values = firsts_values (mem c) w v (span a n) h in
    (values_remember mem c a n w v values, values_owed (mem c) w v (span a n) values)

-- Where the first fetches agree, the stores are equal.

module _ (m : Machine) (mem : Memory) (S : Sound m mem) (c a n : ℕ) (w v : List ℕ) (opened : is_open m.state c ≡ true)
    (values : map (value (mem c) w) (span a n) ≡ map (value (mem c) v) (span a n)) where
  sees_equal : (x : ℕ) → held (grown m c a n) x ≡ true
      → found m c w x ≡ found m c v x
  sees_equal x h = go (held (old m c) x) refl
    where
      go : (b : Bool) → held (old m c) x ≡ b → found m c w x ≡ found m c v x
      go true e = rw e
      go false e =
          let near : in_span a n x ≡ true = rw (held_joined (old m c) a n x, e) at h in
          let unknown : mem c x ≡ none = rw e at (S.known c x opened) in
          let i = in_span_lem a n x near in
          let q = rw unknown at (at_span (value (mem c) w) (value (mem c) v) a n values x i.0 i.1) in
          rw e (ap recall q)

  packed_equal : packed m c a n (found m c w) ≡ packed m c a n (found m c v)
  packed_equal = map_held _ _ (grown m c a n) sees_equal

pub accepted_alike : (m : Machine) (p q : Call) {b : Bool} → Alike p q → accepted (says m p) ≡ b → accepted (says m q) ≡ b
accepted_alike m p q A e = ap accepted (sym (says_alike {m = m} {k = m} {p = p} {q = q} (twin refl) A)) ∙ e

pub stores_alike :
    {m : Machine} {p q : Call} (mem : Memory) (b : Bool) → Sound m mem → Alike p q → accepted (says m p) ≡ b
    → firsts_by mem (deed_of b p) ≡ firsts_by mem (deed_of b q)
    → store_after m p ≡ store_after m q
unfolding firsts_by own_store
stores_alike {m} {p} {q} mem false S A e f = ap (λ (j : Machine). j.store) (refused_same m p e ∙ sym (refused_same m q (accepted_alike m p q A e)))
stores_alike mem true S begins e f = refl
stores_alike {m} mem true S (fetches {c} {a} {n} {t} {u} {w} {v} d k) e f =
    let e' = accepted_alike m (fetch c a n t w) (fetch c a n u v) (fetches d k) e in
    let F = fetch_taken m c a n t w e in
    ap (λ (j : Machine). j.store) (fetch_after m c a n t w e)
    ∙ ap (overwrite m.store (part_start c)) (packed_equal m mem S c a n w v F.opened (firsts_values (mem c) w v (span a n) f))
    ∙ sym (ap (λ (j : Machine). j.store) (fetch_after m c a n u v e'))
stores_alike mem true S ends e f = refl
stores_alike mem true S (host_writes b k) e f = refl
stores_alike mem true S (own_writes k) e f = cc
stores_alike mem true S shows e f = refl

stores_equal :
    {m k : Machine} {ps qs : List Call} (mem : Memory) → m ≡ k → Sound m mem → Alikes ps qs
    → along_memory firsts_by mem m ps ≡ along_memory firsts_by mem k qs → along store_after m ps ≡ along store_after k qs
unfolding along along_memory
stores_equal mem is S nil e = refl
stores_equal {m} {k} mem is S (next {p} {q} {ps} {qs} A As) e =
    let ok = accepted (says m p) in
    let agree : accepted (says k q) ≡ ok = ap accepted (sym (says_alike (twin is) A)) in
    let here = rw agree at e in
    let (remembered, head) = firsts_carry (deed_of ok p) (deed_of ok q) mem (view ok A) (cons_head here) in
    let stores : store_after m p ≡ store_after k q = stores_alike mem ok S A refl (cons_head here) ∙ ap (λ (j : Machine). store_after j q) is in
    ap₂ ◌∷◌ stores
    (stores_equal {m = after m p} {k = after k q} (remember mem (deed_of ok p))
    (λ i. record { state = state_alike (twin is) A i; store = stores i }) (sound_after m mem p ok refl S) As
    (rw (← remembered) at (cons_tail here)))

-- The rule, of equal lengths

pub equal_runs_lengths : EqualRunsLengths
equal_runs_lengths store ps qs e =
    let As = alikes ps qs e in
    let T = twin {m = start store} refl in
    let S = sound_start store in
    let none' = memory [] in
    let answers = twins_along says (λ m k p q. says_alike) T As in
    let owed_ps = delivery (start store) none' ps S in
    let owed_qs = delivery (start store) none' qs S in
    let firsts_ps = told_memory firsts_by [] (start store) ps in
    let firsts_qs = told_memory firsts_by [] (start store) qs in
    record {
      answers = answers;
      states = twins_along state_after (λ m k p q. state_alike) T As;
      exactly = (
        λ h. firsts_ps ∙ carried owed_by firsts_by owed_carries none' T As (sym owed_ps ∙ h.1 ∙ owed_qs) ∙ sym firsts_qs,
        λ h. (answers, owed_ps ∙ carried firsts_by owed_by firsts_carry none' T As (sym firsts_ps ∙ h ∙ firsts_qs) ∙ sym owed_qs),
      );
      stores = λ h. stores_equal none' refl S As (sym firsts_ps ∙ h ∙ firsts_qs);
    }

-- and so of equal destinations
common_lengths_lem : (ps : List Call) → map common_lengths ps ≡ map blank_dest (map common ps)
common_lengths_lem ps = sym (map-map blank_dest common ps)

pub equal_runs : EqualRunsRule
equal_runs store ps qs e = equal_runs_lengths store ps qs (common_lengths_lem ps ∙ ap (map blank_dest) e ∙ sym (common_lengths_lem qs))
