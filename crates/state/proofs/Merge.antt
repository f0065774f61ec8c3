-- The records after a span is joined, with the reach of the union as two numbers that grow from record to record.
use Prim.Native.Nat.{ℕ, suc, ◌+◌, ◌-◌, ◌≤◌, ◌<◌, min, max}
use mathlib.Core.Path.{◌≡◌, refl, ap, ◌∙◌}
use mathlib.Core.List.{List, [], ◌∷◌, ◌++◌}
use mathlib.Core.Bool.{Bool, true, false, cond, ◌&&◌, ◌||◌, or_assoc, or-false, and-eq-true_iff}
use native.Mathlib.Omega.{arith}
use lib.Dec.{ltb, leb}
use borrow.Author.Tests.{lt-ltb, le-leb}
use Rattle.octets.proofs.Lists.{both}
use Rattle.state.specs.declared.Record.{Record}
use Rattle.state.specs.Records.{past, in_span, held, total, place, keep, meets as meetsSpan, earlier, later, lowest, highest}
use Rattle.state.specs.State.{ascending}
use Rattle.state.specs.Claims.{UnionCovers}
use Rattle.state.proofs.Cases.{Side, before, meets, after, side, Lies, over, within, beneath, lies, Ascends, ascends, ascending_cons, ascending_from}
use Rattle.state.proofs.Cases.{leb_same, leb_iff, inside, below, above}
use Rattle.state.proofs.Parts.{met, first_before, first_meets, first_behind, all_behind}
use Rattle.state.proofs.Places.{place_all, place_none, place_low, place_max}

-- the record from l to h
abbrev pub between : ℕ → ℕ → Record
between l h = record { start = l; len = h - l }

-- the records with the span from a to e joined, where the union so far reaches from l to h: `joined` is the case l = a, h = e
unfoldable pub merged : ℕ → ℕ → List Record → ℕ → ℕ → List Record
merged a e rs l h = earlier a rs ++ between (lowest l (met a e rs)) (highest h (met a e rs)) ∷ later e rs

-- a bound that a first record widens
pub lowest_min : (s l : ℕ) (rs : List Record) → lowest (min s l) rs ≡ min s (lowest l rs)
unfolding lowest
lowest_min s l [] = refl
lowest_min s l (r ∷ rs) = omega (arith, lowest_min s l rs)

pub highest_max : (p h : ℕ) (rs : List Record) → highest (max p h) rs ≡ max p (highest h rs)
unfolding highest
highest_max p h [] = refl
highest_max p h (r ∷ rs) = omega (arith, highest_max p h rs)

-- the union covers the span
pub lowest_under : (a : ℕ) (rs : List Record) → lowest a rs ≤ a
unfolding lowest
lowest_under a [] = omega arith
lowest_under a (r ∷ rs) = omega (arith, lowest_under a rs)

pub highest_over : (e : ℕ) (rs : List Record) → e ≤ highest e rs
unfolding highest
highest_over e [] = omega arith
highest_over e (r ∷ rs) = omega (arith, highest_over e rs)

or_left : (p q t : Bool) → (p || (q || t)) ≡ (q || (p || t))
or_left true true t = refl
or_left true false t = refl
or_left false true t = refl
or_left false false t = refl

-- a record in the middle of a list counts as if it stood in front
held_middle : (rs : List Record) (u r : Record) (ts : List Record) (x : ℕ) → held (rs ++ u ∷ r ∷ ts) x ≡ (in_span r.start r.len x || held (rs ++ u ∷ ts) x)
unfolding held
held_middle [] u r ts x = or_left (in_span u.start u.len x) (in_span r.start r.len x) (held ts x)
held_middle (t ∷ rs) u r ts x = rw (held_middle rs u r ts x) (or_left (in_span t.start t.len x) (in_span r.start r.len x) (held (rs ++ u ∷ ts) x))

total_middle : (rs : List Record) (u r : Record) (ts : List Record) → total (rs ++ u ∷ r ∷ ts) ≡ r.len + total (rs ++ u ∷ ts)
unfolding total
total_middle [] u r ts = omega arith
total_middle (t ∷ rs) u r ts = omega (arith, total_middle rs u r ts)

-- an address is within the union of two that overlap exactly if it is in one of them
within_hull : (r : Record) (l h x : ℕ) → r.start ≤ h → l ≤ past r
    → (leb (min r.start l) x && ltb x (max (past r) h)) ≡ (in_span r.start r.len x || (leb l x && ltb x h))
within_hull r l h x j k = go (lies x r)
  where
    go : Lies x r → (leb (min r.start l) x && ltb x (max (past r) h)) ≡ (in_span r.start r.len x || (leb l x && ltb x h))
    go (over t) =
        rw (above r x t, leb_same (min r.start l) x l x (omega arith) (omega arith), leb_same (suc x) (max (past r) h) (suc x) h (omega arith) (omega arith))
    go (within s t) = rw (inside r x (omega arith) t) (both (le-leb (min r.start l) x (omega arith)) (lt-ltb x (max (past r) h) (omega arith)))
    go (beneath t) =
        rw (below r x t, leb_same (min r.start l) x l x (omega arith) (omega arith), leb_same (suc x) (max (past r) h) (suc x) h (omega arith) (omega arith))

-- the union of a span and the records that it meets covers these addresses, and no other
hull_covers : (a n x : ℕ) (rs : List Record)
    → (leb (lowest a (keep (meetsSpan a n) rs)) x && ltb x (highest (a + n) (keep (meetsSpan a n) rs)))
    ≡ (in_span a n x || held (keep (meetsSpan a n) rs) x)
unfolding keep lowest highest held
hull_covers a n x [] = rw or-false
hull_covers a n x (r ∷ rs) = go (keep (meetsSpan a n) rs) (meetsSpan a n r) refl (hull_covers a n x rs)
  where
    go : (rest : List Record) (b : Bool) → meetsSpan a n r ≡ b → (leb (lowest a rest) x && ltb x (highest (a + n) rest)) ≡ (in_span a n x || held rest x)
        → (leb (lowest a (cond b (r ∷ rest) rest)) x && ltb x (highest (a + n) (cond b (r ∷ rest) rest)))
        ≡ (in_span a n x || held (cond b (r ∷ rest) rest) x)
    go rest true e ih =
        let m = simp (and-eq-true_iff, leb_iff) at e in
        within_hull r (lowest a rest) (highest (a + n) rest) x (omega (arith, highest_over (a + n) rest)) (omega (arith, lowest_under a rest))
        ∙ ap (λ (b : Bool). in_span r.start r.len x || b) ih ∙ or_left (in_span r.start r.len x) (in_span a n x) (held rest x)
    go rest false e ih = ih

pub union_covers : UnionCovers
union_covers rs a n x =
    let met = keep (meetsSpan a n) rs in
    let size : lowest a met + (highest (a + n) met - lowest a met) ≡ highest (a + n) met
    = omega (arith, lowest_under a met, highest_over (a + n) met) in
    rw size (hull_covers a n x rs)

-- the union's length is what both have, less what they share
overlap : (r : Record) (l h : ℕ) → r.start ≤ h → l ≤ past r → l ≤ h
    → max (past r) h + min r.len (h - r.start) + l ≡ r.len + h + min r.len (l - r.start) + min r.start l
overlap r l h j k i = omega arith

-- How far the union may reach when the records from lo on are still to come. It covers the span, and it begins with the span
-- unless those records lie above a, and ends with the span or else below lo.
pub record Reach (a e lo l h : ℕ) : Type 0 where
  pub low : l ≤ a
  pub high : e ≤ h
  pub met_low : a ≤ max l (lo - 1)
  pub met_high : h ≤ max e (lo - 1)

module _ (a e : ℕ) (wide : a < e) where
  -- the clauses of a walk over the records: none is left, the first is before the span, or it meets the span and widens the union
  pub merged_nil : (l h : ℕ) → merged a e [] l h ≡ between l h ∷ []
  unfolding merged keep lowest highest
  merged_nil l h = refl

  pub merged_before : (r : Record) (rs : List Record) (l h : ℕ) → past r < a → merged a e (r ∷ rs) l h ≡ r ∷ merged a e rs l h
  unfolding merged
  merged_before r rs l h k = let P = first_before a e (omega arith) r rs k in rw (P.before, P.meeting, P.behind)

  pub merged_meets : (r : Record) (rs : List Record) (l h : ℕ) → r.start ≤ e → a ≤ past r
      → merged a e (r ∷ rs) l h ≡ merged a e rs (min r.start l) (max (past r) h)
  unfolding merged lowest highest
  merged_meets r rs l h j k =
      let P = first_meets a e (omega arith) r rs j k in
      rw (P.before, P.meeting, P.behind, lowest_min, highest_max)

  -- a record after the span stays, behind the union
  merged_after : (r : Record) (rs : List Record) (l h : ℕ) → e < r.start
      → merged a e (r ∷ rs) l h ≡ earlier a rs ++ between (lowest l (met a e rs)) (highest h (met a e rs)) ∷ r ∷ later e rs
  unfolding merged
  merged_after r rs l h k = let P = first_behind a e (omega arith) r rs k in rw (P.before, P.meeting, P.behind)

  -- where the records begin after the span, all of them do
  pub merged_past : (lo : ℕ) (rs : List Record) (l h : ℕ) → ascending lo rs ≡ true → e < lo → merged a e rs l h ≡ between l h ∷ rs
  unfolding merged lowest highest
  merged_past lo rs l h up k = let P = all_behind a e (omega arith) lo rs up k in rw (P.before, P.meeting, P.behind)

  pub held_merged : (rs : List Record) (l h x : ℕ) → l ≤ a → e ≤ h → held (merged a e rs l h) x ≡ (held rs x || (leb l x && ltb x h))
  unfolding held
  held_merged [] l h x low high = let w : l + (h - l) ≡ h = omega arith in rw (merged_nil, w, or-false)
  held_merged (r ∷ rs) l h x low high = go (side a e r) (held_merged rs l h x low high) (held_merged rs (min r.start l) (max (past r) h) x)
    where
      go : Side a e r → held (merged a e rs l h) x ≡ (held rs x || (leb l x && ltb x h))
          → (min r.start l ≤ a → e ≤ max (past r) h
          → held (merged a e rs (min r.start l) (max (past r) h)) x ≡ (held rs x || (leb (min r.start l) x && ltb x (max (past r) h))))
          → held (merged a e (r ∷ rs) l h) x ≡ (held (r ∷ rs) x || (leb l x && ltb x h))
      go (before k) same wider = rw (merged_before, or_assoc, same)
      go (meets j k) same wider =
          rw (merged_meets r rs l h j k, wider (omega arith) (omega arith), within_hull r l h x (omega arith) (omega arith), or_assoc)
          (or_left (held rs x) (in_span r.start r.len x) (leb l x && ltb x h))
      go (after k) same wider = unfold merged in rw (merged_after r rs l h k, held_middle, or_assoc, same)

  pub ascending_merged : (floor lo : ℕ) (rs : List Record) (l h : ℕ) → ascending lo rs ≡ true → Reach a e lo l h → floor ≤ lo → floor ≤ l → h ≤ 65536
      → ascending floor (merged a e rs l h) ≡ true
  ascending_merged floor lo [] l h up reach under low fits =
      rw merged_nil (ascending_cons (record { from = omega arith; some = omega arith; fits = omega arith; rest = unfold ascending in refl }))
  ascending_merged floor lo (r ∷ rs) l h up reach under low fits =
      let u = ascends lo r rs up in
      go u (side a e r) (λ f l' h'. ascending_merged f (suc (past r)) rs l' h' u.rest)
    where
      go : Ascends lo r rs → Side a e r
          → ((f l' h' : ℕ) → Reach a e (suc (past r)) l' h' → f ≤ suc (past r) → f ≤ l' → h' ≤ 65536 → ascending f (merged a e rs l' h') ≡ true)
          → ascending floor (merged a e (r ∷ rs) l h) ≡ true
      go u (before k) ih =
          let behind = ih (suc (past r)) l h (omega arith) (omega arith) (omega arith) fits in
          rw merged_before (ascending_cons (record { from = omega arith; some = u.some; fits = u.fits; rest = behind }))
      go u (meets j k) ih =
          rw (merged_meets r rs l h j k) (ih floor (min r.start l) (max (past r) h) (omega arith) (omega arith) (omega arith) (omega arith))
      go u (after k) ih =
          rw (merged_past r.start (r ∷ rs) l h (ascending_from _ u (omega arith)) k)
          (ascending_cons (record { from = low; some = omega arith; fits = omega arith; rest = ascending_from _ u (omega arith) }))

  pub total_merged : (lo : ℕ) (rs : List Record) (l h : ℕ) → ascending lo rs ≡ true → Reach a e lo l h
      → total (merged a e rs l h) + place rs h + l ≡ total rs + h + place rs l
  unfolding total place
  total_merged lo [] l h up reach = rw merged_nil (omega arith)
  total_merged lo (r ∷ rs) l h up reach =
      let u = ascends lo r rs up in
      go u (side a e r) (λ l' h'. total_merged (suc (past r)) rs l' h' u.rest)
    where
      go : Ascends lo r rs → Side a e r
          → ((l' h' : ℕ) → Reach a e (suc (past r)) l' h' → total (merged a e rs l' h') + place rs h' + l' ≡ total rs + h' + place rs l')
          → total (merged a e (r ∷ rs) l h) + place (r ∷ rs) h + l ≡ total (r ∷ rs) + h + place (r ∷ rs) l
      go u (before k) ih =
          let far : past r ≤ l = omega arith in
          rw (merged_before, place_all r h (omega arith), place_all r l far) (omega (arith, ih l h (omega arith)))
      go u (meets j k) ih =
          let m = ih (min r.start l) (max (past r) h) (omega arith) in
          let high = place_max (past r) (suc (past r)) rs h u.rest (omega arith) in
          let low = place_low (suc (past r)) rs l u.rest (omega arith) in
          let low' = place_low (suc (past r)) rs (min r.start l) u.rest (omega arith) in
          rw (merged_meets r rs l h j k) (omega (arith, overlap r l h (omega arith) (omega arith) (omega arith)))
      go u (after k) ih =
          let under : h ≤ r.start = omega arith in
          rw (merged_after r rs l h k, total_middle, place_none r h under, place_none r l (omega arith)) (unfold merged in omega (arith, ih l h (omega arith)))
