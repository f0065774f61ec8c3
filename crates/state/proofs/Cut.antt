-- Laws of addresses that part the records, and that the joined record reaches from one to another.
use Prim.Native.Nat.{ℕ, zero, suc, ◌+◌, ◌-◌, ◌≤◌, ◌<◌, max}
use native.Mathlib.Omega.{arith}
use native.Mathlib.Nat.{not-suc-le-zero}
use mathlib.Core.Path.{◌≡◌, refl, sym, ap, subst, ◌∙◌}
use mathlib.Core.List.{List, [], ◌∷◌, ◌++◌}
use mathlib.Core.Bool.{Bool, true, false, false≢true, ◌||◌, or-true}
use lib.Dec.{ltb, leb}
use lib.ListN.{length, take, drop, get_or, length-drop, take-append-drop, drop_of_length-le}
use lib.Seq.{drop-cons, take-suc, get_or-drop}
use borrow.Author.Tests.{ltb-true, ltb-false, leb-true, leb-false}
use Rattle.octets.proofs.Lists.{and_left, and_right}
use Rattle.state.specs.declared.Record.{Record}
use Rattle.state.specs.declared.Meeting.{Meeting}
use Rattle.state.specs.Records.{past, in_span, held, total, place, highest, fresh}
use Rattle.state.specs.State.{no_record, ascending}
use Rattle.state.specs.Cut.{Parted, PartedPlace, PartedFree, Cut}
use Rattle.state.proofs.Cases.{Ascends, ascends, back_ascends, ascending_from, ascending_lower, inside as within, above}
use Rattle.state.proofs.Merge.{between}
use Rattle.state.proofs.Places.{place_all, place_low, held_low, fresh_place, place_middle, middle_above}
use Rattle.state.proofs.Laws.{held_joined, ascending_joined, total_append}
use Rattle.state.proofs.Found.{Found}

unless : {a b : ℕ} → (b < a → ⊥) → a ≤ b
unless {a} {b} under = go (leb a b) refl
  where
    go : (t : Bool) → leb a b ≡ t → a ≤ b
    go true e = leb-true _ _ e
    go false e = absurd (under (leb-false _ _ e))

-- Lists of records put together

held_append : (rs ts : List Record) (x : ℕ) → held rs x ≡ false → held (rs ++ ts) x ≡ held ts x
unfolding held
held_append [] ts x h = refl
held_append (r ∷ rs) ts x h = go (in_span r.start r.len x) h (held_append rs ts x)
  where
    go : (b : Bool) → (b || held rs x) ≡ false → (held rs x ≡ false → held (rs ++ ts) x ≡ held ts x) → (b || held (rs ++ ts) x) ≡ held ts x
    go true k ih = absurd (false≢true (sym k))
    go false k ih = ih k

held_next : (r : Record) (rs : List Record) (x : ℕ) → in_span r.start r.len x ≡ false → held (r ∷ rs) x ≡ held rs x
unfolding held
held_next r rs x h = rw h

held_middle : (rs : List Record) (r : Record) (ts : List Record) (x : ℕ) → in_span r.start r.len x ≡ true → held (rs ++ r ∷ ts) x ≡ true
unfolding held
held_middle [] r ts x h = rw h
held_middle (t ∷ rs) r ts x h = rw (held_middle rs r ts x h, or-true)

place_append : (rs ts : List Record) (x : ℕ) → place (rs ++ ts) x ≡ place rs x + place ts x
unfolding place
place_append [] ts x = omega arith
place_append (r ∷ rs) ts x = omega (arith, place_append rs ts x)

-- Behind all of a list

held_over : (e : ℕ) (rs : List Record) (x : ℕ) → highest e rs ≤ x → held rs x ≡ false
unfolding held highest
held_over e [] x h = refl
held_over e (r ∷ rs) x h = rw (above r x (omega arith)) (held_over e rs x (omega arith))

place_over : (e : ℕ) (rs : List Record) (x : ℕ) → highest e rs ≤ x → place rs x ≡ total rs
unfolding place total highest
place_over e [] x h = refl
place_over e (r ∷ rs) x h = omega (arith, place_all r x (omega arith), place_over e rs x (omega arith))

highest_append : (e : ℕ) (rs : List Record) (r : Record) → highest e (rs ++ r ∷ []) ≡ max (highest e rs) (max (past r) e)
unfolding highest
highest_append e [] r = omega arith
highest_append e (t ∷ rs) r = omega (arith, highest_append e rs r)

front_ends : (e lo : ℕ) (xs : List Record) (r : Record) (ys : List Record) → e ≤ lo → ascending lo (xs ++ r ∷ ys) ≡ true → highest e xs ≤ r.start
unfolding highest
front_ends e lo [] r ys low up = omega (arith, ascends lo r ys up)
front_ends e lo (t ∷ xs) r ys low up =
    let u = ascends lo t (xs ++ r ∷ ys) up in
    omega (arith, middle_above (suc (past t)) xs r ys u.rest, front_ends e (suc (past t)) xs r ys (omega arith) u.rest)

starts_above : (lo : ℕ) (rs : List Record) (i : ℕ) → ascending lo rs ≡ true → i < length rs → lo ≤ (get_or rs i no_record).start
starts_above lo [] i up h = absurd (not-suc-le-zero h)
starts_above lo (r ∷ rs) zero up h = (ascends lo r rs up).from
starts_above lo (r ∷ rs) (suc i) up h =
    let u = ascends lo r rs up in
    omega (arith, starts_above (suc (past r)) rs i u.rest (omega arith))

-- What an address that parts the records tells

module _ (rs : List Record) (q x : ℕ) (P : Parted rs q x) where
  whole : take q rs ++ drop q rs ≡ rs
  whole = take-append-drop q rs

  place_parted : place rs x ≡ total (take q rs)
  place_parted =
      ap (λ (l : List Record). place l x) (sym whole) ∙ place_append (take q rs) (drop q rs) x
      ∙ omega (arith, place_over 0 (take q rs) x P.before, place_low x (drop q rs) x P.behind (omega arith))

  -- no record starts before it but the first q
  pub parted_low : (i : ℕ) → q ≤ i → i < length rs → x ≤ (get_or rs i no_record).start
  parted_low i h k =
      let e : q + (i - q) ≡ i = omega arith in
      subst (λ (j : ℕ). x ≤ (get_or rs j no_record).start) e
      (subst (λ (r : Record). x ≤ r.start) (get_or-drop q rs (i - q) no_record) (starts_above x (drop q rs) (i - q) P.behind (simp length-drop (omega arith))))

pub parted_place : PartedPlace
parted_place rs q x P = place_parted rs q x P

-- between two of them that part the records alike, nothing is held
pub parted_free : PartedFree
parted_free rs q lo hi P R x h k =
    ap (λ (l : List Record). held l x) (sym (take-append-drop q rs))
    ∙ held_append (take q rs) (drop q rs) x (held_over 0 (take q rs) x (omega (arith, P.before))) ∙ held_low hi (drop q rs) x R.behind k

-- each record starts and ends at such an address, and its bytes stand behind those of the records before it
module _ (rs : List Record) (up : ascending 0 rs ≡ true) (q : ℕ) (inside : q < length rs) where
  abbrev r : Record
  r = get_or rs q no_record

  split_here : take q rs ++ r ∷ drop (suc q) rs ≡ rs
  split_here = ap (λ (l : List Record). take q rs ++ l) (sym (drop-cons rs q no_record inside)) ∙ take-append-drop q rs

  up_here : ascending 0 (take q rs ++ r ∷ drop (suc q) rs) ≡ true
  up_here = ap (ascending 0) split_here ∙ up

  at_record : Ascends r.start r (drop (suc q) rs)
  at_record = back_ascends 0 (take q rs) r (drop (suc q) rs) up_here

  pub parted_start : Parted rs q r.start
  parted_start = record {
    before = front_ends 0 0 (take q rs) r (drop (suc q) rs) (omega arith) up_here;
    behind = ap (ascending r.start) (drop-cons rs q no_record inside) ∙ ascending_from r.start at_record (omega arith);
  }

  upto : highest 0 (take (suc q) rs) ≡ max (highest 0 (take q rs)) (max (past r) 0)
  upto = ap (highest 0) (take-suc rs q no_record inside) ∙ highest_append 0 (take q rs) r

  pub parted_past : Parted rs (suc q) (past r)
  parted_past = record {
    before = omega (arith, upto, parted_start.before);
    behind = ascending_lower (past r) (suc (past r)) (drop (suc q) rs) (omega arith) at_record.rest;
  }

  pub past_below : (x : ℕ) → Parted rs (suc q) x → past r ≤ x
  past_below x P = omega (arith, upto, P.before)

  pub record_total : total (take (suc q) rs) ≡ total (take q rs) + r.len
  unfolding total
  record_total = ap total (take-suc rs q no_record inside) ∙ total_append (take q rs) (r ∷ []) ∙ omega arith

  module _ (i : ℕ) (h : i < r.len) where
    pub record_held : held rs (r.start + i) ≡ true
    record_held =
        ap (λ (l : List Record). held l (r.start + i)) (sym split_here)
        ∙ held_middle (take q rs) r (drop (suc q) rs) (r.start + i) (within r (r.start + i) (omega arith) (omega arith))

    pub record_place : place rs (r.start + i) ≡ total (take q rs) + i
    record_place =
        ap (λ (l : List Record). place l (r.start + i)) (sym split_here)
        ∙ place_middle 0 (take q rs) r (drop (suc q) rs) (r.start + i) up_here (omega arith) (omega arith)
        ∙ omega arith

-- the place moves on by no more than the address
pub place_most : (rs : List Record) (x y : ℕ) → ascending 0 rs ≡ true → x ≤ y → place rs y ≤ place rs x + (y - x)
place_most rs x y up h =
    let e : x + (y - x) ≡ y = omega arith in
    omega (arith, fresh_place 0 rs x (y - x) up, ap (place rs) e)

-- The joined record reaches from one such address to another

module _ (rs : List Record) (a n : ℕ) (m : Meeting) (F : Found rs a (suc n) m) (up : ascending 0 rs ≡ true) (fits : a + suc n ≤ 65536) where
  abbrev u : Record
  u = between m.low m.high

  abbrev rs' : List Record
  rs' = take m.first rs ++ u ∷ drop m.last rs

  up' : ascending 0 rs' ≡ true
  up' = ap (ascending 0) (sym F.joins) ∙ ascending_joined rs a (suc n) up fits

  wide : m.low ≤ m.high
  wide = omega (arith, F.low, F.high)

  front_low : highest 0 (take m.first rs) ≤ m.low
  front_low = front_ends 0 0 (take m.first rs) u (drop m.last rs) (omega arith) up'

  at_union : Ascends m.low u (drop m.last rs)
  at_union = back_ascends 0 (take m.first rs) u (drop m.last rs) up'

  back_high : ascending m.high (drop m.last rs) ≡ true
  back_high =
      let e : past u ≡ m.high = omega (arith, wide) in
      ascending_lower m.high (suc (past u)) (drop m.last rs) (omega arith) at_union.rest

  -- what is held stays held
  stays : (x : ℕ) → held rs x ≡ true → held rs' x ≡ true
  stays x h = ap (λ (l : List Record). held l x) (sym F.joins) ∙ held_joined rs a (suc n) x ∙ rw h

  -- an address behind the front is in the union or behind it
  behind_front : (x : ℕ) → highest 0 (take m.first rs) ≤ x → held rs' x ≡ held (u ∷ drop m.last rs) x
  behind_front x h = held_append (take m.first rs) (u ∷ drop m.last rs) x (held_over 0 (take m.first rs) x h)

  -- the first record that is met starts in the union: its first address is still held
  starts_inside : m.first < length rs → m.low ≤ (get_or rs m.first no_record).start
  starts_inside first = unless (λ under.
      let x = (get_or rs m.first no_record).start in
      let start : x + 0 ≡ x = omega arith in
      let was : held rs x ≡ true = subst (λ (y : ℕ). held rs y ≡ true) start (record_held rs up m.first first 0 (at_record rs up m.first first).some) in
      let behind = u ∷ drop m.last rs in
      let free : held behind x ≡ false = held_low m.low behind x (ascending_from m.low at_union (omega arith)) under in
      let gone = behind_front x (parted_start rs up m.first first).before ∙ free in
      false≢true (sym gone ∙ stays x was))

  -- the last one ends in it: so is its last address
  ends_inside : (k : ℕ) → k < length rs → m.last ≡ suc k → past (get_or rs k no_record) ≤ m.high
  ends_inside k inside is = unless (λ over.
      let r = get_or rs k no_record in
      let x = max m.high r.start in
      let at : r.start + (x - r.start) ≡ x = omega arith in
      let near : x - r.start < r.len = omega (arith, (at_record rs up k inside).some) in
      let was : held rs x ≡ true = subst (λ (y : ℕ). held rs y ≡ true) at (record_held rs up k inside (x - r.start) near) in
      let behind : held (drop m.last rs) x ≡ false
      = ap (λ (j : ℕ). held (drop j rs) x) is ∙ held_low (past r) (drop (suc k) rs) x (parted_past rs up k inside).behind (omega arith) in
      let gone = behind_front x (omega (arith, front_low, wide)) ∙ held_next u (drop m.last rs) x (above u x (omega (arith, wide))) ∙ behind in
      false≢true (sym gone ∙ stays x was))

  lower : Parted rs m.first m.low
  unfolding ascending
  lower = record { before = front_low; behind = go (ltb m.first (length rs)) refl }
    where
      go : (b : Bool) → ltb m.first (length rs) ≡ b → ascending m.low (drop m.first rs) ≡ true
      go true e =
          let first = ltb-true _ _ e in
          ap (ascending m.low) (drop-cons rs m.first no_record first)
          ∙ ascending_from m.low (at_record rs up m.first first) (starts_inside first)
      go false e = ap (ascending m.low) (drop_of_length-le rs {i = m.first} (ltb-false _ _ e))

  upper : Parted rs m.last m.high
  upper = record { before = go m.last refl F.most; behind = back_high }
    where
      go : (k : ℕ) → m.last ≡ k → k ≤ length rs → highest 0 (take k rs) ≤ m.high
      go zero is h = unfold highest in omega arith
      go (suc k) is h = omega (arith, upto rs up k h, (parted_start rs up k h).before, ends_inside k h is)

  -- an address of the union that was not held is in the span
  only_span : (x : ℕ) → m.low ≤ x → x < m.high → held rs x ≡ false → (a ≤ x) × (x < a + suc n)
  only_span x h k none =
      let inside' : held rs' x ≡ true = held_middle (take m.first rs) u (drop m.last rs) x (within u x h (omega (arith, wide))) in
      let here : held rs' x ≡ in_span a (suc n) x = ap (λ (l : List Record). held l x) (sym F.joins) ∙ held_joined rs a (suc n) x ∙ rw none in
      let near : in_span a (suc n) x ≡ true = sym here ∙ inside' in
      (leb-true a x (and_left (leb a x) (ltb x (a + suc n)) near), ltb-true x (a + suc n) (and_right (leb a x) (ltb x (a + suc n)) near))

  pub cut_found : Cut rs m (fresh rs a (suc n)) a (a + suc n)
  cut_found = record {
    up = up;
    order = F.order;
    most = F.most;
    wide = wide;
    lower = lower;
    upper = upper;
    below = F.below;
    bytes = omega (arith, F.held);
    counts = F.counts;
    inside = only_span;
  }

-- where what is not held lies in a span, it lies in every wider one
pub cut_wider : (rs : List Record) (m : Meeting) (fresh a e a' e' : ℕ) → Cut rs m fresh a e → a' ≤ a → e ≤ e' → Cut rs m fresh a' e'
cut_wider rs m fresh a e a' e' C h k = record {
  up = C.up;
  order = C.order;
  most = C.most;
  wide = C.wide;
  lower = C.lower;
  upper = C.upper;
  below = C.below;
  bytes = C.bytes;
  counts = C.counts;
  inside = λ x i j none. let near = C.inside x i j none in (omega arith, omega arith);
}
