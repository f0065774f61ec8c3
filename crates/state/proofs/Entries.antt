-- The code's entries, with the union put in, are those of the joined records: this ties `spliced` to `joined`.
use Prim.Native.Nat.{ℕ, zero, suc, ◌+◌, ◌-◌, ◌%◌, ◌≤◌, ◌<◌, min}
use native.Mathlib.Omega.{arith}
use mathlib.Core.Path.{◌≡◌, refl, ap, sym, ◌∙◌}
use mathlib.Core.List.{List, [], ◌∷◌, ◌++◌}
use mathlib.Core.Bool.{Bool, true, false, cond}
use lib.Dec.{ltb, eqb}
use lib.ListN.{length, take, drop, get_or, replicate, length-append, length-take, length-drop, take-append-drop, get_or-append, get_or-eq_default}
use lib.Seq.{length-take-le, get_or-take, get_or-drop, ext_get_or}
use borrow.Author.Tests.{ltb-true, ltb-false, eqb-true, eqb-false}
use Rattle.octets.proofs.Lists.{get_d_past_lem}
use Rattle.state.specs.declared.Record.{Record}
use Rattle.state.specs.declared.Meeting.{Meeting}
use Rattle.state.specs.Limits.{record_limit, window_limit}
use Rattle.state.specs.Records.{total, place, fresh, joined}
use Rattle.state.specs.State.{CommandState, no_record, open_with, records_in, ascending}
use Rattle.state.specs.Join.{union_of, entry_after, changed_up_to, meeting, spliced, Room}
use Rattle.state.proofs.Commands.{kept_command, open_with_padded, length_open_with}
use Rattle.state.proofs.Merge.{between}
use Rattle.state.proofs.Laws.{ascending_joined, total_append}
use Rattle.state.proofs.Places.{place_middle}
use Rattle.state.proofs.Search.{entry_before, entry_union, entry_behind}
use Rattle.state.proofs.Splice.{changed_within, wanted, written, wanted_size, wanted_at, back_written, is_spliced}
use Rattle.state.proofs.Found.{Found, found}

-- entries that only pad a list are the default
padded : {A : Type 0} (l : List A) (k i : ℕ) (d : A) → get_or (l ++ replicate k d) i d ≡ get_or l i d
padded [] zero i d = refl
padded [] (suc k) zero d = refl
padded [] (suc k) (suc i) d = padded [] k i d
padded (x ∷ l) k zero d = refl
padded (x ∷ l) k (suc i) d = padded l k i d

-- the records with the union put in, one by one
module _ (rs : List Record) (i j : ℕ) (u : Record) (order : i ≤ length rs) where
  abbrev put : List Record
  put = take i rs ++ u ∷ drop j rs

  put_before : (k : ℕ) → k < i → get_or put k no_record ≡ get_or rs k no_record
  put_before k h = get_or-append (take i rs) (u ∷ drop j rs) no_record k (omega (arith, length-take-le i rs order)) ∙ get_or-take i rs k no_record h

  put_union : (k : ℕ) → k ≡ i → get_or put k no_record ≡ u
  put_union k h = ap (λ (n : ℕ). get_or put n no_record) (omega arith) ∙ get_d_past_lem (take i rs) (u ∷ drop j rs) i 0 no_record (length-take-le i rs order)

  put_behind : (k : ℕ) → i < k → get_or put k no_record ≡ get_or rs (j + (k - suc i)) no_record
  put_behind k h =
      ap (λ (n : ℕ). get_or put n no_record) (omega arith)
      ∙ get_d_past_lem (take i rs) (u ∷ drop j rs) i (suc (k - suc i)) no_record (length-take-le i rs order)
      ∙ get_or-drop j rs (k - suc i) no_record

-- what 23 and 24 are judged by
module _ (rs : List Record) (a n : ℕ) (up : ascending 0 rs ≡ true) where
  pub fresh_found : (meeting rs a (a + suc n)).high - (meeting rs a (a + suc n)).low - (meeting rs a (a + suc n)).held ≡ fresh rs a (suc n)
  fresh_found = omega (arith, (found rs a n up).counts)

  pub count_found : (meeting rs a (a + suc n)).first + 1 + (length rs - (meeting rs a (a + suc n)).last) ≡ length (joined rs a (suc n))
  count_found =
      let m = meeting rs a (a + suc n) in
      let F = found rs a n up in
      sym (
      ap length F.joins
      ∙ simp (length-append, length-take-le m.first rs (omega (arith, F.order, F.most)), length-drop) (omega arith)
      )

module _ (p : CommandState) (a n : ℕ) (R : Room p a (suc n)) (size : length p.records ≡ record_limit) where
  abbrev rs : List Record
  rs = records_in p

  abbrev m : Meeting
  m = meeting rs a (a + suc n)

  F : Found rs a (suc n) m
  F = found rs a n (kept_command p R.whole).up

  -- the union fits its 16 bits
  union_exact : union_of m ≡ between m.low m.high
  union_exact =
      let parts = total_append (take m.last rs) (drop m.last rs) in
      let whole = ap total (take-append-drop m.last rs) in
      let start : m.low % 65536 ≡ m.low = omega (arith, F.low, R.fits) in
      let len : (m.high - m.low) % 65536 ≡ m.high - m.low = omega (arith, F.counts, F.held, R.bytes) in
      λ i. record { start = start i; len = len i }

  abbrev rs' : List Record
  rs' = take m.first rs ++ between m.low m.high ∷ drop m.last rs

  own : (i : ℕ) → get_or p.records i no_record ≡ get_or rs i no_record
  own i = ap (λ (l : List Record). get_or l i no_record) (open_with_padded p (kept_command p R.whole) size) ∙ padded rs (record_limit - length rs) i no_record

  entry : (k : ℕ) → entry_after p.records m k ≡ get_or rs' k no_record
  entry k = go (ltb k m.first) refl (eqb k m.first) refl
    where
      inside : m.first ≤ length rs
      inside = omega (arith, F.order, F.most)

      go : (b : Bool) → ltb k m.first ≡ b → (d : Bool) → eqb k m.first ≡ d → entry_after p.records m k ≡ get_or rs' k no_record
      go true h d i =
          let below = ltb-true _ _ h in
          entry_before p.records m k below ∙ own k ∙ sym (put_before rs m.first m.last (between m.low m.high) inside k below)
      go false h true i =
          let is = eqb-true _ _ i in
          entry_union p.records m k is ∙ union_exact ∙ sym (put_union rs m.first m.last (between m.low m.high) inside k is)
      go false h false i =
          let above : m.first < k = omega (arith, ltb-false k m.first h, eqb-false k m.first i) in
          entry_behind p.records m k above ∙ own (m.last + (k - suc m.first))
          ∙ sym (put_behind rs m.first m.last (between m.low m.high) inside k above)

  -- the entries that are not written stay: each keeps its place, or is unused before and after
  unchanged : (k : ℕ) → changed_up_to (length rs) m ≤ k → k < record_limit → entry_after p.records m k ≡ get_or p.records k no_record
  unfolding changed_up_to
  unchanged k = go (eqb m.last (m.first + 1)) refl
    where
      at : m.first < k → entry_after p.records m k ≡ get_or rs (m.last + (k - suc m.first)) no_record
      at above = entry_behind p.records m k above ∙ own (m.last + (k - suc m.first))

      go : (b : Bool) → eqb m.last (m.first + 1) ≡ b → cond b m.last (min (length rs + 1) record_limit) ≤ k → k < record_limit
          → entry_after p.records m k ≡ get_or p.records k no_record
      go true e behind below =
          let one = eqb-true m.last (m.first + 1) e in
          at (omega arith) ∙ ap (λ (i : ℕ). get_or rs i no_record) (omega arith) ∙ sym (own k)
      go false e behind below =
          let far : length rs ≤ m.last + (k - suc m.first) = omega (arith, F.order, F.most) in
          at (omega (arith, F.order, F.most)) ∙ get_or-eq_default rs no_record far ∙ sym (own k ∙ get_or-eq_default rs no_record (omega arith))

  pub spliced_joined : spliced p m ≡ open_with (joined rs a (suc n))
  spliced_joined = sym (is_spliced p m true (length (joined rs a (suc n))) (open_with (joined rs a (suc n))).records (sym R.opened) count entries)
    where
      count : length (joined rs a (suc n)) ≡ m.first + 1 + (length rs - m.last)
      count = sym (count_found rs a n (kept_command p R.whole).up)

      at_each : (k : ℕ) → k < length (open_with (joined rs a (suc n))).records
          → get_or (open_with (joined rs a (suc n))).records k no_record ≡ get_or (wanted p m) k no_record
      at_each k h =
          padded (joined rs a (suc n)) (record_limit - length (joined rs a (suc n))) k no_record
          ∙ ap (λ (l : List Record). get_or l k no_record) F.joins
          ∙ sym (entry k) ∙ sym (wanted_at p m k (omega (arith, length_open_with (joined rs a (suc n)) R.few)))

      entries : (open_with (joined rs a (suc n))).records ≡ written p m (changed_up_to (length rs) m)
      entries =
          let sizes = length_open_with (joined rs a (suc n)) R.few ∙ sym (wanted_size p m) in
          let within = changed_within (length rs) m (omega (arith, F.most, length-take p.count p.records)) in
          ext_get_or no_record (open_with (joined rs a (suc n))).records (wanted p m) sizes at_each
          ∙ sym (back_written p m size (changed_up_to (length rs) m) within unchanged)

  pub place_found : m.below + min (a - m.low) window_limit ≡ place (joined rs a (suc n)) a
  place_found =
      let up = rw F.joins at (ascending_joined rs a (suc n) (kept_command p R.whole).up R.fits) in
      let at_a = place_middle 0 (take m.first rs) (between m.low m.high) (drop m.last rs) a up F.low (omega (arith, F.low, F.high)) in
      omega (arith, F.below, F.low, R.fits, at_a, ap (λ (l : List Record). place l a) F.joins)
