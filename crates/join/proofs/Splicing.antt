-- Laws of the splice: what the entries, moved up or down, and the union make of the command.
use Prim.Native.Nat.{ℕ, suc, ◌+◌, ◌-◌, ◌≤◌, ◌<◌, min}
use native.Mathlib.Omega.{arith}
use mathlib.Core.Path.{◌≡◌, refl, ap₂, sym, subst, ◌∙◌}
use mathlib.Core.Logic.{◌≢◌, inl, inr}
use mathlib.Core.List.{List, ◌++◌}
use mathlib.Core.Bool.{Bool, true, false, cond}
use lib.Dec.{ltb, eqb}
use lib.ListN.{length, take, drop, get_or, length-take, length-drop, take-append-drop, get_or-eq_default}
use lib.Seq.{get_or-take, get_or-drop, ext_get_or}
use borrow.Author.Tests.{eq-eqb, ne_eqb, lt-ltb, ltb-true, ltb-false, eqb-true, eqb-false}
use Rattle.state.specs.declared.Record.{Record}
use Rattle.state.specs.State.{CommandState, no_record, records_in}
use Rattle.state.specs.declared.Meeting.{Meeting}
use Rattle.state.specs.Limits.{record_limit}
use Rattle.state.specs.Join.{entry_after, changed_up_to, spliced}
use Rattle.state.proofs.Splice.{wanted, wanted_size, wanted_at}
use Rattle.state.proofs.Search.{entry_before, entry_union, entry_behind}
use Rattle.state.specs.Words.{record_at, entries_in, command_in}
use Rattle.join.specs.Splice.{MovedUp, MovedDown, Sealed}
use Rattle.words.proofs.EntryWords.{entries_size, entry_at}

-- two lists that are alike up to a place, and from a place on
module _ (n : ℕ) (xs ys : List Record) (sizes : length xs ≡ length ys) where
  take_alike : ((j : ℕ) → j < n → j < length xs → get_or xs j no_record ≡ get_or ys j no_record) → take n xs ≡ take n ys
  take_alike same = ext_get_or no_record (take n xs) (take n ys) (simp (length-take, sizes)) alike
    where
      alike : (j : ℕ) → j < length (take n xs) → get_or (take n xs) j no_record ≡ get_or (take n ys) j no_record
      alike j h =
          let near : j < n = omega (arith, length-take n xs) in
          get_or-take n xs j no_record near ∙ same j near (omega (arith, length-take n xs)) ∙ sym (get_or-take n ys j no_record near)

  drop_alike : ((j : ℕ) → n ≤ j → j < length xs → get_or xs j no_record ≡ get_or ys j no_record) → drop n xs ≡ drop n ys
  drop_alike same = ext_get_or no_record (drop n xs) (drop n ys) (simp (length-drop, sizes)) alike
    where
      alike : (j : ℕ) → j < length (drop n xs) → get_or (drop n xs) j no_record ≡ get_or (drop n ys) j no_record
      alike j h =
          let near : n + j < length xs = omega (arith, length-drop n xs) in
          get_or-drop n xs j no_record ∙ same (n + j) (omega arith) near ∙ sym (get_or-drop n ys j no_record)

-- the words after a splice, told entry by entry
module _ (ws next : List ℕ) (m : Meeting) where
  abbrev p : CommandState
  p = command_in ws

  abbrev end : ℕ
  end = changed_up_to (length (records_in p)) m

  spliced_words :
      p.opened ≡ true → get_or next 0 0 ≡ m.first + 1 + (length (records_in p) - m.last) + 1
      → ((j : ℕ) → j < end → j < record_limit → record_at next j ≡ entry_after (entries_in ws) m j)
      → ((j : ℕ) → end ≤ j → j < record_limit → record_at next j ≡ record_at ws j)
      → command_in next ≡ spliced p m
  unfolding spliced
  spliced_words opened head front back = λ i. record { opened = a i; count = b i; records = c i }
    where
      a : ltb 0 (get_or next 0 0) ≡ p.opened
      a = lt-ltb 0 (get_or next 0 0) (omega arith) ∙ sym opened

      b : get_or next 0 0 - 1 ≡ m.first + 1 + (length (records_in p) - m.last)
      b = omega arith

      c : entries_in next ≡ take end (wanted p m) ++ drop end (entries_in ws)
      c =
          sym (take-append-drop end (entries_in next))
          ∙ ap₂ (λ (x y : List Record). x ++ y)
          (take_alike end (entries_in next) (wanted p m) (entries_size next ∙ sym (wanted_size p m))
          (λ j h k. let few : j < record_limit = omega (arith, entries_size next) in entry_at next j few ∙ front j h few ∙ sym (wanted_at p m j few)))
          (drop_alike end (entries_in next) (entries_in ws) (entries_size next ∙ sym (entries_size ws))
          (λ j h k. let few : j < record_limit = omega (arith, entries_size next) in entry_at next j few ∙ back j h few ∙ sym (entry_at ws j few)))

pub entry_or_none : (ws : List ℕ) (i : ℕ) → cond (ltb i record_limit) (record_at ws i) no_record ≡ get_or (entries_in ws) i no_record
entry_or_none ws i = go (ltb i record_limit) refl
  where
    go : (b : Bool) → ltb i record_limit ≡ b → cond b (record_at ws i) no_record ≡ get_or (entries_in ws) i no_record
    go true e = sym (entry_at ws i (ltb-true i record_limit e))
    go false e = let past = ltb-false i record_limit e in sym (get_or-eq_default (entries_in ws) no_record (omega (arith, entries_size ws)))

-- entries that stand where they are wanted, but for the union, and then the union
module _ (ws mid next : List ℕ) (m : Meeting) where
  abbrev used : ℕ
  used = length (records_in (command_in ws))

  pub spliced_sealed :
      (command_in ws).opened ≡ true → Sealed mid m (m.first + 1 + (used - m.last)) next
      → ((j : ℕ) → j < m.first → record_at mid j ≡ record_at ws j)
      → ((j : ℕ) → m.first < j → j < changed_up_to used m → record_at mid j ≡ get_or (entries_in ws) (m.last + (j - suc m.first)) no_record)
      → ((j : ℕ) → changed_up_to used m ≤ j → (m.first < j) × (record_at mid j ≡ record_at ws j))
      → command_in next ≡ spliced (command_in ws) m
  spliced_sealed opened s low behind high =
      spliced_words ws next m opened s.head (λ j h l. go j h l (ltb j m.first) refl (eqb j m.first) refl)
      (λ j h l. s.others j (inr (high j h).0) ∙ (high j h).1)
    where
      go : (j : ℕ) → j < changed_up_to used m → j < record_limit → (b : Bool) → ltb j m.first ≡ b → (e : Bool) → eqb j m.first ≡ e
          → record_at next j ≡ entry_after (entries_in ws) m j
      go j h l true b e f = let lt = ltb-true j m.first b in s.others j (inl lt) ∙ low j lt ∙ sym (entry_before (entries_in ws) m j lt ∙ entry_at ws j l)
      go j h l false b true f = let same : j ≡ m.first = eqb-true j m.first f in rw same (s.union ∙ sym (entry_union (entries_in ws) m m.first refl))
      go j h l false b false f =
          let ge = ltb-false j m.first b in
          let ne : j ≢ m.first = eqb-false j m.first f in
          let gt : m.first < j = omega arith in
          s.others j (inr gt) ∙ behind j gt h ∙ sym (entry_behind (entries_in ws) m j gt)

changed_one : (n : ℕ) (m : Meeting) → m.last ≡ m.first + 1 → changed_up_to n m ≡ m.last
unfolding changed_up_to
changed_one n m e = rw (eq-eqb m.last (m.first + 1) e)

changed_more : (n : ℕ) (m : Meeting) → m.last ≢ m.first + 1 → changed_up_to n m ≡ min (n + 1) record_limit
unfolding changed_up_to
changed_more n m e = rw (ne_eqb m.last (m.first + 1) e)

-- the three cases of a splice: for one record, for none, for more
module _ (ws mid next : List ℕ) (m : Meeting) (opened : (command_in ws).opened ≡ true) (n : ℕ) (is : n ≡ length (records_in (command_in ws)))
    (s : Sealed mid m (m.first + 1 + (n - m.last)) next) where
  counted : Sealed mid m (m.first + 1 + (length (records_in (command_in ws)) - m.last)) next
  counted = subst (λ (k : ℕ). Sealed mid m (m.first + 1 + (k - m.last)) next) is s

  pub replaces_one : m.last ≡ m.first + 1 → mid ≡ ws → command_in next ≡ spliced (command_in ws) m
  replaces_one one same =
      let end = changed_one (length (records_in (command_in ws))) m one in
      spliced_sealed ws mid next m opened counted (λ j h. rw same) (λ j h k. absurd (omega arith)) (λ j h. (omega arith, rw same))

  pub replaces_none : m.last ≡ m.first → n < record_limit → m.first ≤ n → MovedUp ws m.first n mid → command_in next ≡ spliced (command_in ws) m
  replaces_none none few within u =
      let end = changed_more (length (records_in (command_in ws))) m (omega arith) in
      spliced_sealed ws mid next m opened counted (λ j h. u.below j (omega arith))
      (λ j h k.
      let place : m.last + (j - suc m.first) ≡ j - 1 = omega arith in
      u.moved j h (omega arith) ∙ rw place (sym (entry_at ws (j - 1) (omega arith))))
      (λ j h. (omega arith, u.above j (omega arith)))

  pub replaces_more : m.first + 1 < m.last → m.last ≤ n → n ≤ record_limit → MovedDown ws (m.first + 1) m.last (min (n + 1) record_limit) mid
      → command_in next ≡ spliced (command_in ws) m
  replaces_more more within few d =
      let end = changed_more (length (records_in (command_in ws))) m (omega arith) in
      spliced_sealed ws mid next m opened counted (λ j h. d.below j (omega arith))
      (λ j h k.
      let place : m.last + (j - suc m.first) ≡ m.last + (j - (m.first + 1)) = omega arith in
      d.moved j (omega arith) (omega arith) ∙ entry_or_none ws (m.last + (j - (m.first + 1))) ∙ rw place refl)
      (λ j h. (omega arith, d.above j (omega arith)))
