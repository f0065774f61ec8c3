-- How the joined record is filled from its top down: what stands in the part when all from an address on is done, one record more, and
-- the end.
use Prim.Native.Nat.{ℕ, suc, ◌+◌, ◌-◌, ◌≤◌, ◌<◌, min}
use native.Mathlib.Omega.{arith}
use mathlib.Core.Path.{◌≡◌, refl, sym, ap, subst, ◌∙◌}
use mathlib.Core.List.{List, [], ◌++◌, map, map-append}
use mathlib.Core.Bool.{Bool, true, false}
use lib.Dec.{ltb}
use lib.ListN.{length, take, drop, get_or, length-map, take-append-drop}
use lib.Seq.{take_all}
use borrow.Author.Tests.{ltb-true, ltb-false}
use Rattle.octets.specs.Lists.{overwrite, part}
use Rattle.octets.proofs.Overwrite.{length_overwrite, overwrite_on, overwrite_none, part_before}
use Rattle.state.specs.declared.Record.{Record}
use Rattle.state.specs.declared.Meeting.{Meeting}
use Rattle.state.specs.Records.{past, held, place, span, total}
use Rattle.state.specs.State.{no_record}
use Rattle.state.specs.Cut.{Parted, Cut}
use Rattle.state.proofs.Places.{length_span, span_append, map_read}
use Rattle.state.proofs.Laws.{total_append}
use Rattle.state.proofs.Cut.{parted_place, parted_low, parted_free, parted_start, parted_past, past_below, record_total, record_held, record_place, place_most}
use Rattle.store.specs.Hold.{sees_in, filled}

no_span : (x y : ℕ) → y ≤ x → span x (y - x) ≡ []
unfolding span
no_span x y h = let none : y - x ≡ 0 = omega arith in rw none

module _ (rs : List Record) (l : List ℕ) (base : ℕ) (w : List ℕ) where
  abbrev f : ℕ → ℕ
  f = sees_in rs l base w

  -- a held byte comes from the part, any other from the source
  from_part : (x : ℕ) → held rs x ≡ true → f x ≡ get_or l (place rs x) 0
  from_part x h = rw h

  from_source : (x : ℕ) → held rs x ≡ false → f x ≡ get_or w (x - base) 0
  from_source x h = rw h

  -- all from x up to high is done, and stands from `at` on
  abbrev pub Done : (high at x : ℕ) → List ℕ → Type 0
  Done high at x bytes = bytes ≡ overwrite l at (map f (span x (high - x)))

  -- the bytes from x up to y are written before those from y on
  more :
      (high at x y : ℕ) (bytes b : List ℕ) → x ≤ y → y ≤ high → at + (high - x) ≤ length l → Done high (at + (y - x)) y bytes → b ≡ map f (span x (y - x))
      → Done high at x (overwrite bytes at b)
  more high at x y bytes b h k fits done is =
      let size : length b ≡ y - x = ap length is ∙ length-map (span x (y - x)) f ∙ length_span x (y - x) in
      let rest = map f (span y (high - y)) in
      let rest_size : length rest ≡ high - y = length-map (span y (high - y)) f ∙ length_span y (high - y) in
      let whole : b ++ rest ≡ map f (span x (high - x)) =
      ap (λ (t : List ℕ). t ++ rest) is ∙ sym (map-append f (span x (y - x)) (span y (high - y))) ∙ ap (map f) (spans x y high h k) in
      ap (λ (t : List ℕ). overwrite t at b) (done ∙ ap (λ (j : ℕ). overwrite l (at + j) rest) (sym size))
      ∙ overwrite_on l b rest at (omega arith) ∙ ap (overwrite l at) whole
    where
      spans : (x y high : ℕ) → x ≤ y → y ≤ high → span x (y - x) ++ span y (high - y) ≡ span x (high - x)
      spans x y high h k =
          let there : y ≡ x + (y - x) = omega arith in
          let both : y - x + (high - y) ≡ high - x = omega arith in
          ap (λ (z : ℕ). span x (y - x) ++ span z (high - y)) there ∙ sym (span_append x (y - x) (high - y)) ∙ ap (span x) both

  -- The loop of `fill`: k records are still to come, they end at `old` in the part, `gap` fresh bytes go before them, and all from
  -- `top` on is done.
  pub record Filling (first last low high k gap old top : ℕ) (bytes : List ℕ) : Type 0 where
    pub from : first ≤ k
    pub upto : k ≤ last
    pub parted : Parted rs k top
    pub above : low ≤ top
    pub below : top ≤ high
    pub ends : old ≡ total (take k rs)
    pub opened : old + gap ≡ total (take first rs) + (top - low)
    pub done : Done high (old + gap) top bytes

  -- What a turn of the loop needs and does, in the words of the code: q records are left after it, `start` and `len` are the record's
  -- fields as they were read, and b₁ and b₂ are what the two writes leave.
  pub record Turn (first last low high q gap old top : ℕ) (bytes : List ℕ) (start len : ℕ) : Type 0 where
    pub ends : start + len ≤ top
    pub stretch : top - (start + len) ≤ gap
    pub inside : start + len < top → (base ≤ start + len) × (top ≤ base + length w)
    pub own : len ≤ old
    pub again :
        (b₁ b₂ : List ℕ)
        → b₁
        ≡ overwrite bytes (old + (gap - (top - (start + len))))
        (take (length bytes - (old + (gap - (top - (start + len))))) (part w (start + len - base) (top - (start + len))))
        → b₂
        ≡ overwrite b₁ (old - len + (gap - (top - (start + len))))
        (part b₁ (old - len) (min len (length b₁ - (old - len + (gap - (top - (start + len)))))))
        → Filling first last low high q (gap - (top - (start + len))) (old - len) start b₂

module _ (rs : List Record) (l : List ℕ) (base : ℕ) (w : List ℕ) (m : Meeting) (fresh : ℕ)
    (C : Cut rs m fresh base (base + length w)) (room : total rs + fresh ≤ length l) where
  abbrev State : (k gap old top : ℕ) → List ℕ → Type 0
  State = Filling rs l base w m.first m.last m.low m.high

  totals : total (take m.last rs) ≤ total rs
  totals = omega (arith, ap total (take-append-drop m.last rs), total_append (take m.last rs) (drop m.last rs))

  -- the joined record has room
  fits : m.below + (m.high - m.low) ≤ length l
  fits = omega (arith, C.bytes, C.counts, totals)

  -- what is done up to now has the part's length, and so has its room
  module _ (at x : ℕ) (bytes : List ℕ) (here : at ≡ m.below + (x - m.low)) (above : m.low ≤ x) (below : x ≤ m.high) where
    rest_fits : at + (m.high - x) ≤ length l
    rest_fits = omega (arith, fits)

    map_fits : at + length (map (sees_in rs l base w) (span x (m.high - x))) ≤ length l
    map_fits = rw (length-map (span x (m.high - x)) (sees_in rs l base w), length_span x (m.high - x)) rest_fits

    done_size : Done rs l base w m.high at x bytes → length bytes ≡ length l
    done_size done = ap length done ∙ length_overwrite l (map (sees_in rs l base w) (span x (m.high - x))) at map_fits

    -- bytes for which there is room are written whole
    whole : Done rs l base w m.high at x bytes → (b : List ℕ) (to : ℕ) → to + length b ≤ at → take (length bytes - to) b ≡ b
    whole done b to h = take_all (length bytes - to) b (omega (arith, done_size done, rest_fits))

  -- so the numbers of the loop stay below the part's length
  pub filling_room : (k gap old top : ℕ) (bytes : List ℕ) → State k gap old top bytes → old + gap ≤ length l
  filling_room k gap old top bytes F = omega (arith, fits, F.opened, F.below, F.above, C.below)

  pub filling_start : State m.last fresh (m.below + m.held) m.high l
  filling_start = record {
    from = C.order;
    upto = omega arith;
    parted = C.upper;
    above = C.wide;
    below = omega arith;
    ends = C.bytes;
    opened = omega (arith, C.below, C.counts);
    done = rw (no_span m.high m.high (omega arith)) (sym (overwrite_none l (m.below + m.held + fresh)));
  }

  -- a stretch between records, all of it fresh, as it is read from the source
  module _ (q x y : ℕ) (P : Parted rs q x) (R : Parted rs q y) (above : m.low ≤ x) (order : x ≤ y) (below : y ≤ m.high) where
    stretch_inside : x < y → (base ≤ x) × (y ≤ base + length w)
    stretch_inside h =
        let free : (z : ℕ) → x ≤ z → z < y → held rs z ≡ false = parted_free rs q x y P R in
        let first = C.inside x above (omega arith) (free x (omega arith) h) in
        let last = C.inside (y - 1) (omega arith) (omega arith) (free (y - 1) (omega arith) (omega arith)) in
        (first.0, omega arith)

    stretch : part w (x - base) (y - x) ≡ map (sees_in rs l base w) (span x (y - x))
    stretch = go (ltb x y) refl
      where
        go : (b : Bool) → ltb x y ≡ b → part w (x - base) (y - x) ≡ map (sees_in rs l base w) (span x (y - x))
        go true e =
            let h = stretch_inside (ltb-true x y e) in
            sym (map_read (sees_in rs l base w) w (x - base) x (y - x) (omega arith) (λ i k.
            let there : x + i - base ≡ x - base + i = omega arith in
            from_source rs l base w (x + i) (parted_free rs q x y P R (x + i) (omega arith) (omega arith)) ∙ ap (λ (j : ℕ). get_or w j 0) there))
        go false e =
            let none : y - x ≡ 0 = omega (arith, ltb-false x y e) in
            ap (λ (n : ℕ). part w (x - base) n) none ∙ sym (ap (map (sees_in rs l base w)) (no_span x y (ltb-false x y e)))

    -- it is written before what is done
    stretched :
        (at : ℕ) (bytes : List ℕ) → at ≡ m.below + (x - m.low) → Done rs l base w m.high (at + (y - x)) y bytes
        → Done rs l base w m.high at x (overwrite bytes at (take (length bytes - at) (part w (x - base) (y - x))))
    stretched at bytes here done =
        let size : length (part w (x - base) (y - x)) ≡ y - x = ap length stretch ∙ length-map (span x (y - x)) (sees_in rs l base w) ∙ length_span x (y - x) in
        ap (overwrite bytes at) (whole (at + (y - x)) y bytes (omega arith) (omega arith) below done (part w (x - base) (y - x)) at (omega arith))
        ∙ more rs l base w m.high at x y bytes (part w (x - base) (y - x)) order below (rest_fits at x bytes here above (omega arith)) done stretch

  -- a record's own bytes, as they stood
  module _ (q : ℕ) (inside : q < length rs) where
    abbrev r : Record
    r = get_or rs q no_record

    own_fits : total (take q rs) + r.len ≤ length l
    own_fits =
        omega (arith, record_total rs C.up q inside, ap total (take-append-drop (suc q) rs), total_append (take (suc q) rs) (drop (suc q) rs))

    own : part l (total (take q rs)) r.len ≡ map (sees_in rs l base w) (span r.start r.len)
    own =
        sym (map_read (sees_in rs l base w) l (total (take q rs)) r.start r.len own_fits
        (λ i k. from_part rs l base w (r.start + i) (record_held rs C.up q inside i k) ∙ ap (λ (j : ℕ). get_or l j 0) (record_place rs C.up q inside i k)))

    -- one record more: the stretch above it, then the record
    module _ (gap old top : ℕ) (bytes : List ℕ) (F : State (suc q) gap old top bytes) (from : m.first ≤ q) where
      abbrev gap' : ℕ
      gap' = gap - (top - past r)

      abbrev old' : ℕ
      old' = old - r.len

      turn_past : past r ≤ top
      turn_past = past_below rs C.up q inside top F.parted

      turn_low : m.low ≤ r.start
      turn_low = parted_low rs m.first m.low C.lower q from inside

      ends : old ≡ total (take q rs) + r.len
      ends = F.ends ∙ record_total rs C.up q inside

      -- no more bytes are held below the record's end than there are addresses
      turn_gap : old + (top - past r) ≤ old + gap
      turn_gap =
          omega (
            arith,
            turn_low,
            turn_past,
            F.opened,
            F.ends,
            place_most rs m.low (past r) C.up (omega (arith, turn_low)),
            parted_place rs (suc q) (past r) (parted_past rs C.up q inside),
            parted_place rs m.first m.low C.lower,
          )

      between : old + gap' ≡ total (take m.first rs) + (past r - m.low)
      between = omega (arith, turn_low, turn_past, F.opened, turn_gap)

      middle : old + gap' ≡ m.below + (past r - m.low)
      middle = omega (arith, between, C.below)

      abbrev bytes₁ : List ℕ
      bytes₁ = overwrite bytes (old + gap') (take (length bytes - (old + gap')) (part w (past r - base) (top - past r)))

      stretch_done : Done rs l base w m.high (old + gap') (past r) bytes₁
      stretch_done =
          let next : old + gap ≡ old + gap' + (top - past r) = omega (arith, turn_gap) in
          stretched (suc q) (past r) top (parted_past rs C.up q inside) F.parted (omega (arith, turn_low)) turn_past F.below
          (old + gap') bytes middle (subst (λ (at : ℕ). Done rs l base w m.high at top bytes) next F.done)

      lower : old' + gap' ≡ m.below + (r.start - m.low)
      lower = omega (arith, middle, ends, turn_low)

      stretch_size : length bytes₁ ≡ length l
      stretch_size = done_size (old + gap') (past r) bytes₁ middle (omega (arith, turn_low)) (omega (arith, turn_past, F.below)) stretch_done

      abbrev bytes₂ : List ℕ
      bytes₂ = overwrite bytes₁ (old' + gap') (part bytes₁ old' (min r.len (length bytes₁ - (old' + gap'))))

      kept : part bytes₁ old' (min r.len (length bytes₁ - (old' + gap'))) ≡ map (sees_in rs l base w) (span r.start r.len)
      kept =
          let stretch_fits = rest_fits (old + gap') (past r) bytes₁ middle (omega (arith, turn_low)) (omega (arith, turn_past, F.below)) in
          let all : min r.len (length bytes₁ - (old' + gap')) ≡ r.len = omega (arith, stretch_size, stretch_fits, ends) in
          let place : old' ≡ total (take q rs) = omega (arith, ends) in
          ap (part bytes₁ old') all ∙ ap (λ (t : List ℕ). part t old' r.len) stretch_done
          ∙ part_before l (map (sees_in rs l base w) (span (past r) (m.high - past r))) (old + gap') old' r.len
          (map_fits (old + gap') (past r) bytes₁ middle (omega (arith, turn_low)) (omega (arith, turn_past, F.below))) (omega (arith, ends))
          ∙ ap (λ (j : ℕ). part l j r.len) place ∙ own

      record_done : Done rs l base w m.high (old' + gap') r.start bytes₂
      record_done =
          let own_length : past r - r.start ≡ r.len = omega arith in
          let next : old + gap' ≡ old' + gap' + (past r - r.start) = omega (arith, ends) in
          more rs l base w m.high (old' + gap') r.start (past r) bytes₁ (part bytes₁ old' (min r.len (length bytes₁ - (old' + gap'))))
          (omega arith) (omega (arith, turn_past, F.below))
          (rest_fits (old' + gap') r.start bytes₁ lower turn_low (omega (arith, turn_past, F.below)))
          (subst (λ (at : ℕ). Done rs l base w m.high at (past r) bytes₁) next stretch_done)
          (kept ∙ ap (λ (n : ℕ). map (sees_in rs l base w) (span r.start n)) (sym own_length))

      turned : State q gap' old' r.start bytes₂
      turned = record {
        from = from;
        upto = omega (arith, F.upto);
        parted = parted_start rs C.up q inside;
        above = turn_low;
        below = omega (arith, turn_past, F.below);
        ends = omega (arith, ends);
        opened = omega (arith, lower, C.below);
        done = record_done;
      }

      inside_source : past r < top → (base ≤ past r) × (top ≤ base + length w)
      inside_source = stretch_inside (suc q) (past r) top (parted_past rs C.up q inside) F.parted (omega (arith, turn_low)) turn_past F.below

      pub turn : (start len : ℕ) → start ≡ r.start → len ≡ r.len → Turn rs l base w m.first m.last m.low m.high q gap old top bytes start len
      turn start len is-start is-len =
          subst (λ (s : ℕ). Turn rs l base w m.first m.last m.low m.high q gap old top bytes s len) (sym is-start)
          (subst (λ (n : ℕ). Turn rs l base w m.first m.last m.low m.high q gap old top bytes r.start n) (sym is-len) (record {
            ends = turn_past;
            stretch = omega (arith, turn_gap);
            inside = inside_source;
            own = omega (arith, ends);
            again = λ b₁ b₂ e₁ e₂.
                subst (State q gap' old' r.start)
                (sym (e₂ ∙ ap (λ (b : List ℕ). overwrite b (old' + gap') (part b old' (min r.len (length b - (old' + gap'))))) e₁)) turned;
          }))

  -- no record more: the lowest stretch is all that is left
  module _ (gap old top : ℕ) (bytes : List ℕ) (F : State m.first gap old top bytes) where
    pub last_inside : m.low < top → (base ≤ m.low) × (top ≤ base + length w)
    last_inside = stretch_inside m.first m.low top C.lower F.parted (omega arith) F.above F.below

    pub filling_end :
        overwrite bytes old (take (length bytes - old) (part w (m.low - base) (top - m.low))) ≡ filled rs m l base w
    filling_end =
        let place : old ≡ m.below = F.ends ∙ sym C.below in
        let next : old + gap ≡ old + (top - m.low) = omega (arith, F.opened, F.ends) in
        stretched m.first m.low top C.lower F.parted (omega arith) F.above F.below
        old bytes (omega arith) (subst (λ (at : ℕ). Done rs l base w m.high at top bytes) next F.done)
        ∙ ap (λ (at : ℕ). overwrite l at (map (sees_in rs l base w) (span m.low (m.high - m.low)))) place
