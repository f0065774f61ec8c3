-- A part whose tail has moved up and whose joined record has been filled holds the bytes of all records, packed.
use Prim.Native.Nat.{ℕ, suc, ◌+◌, ◌-◌, ◌≤◌, ◌<◌, min}
use native.Mathlib.Omega.{arith}
use native.Mathlib.Nat.{zero-add}
use mathlib.Core.Path.{◌≡◌, refl, sym, ap, ap₂, ◌∙◌}
use mathlib.Core.List.{List, [], ◌++◌, map, append-nil}
use mathlib.Core.Bool.{Bool, true, false, cond}
use lib.ListN.{length, take, drop, get_or, length-append, length-drop, length-map, take-append-drop}
use lib.Seq.{length-take-le}
use Rattle.octets.specs.Lists.{overwrite, part}
use Rattle.octets.proofs.Overwrite.{overwrite_below, overwrite_on}
use Rattle.state.specs.declared.Record.{Record}
use Rattle.state.specs.declared.Meeting.{Meeting}
use Rattle.state.specs.Records.{held, place, span, addresses, total}
use Rattle.state.specs.Cut.{Cut}
use Rattle.state.specs.Join.{replaced}
use Rattle.state.proofs.Places.{length_span, map_span, place_suc, place_grows}
use Rattle.state.proofs.Laws.{total_append}
use Rattle.state.proofs.Cut.{parted_place}
use Rattle.state.proofs.Packed.{packed_replaced, packed_front, packed_back_from}
use Rattle.store.specs.Hold.{sees_in, filled, repacked}

-- bytes with the front of the buffer before them
front_same : (l bytes : List ℕ) (at : ℕ) → at ≤ length l → overwrite l at bytes ≡ overwrite l 0 (take at l ++ bytes)
front_same l bytes at h =
    let size : 0 + length (take at l ++ bytes) ≡ at + length bytes = omega (arith, length-append (take at l) bytes, length-take-le at l h) in
    rw size

module _ (rs : List Record) (l : List ℕ) (base : ℕ) (w : List ℕ) (m : Meeting) (fresh behind : ℕ)
    (C : Cut rs m fresh base (base + length w)) (room : total rs + fresh ≤ length l) (is : behind ≡ total (drop m.last rs)) where
  totals : total rs ≡ m.below + m.held + behind
  totals =
      ap total (sym (take-append-drop m.last rs)) ∙ total_append (take m.last rs) (drop m.last rs)
      ∙ omega (arith, C.bytes)

  abbrev tail : List ℕ
  tail = part l (m.below + m.held) (min behind (length l - (m.below + m.held + fresh)))

  -- the part with the tail moved up
  abbrev l₁ : List ℕ
  l₁ = overwrite l (m.below + m.held + fresh) tail

  tail_is : tail ≡ part l (m.below + m.held) behind
  tail_is =
      let all : min behind (length l - (m.below + m.held + fresh)) ≡ behind = omega (arith, totals) in
      ap (part l (m.below + m.held)) all

  tail_size : length tail ≡ behind
  tail_size = ap length tail_is ∙ length-take-le behind (drop (m.below + m.held) l) (simp length-drop (omega (arith, totals)))

  pub held_fits : m.below + m.held ≤ length l
  held_fits = omega (arith, totals)

  -- the bytes of the joined record are seen as before
  seen : (x : ℕ) → m.low ≤ x → x < m.low + (m.high - m.low) → sees_in rs l₁ base w x ≡ sees_in rs l base w x
  seen x h k = go (held rs x) refl
    where
      go : (b : Bool) → held rs x ≡ b → cond b (get_or l₁ (place rs x) 0) (get_or w (x - base) 0) ≡ cond b (get_or l (place rs x) 0) (get_or w (x - base) 0)
      go true e =
          let here : ◌≡◌ {A = ℕ} (cond (held rs x) 1 0) 1 = rw e in
          let under : place rs x < m.below + m.held =
          omega (
            arith,
            place_suc 0 rs x C.up,
            here,
            place_grows rs (suc x) m.high (omega (arith, C.wide)),
            parted_place rs m.last m.high C.upper,
            C.bytes,
          ) in
          overwrite_below l tail (m.below + m.held + fresh) (omega (arith, tail_size, totals)) (place rs x) 0 (omega arith)
      go false e = refl

  abbrev middle : List ℕ
  middle = map (sees_in rs l base w) (span m.low (m.high - m.low))

  seen_all : map (sees_in rs l₁ base w) (span m.low (m.high - m.low)) ≡ middle
  seen_all =
      ap (map (sees_in rs l₁ base w)) (sym (append-nil (span m.low (m.high - m.low))))
      ∙ map_span (sees_in rs l₁ base w) (sees_in rs l base w) m.low (m.high - m.low) [] seen refl
      ∙ ap (map (sees_in rs l base w)) (append-nil (span m.low (m.high - m.low)))

  middle_size : length middle ≡ m.high - m.low
  middle_size = length-map (span m.low (m.high - m.low)) (sees_in rs l base w) ∙ length_span m.low (m.high - m.low)

  own : (x : ℕ) → held rs x ≡ true → sees_in rs l base w x ≡ get_or l (0 + place rs x) 0
  own x h = rw (h, zero-add)

  packed : map (sees_in rs l base w) (addresses (replaced rs m)) ≡ take m.below l ++ (middle ++ tail)
  packed =
      let front = packed_front (sees_in rs l base w) l 0 rs C.up (omega arith) own m.first in
      let back = packed_back_from (sees_in rs l base w) l 0 rs C.up (omega arith) own m.last in
      packed_replaced (sees_in rs l base w) rs m
      ∙ ap₂ (λ (a b : List ℕ). a ++ (middle ++ b))
      (front ∙ ap (λ (n : ℕ). take n l) (sym C.below))
      (back ∙ ap₂ (λ (n k : ℕ). take n (drop k l)) (sym is) (sym C.bytes) ∙ sym tail_is)

  pub repacked_filled : filled rs m l₁ base w ≡ repacked rs m l base w
  repacked_filled =
      let place : m.below + m.held + fresh ≡ m.below + length middle = omega (arith, middle_size, C.counts) in
      ap (overwrite l₁ m.below) seen_all
      ∙ ap (λ (k : ℕ). overwrite (overwrite l k tail) m.below middle) place
      ∙ overwrite_on l middle tail m.below (omega (arith, middle_size, tail_size, totals, C.counts))
      ∙ front_same l (middle ++ tail) m.below (omega (arith, totals)) ∙ ap (overwrite l 0) (sym packed)
