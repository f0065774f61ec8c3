-- Laws of overwrite: the length stays, and an element is one of the bytes or, outside their place, the buffer's own; and what loops and lent parts make of it.
use Prim.Native.Nat.{ℕ, suc, ◌+◌, ◌-◌, ◌≤◌, ◌<◌, min}
use native.Mathlib.Omega.{arith}
use native.Mathlib.Nat.{zero-add, add-zero}
use native.Mathlib.Numerals.{add-one}
use mathlib.Core.Path.{◌≡◌, refl, ap, ap₂, subst, sym, ◌∙◌}
use mathlib.Core.List.{List, [], ◌∷◌, ◌++◌, append-nil, append_assoc}
use lib.ListN.{length, take, drop, get_or, set, length-append, length-take, length-drop, take-append-drop, get_or-append}
use lib.Seq.{length-take-le, take_at, drop_at, take-add, take-take, take-suc, drop-drop, drop-append-le}
use lib.Seq.{set_at, paste, paste-suc, get_or-take, get_or-drop, ext_get_or}
use Rattle.octets.specs.Lists.{overwrite, part}
use Rattle.octets.proofs.Lists.{get_d_past_lem, take_min}

-- what stands in the buffer already may be written again, and no bytes leave the buffer as it was
pub overwrite_same : (buffer : List ℕ) (at n : ℕ) → at + n ≤ length buffer → overwrite buffer at (part buffer at n) ≡ buffer
overwrite_same buffer at n fits =
    rw (length-take-le n (drop at buffer) (simp length-drop (omega arith)), ← take-add at n buffer) (take-append-drop (at + n) buffer)

pub overwrite_none : (buffer : List ℕ) (at : ℕ) → overwrite buffer at [] ≡ buffer
overwrite_none buffer at = rw (append-nil, add-zero) (take-append-drop at buffer)

-- bytes written right behind others are written with them
pub overwrite_then : (buffer first second : List ℕ) (at : ℕ) → at ≤ length buffer
    → overwrite (overwrite buffer at first) (at + length first) second ≡ overwrite buffer at (first ++ second)
overwrite_then buffer first second at inside =
    let front : length (take at buffer ++ first) ≡ at + length first = simp (length-append, length-take-le at buffer inside) in
    let reach : at + length first + length second ≡ at + length (first ++ second) = omega (arith, length-append first second) in
    let rest : drop (at + length first + length second) (overwrite buffer at first) ≡ drop (at + length (first ++ second)) buffer =
    sym (drop-drop (length second) (at + length first) (overwrite buffer at first))
    ∙ ap (drop (length second)) (drop_at (take at buffer ++ first) (drop (at + length first) buffer) (at + length first) front)
    ∙ drop-drop (length second) (at + length first) buffer
    ∙ ap (λ (k : ℕ). drop k buffer) reach in
    rw (take_at (take at buffer ++ first) (drop (at + length first) buffer) (at + length first) front, rest, append_assoc (take at buffer) first second)

-- in a loop, a turn's store makes it a copy of one element more
pub paste_more : {A : Type 0} (buffer source : List A) (i : ℕ) (d : A) → i < length buffer → i < length source
    → set (paste buffer 0 source i) i (get_or source i d) ≡ paste buffer 0 source (i + 1)
paste_more buffer source i d room more =
    let room' : 0 + i < length buffer = omega arith in
    rw add-one
    (subst (λ (k : ℕ). set (paste buffer 0 source i) k (get_or source i d) ≡ paste buffer 0 source (suc i)) (zero-add i)
    (paste-suc buffer 0 source i d room' more))

module _ (buffer bytes : List ℕ) (at : ℕ) (fits : at + length bytes ≤ length buffer) where
  front : length (take at buffer) ≡ at
  front = length-take-le at buffer (omega arith)

  front_bytes : length (take at buffer ++ bytes) ≡ at + length bytes
  front_bytes = length-append (take at buffer) bytes ∙ ap (λ (k : ℕ). k + length bytes) front

  pub length_overwrite : length (overwrite buffer at bytes) ≡ length buffer
  length_overwrite = simp (length-append, length-drop, front) (omega arith)

  -- what stands before the bytes and behind them
  pub overwrite_before : take at (overwrite buffer at bytes) ≡ take at buffer
  overwrite_before = rw append_assoc (take_at (take at buffer) (bytes ++ drop (at + length bytes) buffer) at front)

  pub overwrite_behind : drop (at + length bytes) (overwrite buffer at bytes) ≡ drop (at + length bytes) buffer
  overwrite_behind = drop_at (take at buffer ++ bytes) (drop (at + length bytes) buffer) (at + length bytes) front_bytes

  -- the bytes stand where they were written
  pub overwrite_part : part (overwrite buffer at bytes) at (length bytes) ≡ bytes
  overwrite_part =
      ap (λ (l : List ℕ). take (length bytes) (drop at l)) (append_assoc (take at buffer) bytes (drop (at + length bytes) buffer))
      ∙ ap (take (length bytes)) (drop_at (take at buffer) (bytes ++ drop (at + length bytes) buffer) at front)
      ∙ take_at bytes (drop (at + length bytes) buffer) (length bytes) refl

  pub overwrite_inside : (i d : ℕ) → i < length bytes → get_or (overwrite buffer at bytes) (at + i) d ≡ get_or bytes i d
  overwrite_inside i d h =
      let near : at + i < length (take at buffer ++ bytes) = omega (arith, front_bytes) in
      get_or-append (take at buffer ++ bytes) _ d (at + i) near ∙ get_d_past_lem (take at buffer) bytes at i d front

  pub overwrite_below : (i d : ℕ) → i < at → get_or (overwrite buffer at bytes) i d ≡ get_or buffer i d
  overwrite_below i d h =
      let near : i < length (take at buffer ++ bytes) = omega (arith, front_bytes) in
      let nearer : i < length (take at buffer) = omega (arith, front) in
      get_or-append (take at buffer ++ bytes) _ d i near ∙ get_or-append (take at buffer) bytes d i nearer ∙ get_or-take at buffer i d h

  pub overwrite_above : (i d : ℕ) → at + length bytes ≤ i → get_or (overwrite buffer at bytes) i d ≡ get_or buffer i d
  overwrite_above i d h =
      let k = i - (at + length bytes) in
      let e : at + length bytes + k ≡ i = omega arith in
      subst (λ (j : ℕ). get_or (overwrite buffer at bytes) j d ≡ get_or buffer j d) e
      (get_d_past_lem (take at buffer ++ bytes) _ (at + length bytes) k d front_bytes ∙ get_or-drop (at + length bytes) buffer k d)

  -- a part of the buffer that lies beside the bytes stays as it was
  pub part_beside :
      (from n : ℕ) → ((i : ℕ) → i < n → get_or (overwrite buffer at bytes) (from + i) 0 ≡ get_or buffer (from + i) 0)
      → part (overwrite buffer at bytes) from n ≡ part buffer from n
  part_beside from n same = ext_get_or 0 (part (overwrite buffer at bytes) from n) (part buffer from n) sizes alike
    where
      sizes : length (part (overwrite buffer at bytes) from n) ≡ length (part buffer from n)
      sizes = simp (length-take, length-drop, length_overwrite)

      alike : (i : ℕ) → i < length (part (overwrite buffer at bytes) from n)
          → get_or (part (overwrite buffer at bytes) from n) i 0 ≡ get_or (part buffer from n) i 0
      alike i h =
          let near : i < n = omega (arith, length-take n (drop from (overwrite buffer at bytes))) in
          rw (
            get_or-take n (drop from (overwrite buffer at bytes)) i 0 near,
            get_or-take n (drop from buffer) i 0 near,
            get_or-drop from (overwrite buffer at bytes) i 0,
            get_or-drop from buffer i 0,
          )
          (same i near)

-- bytes written to the front of a buffer
module _ (buffer bytes : List ℕ) (n : ℕ) (size : length bytes ≡ n) where
  pub overwrite_front : take n (overwrite buffer 0 bytes) ≡ bytes
  overwrite_front = take_at bytes _ n size

  pub overwrite_rest : drop n (overwrite buffer 0 bytes) ≡ drop n buffer
  overwrite_rest = drop_at bytes _ n size ∙ ap (λ (k : ℕ). drop k buffer) (zero-add (length bytes) ∙ size)

-- for a loop that copies: as much of the source as there is room for
pub overwrite_paste : (buffer source : List ℕ) (at room : ℕ) → paste buffer at source (min room (length source)) ≡ overwrite buffer at (take room source)
overwrite_paste buffer source at room = rw (take_min, ← length-take room source)

-- for a part that was lent: what is written to its front is written to the whole
pub overwrite_lent : (buffer bytes : List ℕ) (at n : ℕ) → length bytes ≤ length (part buffer at n)
    → take at buffer ++ (overwrite (part buffer at n) 0 bytes ++ drop n (drop at buffer)) ≡ overwrite buffer at bytes
overwrite_lent buffer bytes at n fits =
    rw (
      zero-add,
      append_assoc bytes,
      ← drop-append-le (length bytes) (part buffer at n) (drop n (drop at buffer)) fits,
      take-append-drop,
      drop-drop,
      append_assoc,
    )

-- for a loop from the top down: one more byte, just before those that are written
pub overwrite_more : (buffer bytes : List ℕ) (at x : ℕ) → at < length buffer → set (overwrite buffer (suc at) bytes) at x ≡ overwrite buffer at (x ∷ bytes)
overwrite_more buffer bytes at x inside =
    let rest = drop (suc at + length bytes) buffer in
    let next : suc at + length bytes ≡ at + suc (length bytes) = omega arith in
    simp (take-suc buffer at 0 inside, append_assoc)
    (set_at (take at buffer) (get_or buffer at 0) (bytes ++ rest) x at (length-take-le at buffer (omega arith)) ∙ rw next)

-- for a middle part that was lent: what it holds when it is given back is written to the whole
pub overwrite_mid : (buffer bytes : List ℕ) (at n : ℕ) → length bytes ≡ n → take at buffer ++ (bytes ++ drop n (drop at buffer)) ≡ overwrite buffer at bytes
overwrite_mid buffer bytes at n size =
    sym (append_assoc (take at buffer) bytes (drop n (drop at buffer)))
    ∙ ap (λ (l : List ℕ). take at buffer ++ bytes ++ l) (drop-drop n at buffer ∙ ap (λ (k : ℕ). drop (at + k) buffer) (sym size))

-- bytes written just before those written last
pub overwrite_on : (buffer b c : List ℕ) (at : ℕ) → at + length b + length c ≤ length buffer
    → overwrite (overwrite buffer (at + length b) c) at b ≡ overwrite buffer at (b ++ c)
overwrite_on buffer b c at fits =
    let up = at + length b in
    let rest = drop (up + length c) buffer in
    let pre : take at (overwrite buffer up c) ≡ take at buffer =
    simp (append_assoc, take-add at (length b) buffer)
    (take_at (take at buffer) (take (length b) (drop at buffer) ++ (c ++ rest)) at (length-take-le at buffer (omega arith))) in
    let post : drop up (overwrite buffer up c) ≡ c ++ rest
    = rw append_assoc (drop_at (take up buffer) (c ++ rest) up (length-take-le up buffer (omega arith))) in
    let size : at + length (b ++ c) ≡ up + length c = omega (arith, length-append b c) in
    ap₂ (λ (x y : List ℕ). x ++ b ++ y) pre post ∙ simp (append_assoc, size)

-- what stands before the bytes stays as it was, also a part of it
pub part_before : (buffer bytes : List ℕ) (at from n : ℕ) → at + length bytes ≤ length buffer → from + n ≤ at
    → part (overwrite buffer at bytes) from n ≡ part buffer from n
part_before buffer bytes at from n fits h = part_beside buffer bytes at fits from n (λ i k. overwrite_below buffer bytes at fits (from + i) 0 (omega arith))

-- Bytes written inside others that were written before: if `all` stands there then, it is as if `all` had been written.
module _ (buffer bytes inner all : List ℕ) (at p : ℕ)
    (fits : at + length bytes ≤ length buffer) (within : p + length inner ≤ length bytes) (size : length all ≡ length bytes) where
  abbrev before : List ℕ
  before = overwrite buffer at bytes

  abbrev after : List ℕ
  after = overwrite before (at + p) inner

  room : at + p + length inner ≤ length before
  room = omega (arith, length_overwrite buffer bytes at fits)

  same_below : take at after ≡ take at buffer
  same_below =
      sym (take-take at (at + p) after (omega arith)) ∙ ap (take at) (overwrite_before before inner (at + p) room)
      ∙ take-take at (at + p) before (omega arith) ∙ overwrite_before buffer bytes at fits

  same_above : drop (at + length all) after ≡ drop (at + length all) buffer
  same_above =
      let left = length bytes - (p + length inner) in
      let reach : at + p + length inner + left ≡ at + length bytes = omega arith in
      rw size
      (ap (λ (k : ℕ). drop k after) (sym reach) ∙ sym (drop-drop left (at + p + length inner) after)
      ∙ ap (drop left) (overwrite_behind before inner (at + p) room) ∙ drop-drop left (at + p + length inner) before
      ∙ ap (λ (k : ℕ). drop k before) reach ∙ overwrite_behind buffer bytes at fits)

  pub overwrite_within : part after at (length all) ≡ all → after ≡ overwrite buffer at all
  overwrite_within stands =
      sym (overwrite_same after at (length all) (omega (arith, length_overwrite before inner (at + p) room, length_overwrite buffer bytes at fits)))
      ∙ ap (overwrite after at) stands ∙ ap₂ (λ (x y : List ℕ). x ++ all ++ y) same_below same_above
