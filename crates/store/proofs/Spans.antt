-- A span that was joined lies in one record, so its bytes stand side by side among the packed ones: they are read as one part, and written as one.
use Prim.Native.Nat.{ℕ, suc, ◌+◌, ◌-◌, ◌≤◌, ◌<◌}
use native.Mathlib.Omega.{arith}
use mathlib.Core.Path.{◌≡◌, refl, ap, sym, fun_ext, ◌∙◌}
use mathlib.Core.List.{List, [], map}
use mathlib.Core.Bool.{Bool, true, false, or-true}
use lib.Dec.{leb, ltb}
use lib.ListN.{length, drop, get_or, length-map}
use lib.Seq.{take_all}
use borrow.Author.Tests.{leb-true, leb-false, ltb-true, ltb-false, le-leb, lt-ltb}
use Rattle.octets.specs.Lists.{overwrite, part}
use Rattle.octets.proofs.Lists.{both}
use Rattle.octets.proofs.Overwrite.{overwrite_inside, overwrite_below, overwrite_above, overwrite_within, length_overwrite}
use Rattle.state.specs.declared.Record.{Record}
use Rattle.state.specs.Limits.{window_limit}
use Rattle.state.specs.Records.{in_span, held, place, span, addresses, total, joined}
use Rattle.state.specs.State.{ascending}
use Rattle.state.proofs.Laws.{held_joined, ascending_joined, length_addresses, place_below, at_place, map_held, packed_back}
use Rattle.state.proofs.Places.{map_read, place_along, place_suc, place_grows}
use Rattle.store.specs.Store.{from, sees, written}

-- where an address lies to a span
data Beside (a n x : ℕ) : Type 0 where
  lower : x < a → in_span a n x ≡ false → Beside a n x
  inner : a ≤ x → x < a + n → in_span a n x ≡ true → Beside a n x
  upper : a + n ≤ x → in_span a n x ≡ false → Beside a n x

beside : (a n x : ℕ) → Beside a n x
beside a n x = go (leb a x) (ltb x (a + n)) refl refl
  where
    go : (s t : Bool) → leb a x ≡ s → ltb x (a + n) ≡ t → Beside a n x
    go false t e f = lower (leb-false a x e) (rw e)
    go true true e f = inner (leb-true a x e) (ltb-true x (a + n) f) (rw (e, f))
    go true false e f = upper (ltb-false x (a + n) f) (rw (e, f))

-- no bytes are written nowhere
pub written_none : (a : ℕ) (f : ℕ → ℕ) → written a [] f ≡ f
written_none a f = fun_ext λ x. go x (beside a 0 x)
  where
    go : (x : ℕ) → Beside a 0 x → written a [] f x ≡ f x
    go x (lower h e) = rw e
    go x (inner h k e) = absurd (omega arith)
    go x (upper h e) = rw e

-- at the addresses of the written bytes, these
pub written_span : (a : ℕ) (bytes : List ℕ) (f : ℕ → ℕ) → map (written a bytes f) (span a (length bytes)) ≡ bytes
written_span a bytes f =
    map_read (written a bytes f) bytes 0 a (length bytes) (omega arith) at_each ∙ take_all (length bytes) (drop 0 bytes) (omega arith)
  where
    at_each : (i : ℕ) → i < length bytes → written a bytes f (a + i) ≡ get_or bytes (0 + i) 0
    at_each i h =
        rw (both (le-leb a (a + i) (omega arith)) (lt-ltb (a + i) (a + length bytes) (omega arith))) (ap (λ (k : ℕ). get_or bytes k 0) (omega arith))

module _ (rs : List Record) (location : ℕ → ℕ) (store : List ℕ) (a : ℕ) (bytes : List ℕ) where
  abbrev seen : ℕ → ℕ
  seen = sees rs location store (from a bytes)

  -- where none of their addresses is held, the written bytes are seen there already, if they are the source
  pub written_new : ((i : ℕ) → i < length bytes → held rs (a + i) ≡ false) → written a bytes seen ≡ seen
  written_new unheld = fun_ext λ x. go x (beside a (length bytes) x)
    where
      go : (x : ℕ) → Beside a (length bytes) x → written a bytes seen x ≡ seen x
      go x (lower h e) = rw e
      go x (inner h k e) =
          let split : a + (x - a) ≡ x = omega arith in
          rw (e, sym (ap (held rs) split) ∙ unheld (x - a) (omega arith))
      go x (upper h e) = rw e

module _ (rs : List Record) (a n : ℕ) (up : ascending 0 rs ≡ true) (low : a + n ≤ window_limit) where
  abbrev rs' : List Record
  rs' = joined rs a n

  up' : ascending 0 rs' ≡ true
  up' = ascending_joined rs a n up low

  held_there : (i : ℕ) → i < n → held rs' (a + i) ≡ true
  held_there i h = held_joined rs a n (a + i) ∙ rw (both (le-leb a (a + i) (omega arith)) (lt-ltb (a + i) (a + n) (omega arith)), or-true)

  along : (i : ℕ) → i ≤ n → place rs' (a + i) ≡ place rs' a + i
  along i h = place_along 0 rs' a i up' (λ j g. held_there j (omega arith))

  pub span_below : 0 < n → place rs' a + n ≤ total rs'
  span_below some =
      let last : n - 1 < n = omega arith in
      omega (arith, along (n - 1) (omega arith), place_below 0 rs' (a + (n - 1)) up' (held_there (n - 1) last))

  -- the bytes of the joined records are packed from k on
  module _ (f : ℕ → ℕ) (store : List ℕ) (k : ℕ) (fits : k + total rs' ≤ length store) (some : 0 < n) where
    abbrev bytes : List ℕ
    bytes = map f (addresses rs')

    size : length bytes ≡ total rs'
    size = length-map (addresses rs') f ∙ length_addresses rs'

    room : k + length bytes ≤ length store
    room = omega (arith, size)

    at_address : (x : ℕ) → held rs' x ≡ true → get_or (overwrite store k bytes) (k + place rs' x) 0 ≡ f x
    at_address x h =
        let near : place rs' x < length bytes = omega (arith, size, place_below 0 rs' x up' h) in
        overwrite_inside store bytes k room (place rs' x) 0 near ∙ at_place f 0 0 rs' x up' h

    -- they are read as one part
    pub read_back : part (overwrite store k bytes) (k + place rs' a) n ≡ map f (span a n)
    read_back = sym (map_read f (overwrite store k bytes) (k + place rs' a) a n (omega (arith, span_below some, length_overwrite store bytes k room)) read)
      where
        read : (i : ℕ) → i < n → f (a + i) ≡ get_or (overwrite store k bytes) (k + place rs' a + i) 0
        read i h =
            let there : k + place rs' (a + i) ≡ k + place rs' a + i = omega (arith, along i (omega arith)) in
            sym (at_address (a + i) (held_there i h)) ∙ ap (λ (j : ℕ). get_or (overwrite store k bytes) j 0) there

    -- and written as one
    module _ (new : List ℕ) (whole : length new ≡ n) where
      abbrev at : ℕ
      at = k + place rs' a

      inside : at + length new ≤ length (overwrite store k bytes)
      inside = omega (arith, span_below some, length_overwrite store bytes k room)

      abbrev after : List ℕ
      after = overwrite (overwrite store k bytes) at new

      written_at : (x : ℕ) → held rs' x ≡ true → get_or after (k + place rs' x) 0 ≡ written a new f x
      written_at x h = go (beside a (length new) x)
        where
          go : Beside a (length new) x → get_or after (k + place rs' x) 0 ≡ written a new f x
          go (lower l e) =
              let next : place rs' (suc x) ≡ place rs' x + 1 = place_suc 0 rs' x up' ∙ rw h in
              rw e
              (overwrite_below (overwrite store k bytes) new at inside (k + place rs' x) 0 (omega (arith, place_grows rs' (suc x) a (omega arith)))
              ∙ at_address x h)
          go (inner l g e) =
              let split : a + (x - a) ≡ x = omega arith in
              let there : k + place rs' x ≡ at + (x - a) = omega (arith, along (x - a) (omega arith), ap (place rs') split) in
              rw (e, there) (overwrite_inside (overwrite store k bytes) new at inside (x - a) 0 (omega arith))
          go (upper g e) =
              rw e
              (overwrite_above (overwrite store k bytes) new at inside (k + place rs' x) 0
              (omega (arith, along n (omega arith), place_grows rs' (a + n) x (omega arith)))
              ∙ at_address x h)

      pub written_over : overwrite (overwrite store k bytes) at new ≡ overwrite store k (map (written a new f) (addresses rs'))
      written_over =
          let all = map (written a new f) (addresses rs') in
          let many : length all ≡ total rs' = length-map (addresses rs') (written a new f) ∙ length_addresses rs' in
          overwrite_within store bytes new all k (place rs' a) room (omega (arith, span_below some, size)) (omega (arith, many, size))
          (ap (λ (j : ℕ). part after k j) many
          ∙ sym (packed_back after k 0 rs' up' (omega (arith, length_overwrite (overwrite store k bytes) new at inside, length_overwrite store bytes k room)))
          ∙ map_held (λ x. get_or after (k + place rs' x) 0) (written a new f) rs' written_at)
