-- Laws of the records, for the calls and for the claims over lists of calls.
use Prim.Native.Nat.{ℕ, zero, suc, ◌+◌, ◌-◌, ◌≤◌, ◌<◌, min, max}
use mathlib.Core.Path.{◌≡◌, refl, sym, ap, ap₂, ◌∙◌}
use mathlib.Core.List.{List, [], ◌∷◌, ◌++◌, map, map-id, map-append, append_assoc}
use mathlib.Core.Bool.{Bool, true, false, ◌&&◌, false≢true, or-true, or-false, and-eq-true_iff}
use native.Mathlib.Omega.{arith}
use lib.Dec.{ltb, leb}
use lib.ListN.{length, take, drop, get_or, length-append}
use lib.Seq.{take-add, drop-drop}
use borrow.Author.Tests.{leb-true, leb-false, le-ltb}
use Rattle.state.specs.declared.Record.{Record}
use Rattle.state.specs.Records.{past, in_span, held, span, addresses, total, place, count_fresh, fresh, shares, joined}
use Rattle.state.specs.State.{ascending}
use Rattle.state.specs.Claims.{SharesByte, HeldJoined, AscendingJoined, TotalJoined, HeldPlace}
use Rattle.state.proofs.Cases.{leb_iff, Lies, over, within, beneath, lies, Ascends, ascends, inside, below, above}
use Rattle.state.proofs.Merge.{merged, held_merged, ascending_merged, total_merged}
use Rattle.state.proofs.Places.{place_all, place_low, held_low, place_grows, fresh_place, span_at, span_past, map_span, map_read, length_span}

-- an address is held after a span is joined exactly if it was, or is in the span
pub held_joined : HeldJoined
unfolding joined merged
held_joined rs a zero x = rw (go (leb a x) refl, or-false)
  where
    go : (t : Bool) → leb a x ≡ t → (t && ltb x (a + 0)) ≡ false
    go true p = le-ltb x (a + 0) (omega (arith, leb-true a x p))
    go false p = refl
held_joined rs a (suc n) x = held_merged a (a + suc n) (omega arith) rs a (a + suc n) x (omega arith) (omega arith)

-- joined records ascend again
pub ascending_joined : AscendingJoined
unfolding joined merged
ascending_joined rs a zero up fits = up
ascending_joined rs a (suc n) up fits = ascending_merged a (a + suc n) (omega arith) 0 0 rs a (a + suc n) up (omega arith) (omega arith) (omega arith) fits

-- what is held grows by what was fresh
pub total_joined : TotalJoined
unfolding joined merged
total_joined rs a zero up = unfold span count_fresh in omega arith
total_joined rs a (suc n) up =
    omega (arith, fresh_place 0 rs a (suc n) up, total_merged a (a + suc n) (omega arith) 0 rs a (a + suc n) up (omega arith))

pub length_addresses : (rs : List Record) → length (addresses rs) ≡ total rs
unfolding addresses total
length_addresses [] = refl
length_addresses (r ∷ rs) = rw (length-append, length_span, length_addresses rs)

-- a held address has a place among the held bytes
pub place_below : (lo : ℕ) (rs : List Record) (x : ℕ) → ascending lo rs ≡ true → held rs x ≡ true → place rs x < total rs
unfolding held place total
place_below lo [] x up h = absurd (false≢true h)
place_below lo (r ∷ rs) x up h = let u = ascends lo r rs up in go u (place_below (suc (past r)) rs x u.rest) (lies x r)
  where
    go : Ascends lo r rs → (held rs x ≡ true → place rs x < total rs) → Lies x r → place (r ∷ rs) x < total (r ∷ rs)
    go u ih (over k) = omega (arith, ih (rw (above r x k) at h))
    go u ih (within j k) = omega (arith, place_low (suc (past r)) rs x u.rest (omega arith))
    go u ih (beneath k) = omega (arith, ih (rw (below r x k) at h))

-- and what stands at that place, of a list made address by address, is what was made of that address
pub at_place : (f : ℕ → ℕ) (d lo : ℕ) (rs : List Record) (x : ℕ) → ascending lo rs ≡ true → held rs x ≡ true → get_or (map f (addresses rs)) (place rs x) d ≡ f x
unfolding held place addresses
at_place f d lo [] x up h = absurd (false≢true h)
at_place f d lo (r ∷ rs) x up h = let u = ascends lo r rs up in go u (at_place f d (suc (past r)) rs x u.rest) (lies x r)
  where
    go : Ascends lo r rs → (held rs x ≡ true → get_or (map f (addresses rs)) (place rs x) d ≡ f x) → Lies x r
        → get_or (map f (addresses (r ∷ rs))) (place (r ∷ rs) x) d ≡ f x
    go u ih (over k) = rw (place_all r x k, span_past) (ih (rw (above r x k) at h))
    go u ih (within j k) =
        let e : min r.len (x - r.start) + place rs x ≡ x - r.start = omega (arith, place_low (suc (past r)) rs x u.rest (omega arith)) in
        rw e (span_at f d _ _ _ _ (omega arith) ∙ ap f (omega arith))
    go u ih (beneath k) = absurd (false≢true (sym (held_low (suc (past r)) rs x u.rest (omega arith)) ∙ rw (below r x k) at h))

pub held_place : HeldPlace
held_place rs x d up h =
    (place_below 0 rs x up h, ap (λ (l : List ℕ). get_or l (place rs x) d) (sym (map-id (addresses rs))) ∙ at_place (λ y. y) d 0 rs x up h)

-- two functions that agree at every held address make the same list
pub map_held : (f g : ℕ → ℕ) (rs : List Record) → ((x : ℕ) → held rs x ≡ true → f x ≡ g x) → map f (addresses rs) ≡ map g (addresses rs)
unfolding held addresses
map_held f g [] same = refl
map_held f g (r ∷ rs) same =
    map_span f g r.start r.len (addresses rs) (λ x h k. same x (rw (inside r x h k)))
    (map_held f g rs (λ x h. same x (rw (h, or-true))))

-- the fresh addresses of a span, without a walk over them
pub fresh_by_place : (lo : ℕ) (rs : List Record) (a n : ℕ) → ascending lo rs ≡ true → fresh rs a n + (place rs (a + n) - place rs a) ≡ n
fresh_by_place lo rs a n up = omega (arith, fresh_place lo rs a n up, place_grows rs a (a + n) (omega arith))

-- addresses and places of two lists of records put together
pub addresses_append : (rs ts : List Record) → addresses (rs ++ ts) ≡ addresses rs ++ addresses ts
unfolding addresses
addresses_append [] ts = refl
addresses_append (r ∷ rs) ts = rw (append_assoc, addresses_append rs ts)

pub total_append : (rs ts : List Record) → total (rs ++ ts) ≡ total rs + total ts
unfolding total
total_append [] ts = omega arith
total_append (r ∷ rs) ts = omega (arith, total_append rs ts)

-- where a record lies behind an ascending list's start, so do the addresses that the list holds
held_above : (lo : ℕ) (rs : List Record) (x : ℕ) → ascending lo rs ≡ true → held rs x ≡ true → lo ≤ x
held_above lo rs x up h = go (leb lo x) refl
  where
    go : (b : Bool) → leb lo x ≡ b → lo ≤ x
    go true e = leb-true lo x e
    go false e = absurd (false≢true (sym (held_low lo rs x up (leb-false lo x e)) ∙ h))

-- The packed bytes of a store from k on, read back address by address, are what stands there. A fetch of which nothing is fresh
-- writes these bytes.
pub packed_back :
    (l : List ℕ) (k lo : ℕ) (rs : List Record) → ascending lo rs ≡ true → k + total rs ≤ length l
    → map (λ x. get_or l (k + place rs x) 0) (addresses rs) ≡ take (total rs) (drop k l)
unfolding addresses total place
packed_back l k lo [] up fits = refl
packed_back l k lo (r ∷ rs) up fits =
    let u = ascends lo r rs up in
    let own = map_read (λ x. get_or l (k + place (r ∷ rs) x) 0) l k r.start r.len (omega arith) (λ i h. ap (λ (j : ℕ). get_or l j 0) (own_place u i h)) in
    let moved
    = map_held (λ x. get_or l (k + place (r ∷ rs) x) 0) (λ x. get_or l (k + r.len + place rs x) 0) rs (λ x h. ap (λ (j : ℕ). get_or l j 0) (later_place u x h)) in
    let rest = packed_back l (k + r.len) (suc (past r)) rs u.rest (omega arith) in
    map-append (λ x. get_or l (k + place (r ∷ rs) x) 0) (span r.start r.len) (addresses rs)
    ∙ ap₂ ◌++◌ own (moved ∙ rest ∙ ap (take (total rs)) (sym (drop-drop r.len k l)))
    ∙ sym (take-add r.len (total rs) (drop k l))
  where
    own_place : Ascends lo r rs → (i : ℕ) → i < r.len → k + (min r.len (r.start + i - r.start) + place rs (r.start + i)) ≡ k + i
    own_place u i h = omega (arith, place_low (suc (past r)) rs (r.start + i) u.rest (omega arith))

    later_place : Ascends lo r rs → (x : ℕ) → held rs x ≡ true → k + (min r.len (x - r.start) + place rs x) ≡ k + r.len + place rs x
    later_place u x h = omega (arith, held_above (suc (past r)) rs x u.rest h)

-- Two spans share a byte exactly if `shares` says so: the higher of their starts is then in both.
pub shares_byte : SharesByte
shares_byte a n r some full = (one, any)
  where
    one : shares a n r ≡ true → (x : ℕ) × (in_span r.start r.len x ≡ true) × (in_span a n x ≡ true)
    one h =
        let m = simp (and-eq-true_iff, leb_iff) at h in
        (max a r.start, simp (and-eq-true_iff, leb_iff) (omega arith, omega arith), simp (and-eq-true_iff, leb_iff) (omega arith, omega arith))

    any : (x : ℕ) × (in_span r.start r.len x ≡ true) × (in_span a n x ≡ true) → shares a n r ≡ true
    any (x, h, k) =
        let i = simp (and-eq-true_iff, leb_iff) at h in
        let j = simp (and-eq-true_iff, leb_iff) at k in
        simp (and-eq-true_iff, leb_iff) (omega arith, omega arith)
