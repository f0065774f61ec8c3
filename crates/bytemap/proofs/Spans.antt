-- The bytes of a span: each at its address.
use Prim.Native.Nat.{ℕ, ◌+◌, ◌-◌, ◌≤◌, ◌<◌}
use native.Mathlib.Omega.{arith}
use mathlib.Core.Path.{◌≡◌, refl, ap, sym, ◌∙◌}
use mathlib.Core.List.{List, [], map, append-nil}
use mathlib.Core.Bool.{Bool, true, false, cond, ◌&&◌}
use lib.Dec.{leb, ltb}
use lib.ListN.{length, get_or, length-map}
use borrow.Author.Tests.{leb-true, leb-false, ltb-true, ltb-false}
use Rattle.octets.specs.Lists.{overwrite}
use Rattle.octets.proofs.Lists.{and_left, and_right}
use Rattle.octets.proofs.Overwrite.{overwrite_inside, overwrite_below, overwrite_above}
use Rattle.state.specs.Records.{in_span, span}
use Rattle.state.proofs.Places.{length_span, span_at}

pub length_bytes : (f : ℕ → ℕ) (a n : ℕ) → length (map f (span a n)) ≡ n
length_bytes f a n = length-map (span a n) f ∙ length_span a n

-- among the bytes themselves
pub byte_at_lem : (f : ℕ → ℕ) (a n i : ℕ) → i < n → get_or (map f (span a n)) i 0 ≡ f (a + i)
byte_at_lem f a n i h = ap (λ (xs : List ℕ). get_or (map f xs) i 0) (sym (append-nil (span a n))) ∙ span_at f 0 a n [] i h

-- where bytes stand from an address on, each of their addresses has its byte and every other what it had
pub overwritten :
    (buffer bytes : List ℕ) (a : ℕ) → a + length bytes ≤ length buffer → (x : ℕ)
    → get_or (overwrite buffer a bytes) x 0 ≡ cond (in_span a (length bytes) x) (get_or bytes (x - a) 0) (get_or buffer x 0)
overwritten buffer bytes a fits x = go (leb a x) refl (ltb x (a + length bytes)) refl
  where
    go : (p : Bool) → leb a x ≡ p → (q : Bool) → ltb x (a + length bytes) ≡ q
        → get_or (overwrite buffer a bytes) x 0 ≡ cond (p && q) (get_or bytes (x - a) 0) (get_or buffer x 0)
    go true h true k =
        let at : a + (x - a) ≡ x = omega (arith, leb-true) in
        ap (λ (y : ℕ). get_or (overwrite buffer a bytes) y 0) (sym at)
        ∙ overwrite_inside buffer bytes a fits (x - a) 0 (omega (arith, leb-true, ltb-true))
    go true h false k = overwrite_above buffer bytes a fits x 0 (omega (arith, ltb-false))
    go false h q k = overwrite_below buffer bytes a fits x 0 (omega (arith, leb-false))

-- and the byte of a span at each of its addresses is that of the address
pub byte_in : (f : ℕ → ℕ) (a n x : ℕ) → in_span a n x ≡ true → get_or (map f (span a n)) (x - a) 0 ≡ f x
byte_in f a n x inside =
    let low : a ≤ x = leb-true a x (and_left (leb a x) (ltb x (a + n)) inside) in
    let high : x < a + n = ltb-true x (a + n) (and_right (leb a x) (ltb x (a + n)) inside) in
    let here : a + (x - a) ≡ x = omega arith in
    byte_at_lem f a n (x - a) (omega arith) ∙ ap f here
