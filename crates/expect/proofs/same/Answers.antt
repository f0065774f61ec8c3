-- The library says that the words are the same once their letters are small; the definition says it letter by letter.
use Prim.Native.Nat.{ℕ}
use native.Mathlib.Omega.{arith}
use mathlib.Core.Path.{◌≡◌, refl, ap, sym, ◌∙◌}
use mathlib.Core.List.{List, [], ◌∷◌, map}
use mathlib.Core.Bool.{Bool, true, false, ◌&&◌}
use lib.Dec.{eqb}
use lib.ListN.{length, get_or, drop}
use borrow.Author.Tests.{eq-eqb, eqb-true}
use Rattle.std.specs.Bool.{Decides}
use Rattle.std.specs.Char.{to_ascii_lowercase}
use Rattle.std.proofs.lemmas.Bool.{false≢true}
use Rattle.std.proofs.lemmas.Bool.Decides.{same_from_decides}
use Rattle.scan.specs.Scan.{front}
use Rattle.expect.specs.Expect.{lower, same}
use Rattle.expect.proofs.same.Goals as goal

abbrev letter : ℕ → ℕ → Bool
letter x y = eqb (lower x) (lower y)

lower_is : (b : ℕ) → to_ascii_lowercase b ≡ lower b
unfolding lower
lower_is b = grind arith

lowered : (xs : List ℕ) → map to_ascii_lowercase xs ≡ map lower xs
lowered [] = refl
lowered (x ∷ xs) = λ i. lower_is x i ∷ lowered xs i

both : (a b : Bool) → a && b ≡ true → (a ≡ true) × (b ≡ true)
both true b e = (refl, e)
both false b e = absurd (false≢true e)

alike : (xs ys : List ℕ) → map lower xs ≡ map lower ys → same xs ys ≡ true
unfolding same front
alike [] [] e = refl
alike [] (y ∷ ys) e = absurd (omega (arith, ap length e))
alike (x ∷ xs) [] e = absurd (omega (arith, ap length e))
alike (x ∷ xs) (y ∷ ys) e =
    let rest = both (eqb (length xs) (length ys)) (front letter xs ys) (alike xs ys (ap (drop 1) e)) in
    let long : length (x ∷ xs) ≡ length (y ∷ ys) = omega (arith, eqb-true (length xs) (length ys) rest.0) in
    let first : lower x ≡ lower y = ap (λ (l : List ℕ). get_or l 0 0) e in
    rw (eq-eqb (length (x ∷ xs)) (length (y ∷ ys)) long, eq-eqb (lower x) (lower y) first) rest.1

spelled : (xs ys : List ℕ) → same xs ys ≡ true → map lower xs ≡ map lower ys
unfolding same front
spelled [] [] e = refl
spelled [] (y ∷ ys) e = absurd (omega (arith, eqb-true 0 (length (y ∷ ys)) (both (eqb 0 (length (y ∷ ys))) true e).0))
spelled (x ∷ xs) [] e = absurd (false≢true (both (eqb (length (x ∷ xs)) 0) false e).1)
spelled (x ∷ xs) (y ∷ ys) e =
    let parts = both (eqb (length (x ∷ xs)) (length (y ∷ ys))) (letter x y && front letter xs ys) e in
    let rest = both (letter x y) (front letter xs ys) parts.1 in
    let long : length xs ≡ length ys = omega (arith, eqb-true (length (x ∷ xs)) (length (y ∷ ys)) parts.0) in
    let others = spelled xs ys (rw (eq-eqb (length xs) (length ys) long) rest.1) in
    λ i. eqb-true (lower x) (lower y) rest.0 i ∷ others i

decided : (xs ys : List ℕ) → Decides (same xs ys) (map to_ascii_lowercase xs ≡ map to_ascii_lowercase ys)
decided xs ys = (λ e. lowered xs ∙ spelled xs ys e ∙ sym (lowered ys), λ e. alike xs ys (sym (lowered xs) ∙ e ∙ lowered ys))

pub returns : goal.returns
returns c = same_from_decides _ _ c.eq_ignore_ascii_case.ensures.test (decided c.args.one.now c.args.other.now)
