-- Laws of tests and of lists: both of two tests, a test on every element, equal heads and tails, an element of two lists put together, as
-- many elements as there are.
use Prim.Native.Nat.{ℕ, zero, suc, ◌+◌, min}
use native.Mathlib.Nat.{zero-min, min-zero, suc-min-suc}
use mathlib.Core.Path.{◌≡◌, refl, ap, subst}
use mathlib.Core.List.{List, [], ◌∷◌, ◌++◌}
use mathlib.Core.Bool.{Bool, true, false, ◌&&◌}
use lib.ListN.{length, take, get_or, replicate, set}
use lib.Seq.{get_or-append-add}
use Rattle.octets.specs.Lists.{all}

pub both : {p q : Bool} → p ≡ true → q ≡ true → (p && q) ≡ true
both h k = cc

pub and_left : (a b : Bool) → (a && b) ≡ true → a ≡ true
and_left true b e = refl
and_left false b e = e

pub and_right : (a b : Bool) → (a && b) ≡ true → b ≡ true
and_right true b e = e
and_right false b e = cc

module _ {A : Type 0} (p : A → Bool) where
  pub all_at : (l : List A) (i : ℕ) (d : A) → all p l ≡ true → p d ≡ true → p (get_or l i d) ≡ true
  unfolding all
  all_at [] i d e h = h
  all_at (x ∷ xs) zero d e h = and_left (p x) (all p xs) e
  all_at (x ∷ xs) (suc i) d e h = all_at xs i d (and_right (p x) (all p xs) e) h

  pub all_set : (l : List A) (i : ℕ) (a : A) → all p l ≡ true → p a ≡ true → all p (set l i a) ≡ true
  unfolding all
  all_set [] i a e h = e
  all_set (x ∷ xs) zero a e h = rw h (and_right (p x) (all p xs) e)
  all_set (x ∷ xs) (suc i) a e h = rw (and_left (p x) (all p xs) e) (all_set xs i a (and_right (p x) (all p xs) e) h)

  pub all_replicate : (n : ℕ) (a : A) → p a ≡ true → all p (replicate n a) ≡ true
  unfolding all
  all_replicate zero a h = refl
  all_replicate (suc n) a h = rw h (all_replicate n a h)

module _ {A : Type 0} {x y : A} {xs ys : List A} where
  pub cons_head : x ∷ xs ≡ y ∷ ys → x ≡ y
  cons_head e = cc

  pub cons_tail : x ∷ xs ≡ y ∷ ys → xs ≡ ys
  cons_tail e = cc

module _ {A : Type 0} where
  pub get_d_past_lem : (xs ys : List A) (n i : ℕ) (d : A) → length xs ≡ n → get_or (xs ++ ys) (n + i) d ≡ get_or ys i d
  get_d_past_lem xs ys n i d e = subst (λ (k : ℕ). get_or (xs ++ ys) (k + i) d ≡ get_or ys i d) e (get_or-append-add xs ys i d)

  -- an element beyond the end is the default, so of equal elements every one is that element
  pub get_d_same_lem : (n i : ℕ) (a : A) → get_or (replicate n a) i a ≡ a
  get_d_same_lem zero i a = refl
  get_d_same_lem (suc n) zero a = refl
  get_d_same_lem (suc n) (suc i) a = get_d_same_lem n i a

  -- for a count that a loop bounds by the length: no more is taken than there is
  pub take_min : (n : ℕ) (l : List A) → take (min n (length l)) l ≡ take n l
  take_min zero l = rw zero-min
  take_min (suc n) [] = rw min-zero
  take_min (suc n) (x ∷ xs) = rw suc-min-suc (ap (λ (l : List A). x ∷ l) (take_min n xs))
