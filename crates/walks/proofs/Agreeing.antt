-- Where the first fetches of two alike calls agree, given one memory, they are equal.
use Prim.Native.Nat.{ℕ}
use mathlib.Core.Path.{◌≡◌, refl, ap₂}
use mathlib.Core.List.{List, [], ◌∷◌, ◌++◌}
use mathlib.Core.Bool.{Bool, true}
use lib.ListN.{get_or}
use borrow.Author.Tests.{eqb-true, eq-eqb}
use Rattle.octets.specs.Lists.{all}
use Rattle.octets.proofs.Lists.{both, and_left, and_right}
use Rattle.state.specs.Records.{span}
use Rattle.history.specs.Journal.{Deed}
use Rattle.history.specs.Firsts.{Value, none, some, First, first_if, firsts_among, Memory, firsts_by}
use Rattle.history.proofs.Alike.{View, same, fetching}
use Rattle.walks.specs.Claims.{agree}

module _ {A : Type 0} (p : A → Bool) where
  all_left : (xs ys : List A) → all p (xs ++ ys) ≡ true → all p xs ≡ true
  unfolding all
  all_left [] ys h = refl
  all_left (x ∷ xs) ys h = both (and_left (p x) _ h) (all_left xs ys (and_right (p x) _ h))

  all_right : (xs ys : List A) → all p (xs ++ ys) ≡ true → all p ys ≡ true
  unfolding all
  all_right [] ys h = h
  all_right (x ∷ xs) ys h = all_right xs ys (and_right (p x) _ h)

  all_weaken : (q : A → Bool) → ((x : A) → p x ≡ true → q x ≡ true) → (xs : List A) → all p xs ≡ true → all q xs ≡ true
  unfolding all
  all_weaken q f [] h = refl
  all_weaken q f (x ∷ xs) h = both (f x (and_left (p x) _ h)) (all_weaken q f xs (and_right (p x) _ h))

-- lists that agree do so in their parts
module _ (fs fs' gs gs' : List First) (h : agree (fs ++ fs') (gs ++ gs') ≡ true) where
  pub agree_front : agree fs gs ≡ true
  agree_front = all_weaken _ _ (λ f. all_left _ gs gs') fs (all_left _ fs fs' h)

  pub agree_rest : agree fs' gs' ≡ true
  agree_rest = all_weaken _ _ (λ f. all_right _ gs gs') fs' (all_right _ fs fs' h)

module _ (known : ℕ → Value) (w v : List ℕ) where
  agree_among : (xs : List ℕ) → agree (firsts_among known w xs) (firsts_among known v xs) ≡ true → firsts_among known w xs ≡ firsts_among known v xs
  unfolding firsts_among all
  agree_among [] h = refl
  agree_among (x ∷ xs) h = go (known x) refl (agree_among xs)
    where
      one : First
      one = record { address = x; value = get_or w x 0 }

      other : First
      other = record { address = x; value = get_or v x 0 }

      go : (k : Value) → known x ≡ k → (agree (firsts_among known w xs) (firsts_among known v xs) ≡ true → firsts_among known w xs ≡ firsts_among known v xs)
          → first_if k one (firsts_among known w xs) ≡ first_if k other (firsts_among known v xs)
      go none e ih =
          let F = firsts_among known w xs in
          let G = firsts_among known v xs in
          let here : agree (one ∷ F) (other ∷ G) ≡ true = rw e at h in
          let head : agree (one ∷ []) (other ∷ []) ≡ true = agree_front (one ∷ []) F (other ∷ []) G here in
          let value : get_or w x 0 ≡ get_or v x 0 = eqb-true _ _ (and_left _ true (and_left _ true (rw (eq-eqb x x refl) at head))) in
          ap₂ ◌∷◌ (λ i. record { address = x; value = value i }) (ih (agree_rest (one ∷ []) F (other ∷ []) G here))
      go (some u) e ih = ih (rw e at h)

pub agree_equal : (mem : Memory) (d e : Deed) → View d e → agree (firsts_by mem d) (firsts_by mem e) ≡ true → firsts_by mem d ≡ firsts_by mem e
unfolding firsts_by
agree_equal mem d e same h = refl
agree_equal mem d e (fetching {c} {a} {n} {w} {v}) h = agree_among (mem c) w v (span a n) h
