-- What a fetch owes, what it fetches first and what it leaves in the memory, for two windows: each of the three agrees if the values do.
use Prim.Native.Nat.{ℕ, zero, suc, ◌+◌, ◌≤◌, ◌<◌}
use native.Mathlib.Omega.{arith}
use mathlib.Core.Path.{◌≡◌, refl, ap, ap₂, subst, fun_ext}
use mathlib.Core.List.{List, [], ◌∷◌, map}
use mathlib.Core.Bool.{Bool, true, false, cond, ◌&&◌}
use lib.Dec.{leb, ltb, eqb}
use lib.ListN.{get_or}
use borrow.Author.Tests.{leb-true, ltb-true, eqb-true, eqb-false}
use Rattle.octets.proofs.Lists.{and_left, and_right, cons_head, cons_tail}
use Rattle.state.specs.Records.{in_span, span}
use Rattle.history.specs.Journal.{fetched}
use Rattle.history.specs.Firsts.{Value, none, some, or_else, Memory, remember, recall, First, first_if, firsts_among}

abbrev pub value : (ℕ → Value) → List ℕ → ℕ → Value
value known window x = or_else (known x) (get_or window x 0)

-- of one address

value_head : (k : Value) (f g : First) (fs gs : List First) → first_if k f fs ≡ first_if k g gs → (or_else k f.value ≡ or_else k g.value) × (fs ≡ gs)
value_head none f g fs gs e = (ap (λ (h : First). some h.value) (cons_head e), cons_tail e)
value_head (some u) f g fs gs e = (refl, e)

same_first :
    (k : Value) (x u v : ℕ) (fs gs : List First) → or_else k u ≡ or_else k v → fs ≡ gs
    → first_if k (record { address = x; value = u }) fs ≡ first_if k (record { address = x; value = v }) gs
same_first none x u v fs gs e q = let same : u ≡ v = cc in cc
same_first (some t) x u v fs gs e q = q

same_recall : (k : Value) (u v : ℕ) → recall (or_else k u) ≡ recall (or_else k v) → or_else k u ≡ or_else k v
same_recall none u v e = ap some e
same_recall (some t) u v e = refl

-- of a list of addresses

module _ (known : ℕ → Value) (w v : List ℕ) where
  pub firsts_values : (xs : List ℕ) → firsts_among known w xs ≡ firsts_among known v xs → map (value known w) xs ≡ map (value known v) xs
  unfolding firsts_among
  firsts_values [] e = refl
  firsts_values (x ∷ xs) e =
      let one : First = record { address = x; value = get_or w x 0 } in
      let other : First = record { address = x; value = get_or v x 0 } in
      let h = value_head (known x) one other (firsts_among known w xs) (firsts_among known v xs) e in
      ap₂ ◌∷◌ h.0 (firsts_values xs h.1)

  pub values_firsts : (xs : List ℕ) → map (value known w) xs ≡ map (value known v) xs → firsts_among known w xs ≡ firsts_among known v xs
  unfolding firsts_among
  values_firsts [] e = refl
  values_firsts (x ∷ xs) e = same_first (known x) x (get_or w x 0) (get_or v x 0) _ _ (cons_head e) (values_firsts xs (cons_tail e))

  pub owed_values :
      (xs : List ℕ) → map (λ x. recall (value known w x)) xs ≡ map (λ x. recall (value known v x)) xs → map (value known w) xs ≡ map (value known v) xs
  owed_values [] e = refl
  owed_values (x ∷ xs) e = ap₂ ◌∷◌ (same_recall (known x) (get_or w x 0) (get_or v x 0) (cons_head e)) (owed_values xs (cons_tail e))

  pub values_owed :
      (xs : List ℕ) → map (value known w) xs ≡ map (value known v) xs → map (λ x. recall (value known w x)) xs ≡ map (λ x. recall (value known v x)) xs
  values_owed [] e = refl
  values_owed (x ∷ xs) e = ap₂ ◌∷◌ (ap recall (cons_head e)) (values_owed xs (cons_tail e))

-- of a span

pub at_span : {B : Type 0} (f g : ℕ → B) (a n : ℕ) → map f (span a n) ≡ map g (span a n) → (x : ℕ) → a ≤ x → x < a + n → f x ≡ g x
unfolding span
at_span f g a zero e x low high = absurd (omega arith)
at_span f g a (suc n) e x low high = go (eqb a x) refl (λ (h : suc a ≤ x). at_span f g (suc a) n (cons_tail e) x h (omega arith))
  where
    go : (b : Bool) → eqb a x ≡ b → (suc a ≤ x → f x ≡ g x) → f x ≡ g x
    go true q later = subst (λ (y : ℕ). f y ≡ g y) (eqb-true a x q) (cons_head e)
    go false q later = later (let apart = eqb-false a x q in omega arith)

pub in_span_lem : (a n x : ℕ) → in_span a n x ≡ true → (a ≤ x) × (x < a + n)
in_span_lem a n x e = (leb-true _ _ (and_left (leb a x) (ltb x (a + n)) e), ltb-true _ _ (and_right (leb a x) (ltb x (a + n)) e))

module _ (mem : Memory) (c a n : ℕ) (w v : List ℕ) (same : map (value (mem c) w) (span a n) ≡ map (value (mem c) v) (span a n)) where
  at_value : (d x : ℕ) (own near : Bool) → eqb d c ≡ own → in_span a n x ≡ near
      → cond (own && near) (value (mem d) w x) (mem d x) ≡ cond (own && near) (value (mem d) v x) (mem d x)
  at_value d x false near p q = refl
  at_value d x true false p q = refl
  at_value d x true true p q =
      let i = in_span_lem a n x q in
      rw (eqb-true d c p) (at_span (value (mem c) w) (value (mem c) v) a n same x i.0 i.1)

  pub values_remember : remember mem (fetched c a n w) ≡ remember mem (fetched c a n v)
  unfolding remember
  values_remember = fun_ext λ d. fun_ext λ x. at_value d x (eqb d c) (in_span a n x) refl refl
