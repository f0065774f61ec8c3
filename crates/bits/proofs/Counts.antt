-- Laws of counts over spans: a span in two, tests that agree, a span that starts elsewhere, none that pass, those of a span within a span; and those
-- that pass and those that do not.
use Prim.Native.Nat.{ℕ, zero, suc, ◌+◌, ◌-◌, ◌≤◌, ◌<◌}
use native.Mathlib.Omega.{arith}
use native.Mathlib.Nat.{add-zero, zero-add}
use mathlib.Core.Path.{◌≡◌, refl, sym, ap, ap₂, ◌∙◌}
use mathlib.Core.List.{List, [], ◌∷◌, ◌++◌}
use mathlib.Core.Bool.{Bool, true, false, not, cond, ◌&&◌, and-true, and-false}
use lib.Dec.{leb}
use lib.ListN.{length}
use borrow.Author.Tests.{le-leb, lt-leb, lt-ltb, le-ltb}
use Rattle.octets.specs.Lists.{count}
use Rattle.state.specs.Records.{span, in_span}
use Rattle.state.proofs.Places.{span_append}

pub count_append : {A : Type 0} (test : A → Bool) (xs ys : List A) → count test (xs ++ ys) ≡ count test xs + count test ys
unfolding count
count_append test [] ys = sym (zero-add (count test ys))
count_append test (x ∷ xs) ys = omega (arith, count_append test xs ys)

-- a span in two
pub count_split : (test : ℕ → Bool) (a m n : ℕ) → count test (span a (m + n)) ≡ count test (span a m) + count test (span (a + m) n)
count_split test a m n = ap (count test) (span_append a m n) ∙ count_append test (span a m) (span (a + m) n)

-- two spans of one length, and tests that agree place by place
pub count_same : (f g : ℕ → Bool) (a b n : ℕ) → ((j : ℕ) → j < n → f (a + j) ≡ g (b + j)) → count f (span a n) ≡ count g (span b n)
unfolding count span
count_same f g a b zero same = refl
count_same f g a b (suc n) same =
    let first : f a ≡ g b = ap f (sym (add-zero a)) ∙ same 0 (omega arith) ∙ ap g (add-zero b) in
    rw (first)
    (ap (λ (m : ℕ). cond (g b) 1 0 + m)
    (count_same f g (suc a) (suc b) n (λ j h. ap f (omega arith) ∙ same (suc j) (omega arith) ∙ ap g (omega arith))))

pub count_empty : (test : ℕ → Bool) (a : ℕ) → count test (span a 0) ≡ 0
unfolding count span
count_empty test a = refl

-- where no address passes the count is zero
pub count_none : (test : ℕ → Bool) (a n : ℕ) → ((x : ℕ) → a ≤ x → x < a + n → test x ≡ false) → count test (span a n) ≡ 0
unfolding count span
count_none test a zero none = refl
count_none test a (suc n) none =
    rw (none a (omega arith) (omega arith)) (omega (arith, count_none test (suc a) n (λ x h k. none x (omega arith) (omega arith))))

-- no more addresses pass than there are
pub count_bound : (test : ℕ → Bool) (a n : ℕ) → count test (span a n) ≤ n
unfolding count span
count_bound test a zero = omega arith
count_bound test a (suc n) = go (test a) (count_bound test (suc a) n)
  where
    go : (b : Bool) → count test (span (suc a) n) ≤ n → cond b 1 0 + count test (span (suc a) n) ≤ suc n
    go true h = omega arith
    go false h = omega arith

-- Of the addresses of a span, those in a span within it.
pub count_within : (test : ℕ → Bool) (a m low n : ℕ) → a ≤ low → low + n ≤ a + m
    → count (λ x. test x && in_span low n x) (span a m) ≡ count test (span low n)
count_within test a m low n h k =
    ap (λ (l : ℕ). count inner (span a l)) (omega arith)
    ∙ count_split inner a (low - a) (n + (a + m - (low + n)))
    ∙ ap₂ (λ (x y : ℕ). x + y)
    (count_none inner a (low - a) (λ x i j. rw (lt-leb low x (omega arith)) (and-false (test x))))
    (ap (λ (s : ℕ). count inner (span s (n + (a + m - (low + n))))) (omega arith)
    ∙ count_split inner low n (a + m - (low + n))
    ∙ ap₂ (λ (x y : ℕ). x + y)
    (count_same inner test low low n
    (λ j i. rw (le-leb low (low + j) (omega arith), lt-ltb (low + j) (low + n) (omega arith)) (and-true (test (low + j)))))
    (count_none inner (low + n) (a + m - (low + n))
    (λ x i j. rw (le-ltb x (low + n) i, and-false (leb low x)) (and-false (test x)))))
    ∙ omega arith
  where
    inner : ℕ → Bool
    inner x = test x && in_span low n x

-- an element passes or it does not
pub counts_fill : (test : ℕ → Bool) (xs : List ℕ) → count test xs + count (λ x. not (test x)) xs ≡ length xs
unfolding count
counts_fill test [] = refl
counts_fill test (x ∷ xs) = go (test x) (count test xs) (count (λ y. not (test y)) xs) (counts_fill test xs)
  where
    go : (b : Bool) (k l : ℕ) → k + l ≡ length xs → cond b 1 0 + k + (cond (not b) 1 0 + l) ≡ suc (length xs)
    go true k l e = omega arith
    go false k l e = omega arith
