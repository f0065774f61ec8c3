-- Laws of values that are zero where their addresses are not held.
use Prim.Native.Nat.{ℕ, zero, suc, ◌+◌, ◌*◌, ◌-◌, ◌/◌, ◌%◌, ◌<◌, ◌≤◌}
use native.Mathlib.Omega.{arith}
use native.Mathlib.Nat.{add-zero, zero-add}
use mathlib.Core.Path.{◌≡◌, refl, ap, ap₂, sym, ◌∙◌}
use mathlib.Core.List.{List, [], ◌∷◌, ◌++◌}
use mathlib.Core.Bool.{Bool, true, false, ◌&&◌, ◌||◌, and-false}
use lib.Dec.{eqb}
use lib.ListN.{length, get_or, take, drop}
use lib.Seq.{get_or-take, get_or-drop}
use Rattle.octets.specs.Lists.{all, all_zero}
use Rattle.state.specs.Records.{span}
use Rattle.state.proofs.Places.{span_append}
use Rattle.bits.specs.Bits.{bit, is_set}
use Rattle.stretches.specs.Values.{clean}

-- it depends on the tests and the values of the span alone, wherever they stand
pub clean_moved :
    (f g : ℕ → Bool) (l m : List ℕ) (a b n : ℕ)
    → ((j : ℕ) → j < n → (f (a + j) ≡ g (b + j)) × (get_or l (a + j) 0 ≡ get_or m (b + j) 0))
    → clean f l a n ≡ clean g m b n
unfolding all span
clean_moved f g l m a b zero same = refl
clean_moved f g l m a b (suc n) same =
    let first = same 0 (omega arith) in
    let here : (f a || eqb (get_or l a 0) 0) ≡ (g b || eqb (get_or m b 0) 0) =
    ap₂ (λ (t : Bool) (v : ℕ). t || eqb v 0) (rw (add-zero, add-zero) at first.0) (rw (add-zero, add-zero) at first.1) in
    ap₂ (λ (s t : Bool). s && t) here
    (clean_moved f g l m (suc a) (suc b) n (λ j h.
    let next = same (suc j) (omega arith) in
    let up : (k : ℕ) → suc k + j ≡ k + suc j = λ k. omega arith in
    (ap f (up a) ∙ next.0 ∙ ap g (sym (up b)), ap (λ (k : ℕ). get_or l k 0) (up a) ∙ next.1 ∙ ap (λ (k : ℕ). get_or m k 0) (sym (up b)))))

-- where all are held
pub clean_full :
    (held : ℕ → Bool) (values : List ℕ) (a n : ℕ) → ((x : ℕ) → a ≤ x → x < a + n → held x ≡ true) → clean held values a n ≡ true
unfolding all span
clean_full held values a zero every = refl
clean_full held values a (suc n) every =
    rw (every a (omega arith) (omega arith)) (clean_full held values (suc a) n (λ x h k. every x (omega arith) (omega arith)))

-- in two parts
all_append : (test : ℕ → Bool) (xs ys : List ℕ) → all test (xs ++ ys) ≡ (all test xs && all test ys)
unfolding all
all_append test [] ys = refl
all_append test (x ∷ xs) ys = ap (λ (b : Bool). test x && b) (all_append test xs ys) ∙ go (test x) (all test xs) (all test ys)
  where
    go : (b c d : Bool) → (b && (c && d)) ≡ (b && c && d)
    go true c d = refl
    go false c d = refl

pub clean_parts :
    (held : ℕ → Bool) (values : List ℕ) (a m n : ℕ)
    → clean held values a (m + n) ≡ (clean held values a m && clean held values (a + m) n)
clean_parts held values a m n =
    let test : ℕ → Bool = λ x. held x || eqb (get_or values x 0) 0 in
    ap (all test) (span_append a m n) ∙ all_append test (span a m) (span (a + m) n)

-- none of them before the first
pub clean_start : (held : ℕ → Bool) (values : List ℕ) → clean held values 0 0 ≡ true
unfolding all span
clean_start held values = refl

-- where none is held all values count
pub clean_all : (values : List ℕ) → all_zero values ≡ clean (λ x. false) values 0 (length values)
unfolding all span
clean_all [] = refl
clean_all (v ∷ values) =
    ap (λ (b : Bool). eqb v 0 && b)
    (clean_all values
    ∙ clean_moved (λ x. false) (λ x. false) values (v ∷ values) 0 1 (length values) (λ j h.
    let next : suc j ≡ 1 + j = omega arith in
    (refl, ap (λ (k : ℕ). get_or values k 0) (zero-add j) ∙ ap (λ (k : ℕ). get_or (v ∷ values) k 0) next)))

-- values lent as a part of all
pub clean_lent : (f g : ℕ → Bool) (values : List ℕ) (x k : ℕ) → ((j : ℕ) → j < k → f j ≡ g (x + j))
    → clean f (take (x + k - x) (drop x values)) 0 k ≡ clean g values x k
clean_lent f g values x k same =
    let lent = take (x + k - x) (drop x values) in
    clean_moved f g lent values 0 x k
    (λ j h. (
      ap f (zero-add j) ∙ same j h,
      ap (λ (i : ℕ). get_or lent i 0) (zero-add j) ∙ get_or-take (x + k - x) (drop x values) j 0 (omega arith) ∙ get_or-drop x values j 0,
    ))

-- the values of one word of the map
pub clean_word_lent : (words values : List ℕ) (i : ℕ)
    → clean (bit (get_or words i 0)) (take (64 * i + 64 - 64 * i) (drop (64 * i) values)) 0 64 ≡ clean (is_set words) values (64 * i) 64
clean_word_lent words values i =
    clean_lent (bit (get_or words i 0)) (is_set words) values (64 * i) 64
    (λ j h.
    let word : (64 * i + j) / 64 ≡ i = omega arith in
    let place : (64 * i + j) % 64 ≡ j = omega arith in
    sym (ap₂ (λ (w k : ℕ). bit (get_or words w 0) k) word place))

-- part after part: one more that is clean, and one that is not
pub clean_on :
    (held : ℕ → Bool) (values : List ℕ) (x k : ℕ) → clean held values 0 x ≡ true → clean held values x k ≡ true
    → clean held values 0 (x + k) ≡ true
clean_on held values x k before here = clean_parts held values 0 x k ∙ rw (before, zero-add x) here

pub clean_off : (held : ℕ → Bool) (values : List ℕ) (x k n : ℕ) → x + k ≤ n → clean held values x k ≡ false → clean held values 0 n ≡ false
clean_off held values x k n inside here =
    let rest = n - (x + k) in
    ap (clean held values 0) (omega arith) ∙ clean_parts held values 0 x (k + rest)
    ∙ rw (zero-add x, clean_parts held values x k rest, here) (and-false (clean held values 0 x))
