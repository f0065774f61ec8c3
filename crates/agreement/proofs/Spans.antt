-- Laws of tests over the addresses of a span: counts, runs, and what becomes of both if no address from a bound on passes.
use Prim.Native.Nat.{ℕ, zero, suc, ◌+◌, ◌-◌, ◌≤◌}
use native.Mathlib.Omega.{arith}
use native.Mathlib.Nat.{zero-add, suc-add}
use mathlib.Core.Path.{◌≡◌, refl, ap}
use mathlib.Core.List.{List, [], ◌∷◌}
use mathlib.Core.Bool.{Bool, true, false, not}
use Rattle.octets.specs.Lists.{count, all}
use Rattle.state.specs.Records.{span}
use Rattle.state.specs.Runs.{runs_from}
use Rattle.state.proofs.Places.{length_span}
use Rattle.bits.proofs.Counts.{count_split, count_none, counts_fill}

-- a test that every element passes
pub all_pass : {A : Type 0} (test : A → Bool) (xs : List A) → ((x : A) → test x ≡ true) → all test xs ≡ true
unfolding all
all_pass test [] h = refl
all_pass test (x ∷ xs) h = rw (h x) (all_pass test xs h)

-- Counts

-- a span within another: as many of it pass at most
count_part : (test : ℕ → Bool) (a n k : ℕ) → a + n ≤ k → count test (span a n) ≤ count test (span 0 k)
count_part test a n k fits =
    let rest = k - (a + n) in
    let whole : a + n + rest ≡ k = omega arith in
    omega (
      arith,
      ap (λ (l : ℕ). count test (span 0 l)) whole,
      count_split test 0 (a + n) rest,
      count_split test 0 a n,
      ap (λ (x : ℕ). count test (span x n)) (zero-add a),
    )

-- those that pass among the first k addresses and those of a span within them that do not are no more than k
pub count_room : (test : ℕ → Bool) (a n k : ℕ) → a + n ≤ k → count test (span 0 k) + count (λ x. not (test x)) (span a n) ≤ k
count_room test a n k fits = omega (arith, count_part (λ x. not (test x)) a n k fits, counts_fill test (span 0 k), length_span 0 k)

-- From a bound on no address passes.

module _ (test : ℕ → Bool) where
  pub runs_none : (x n : ℕ) → ((y : ℕ) → x ≤ y → test y ≡ false) → runs_from test x n ≡ []
  unfolding runs_from
  runs_none x zero h = refl
  runs_none x (suc n) h = rw (h x (omega arith)) (runs_none (suc x) n (λ y k. h y (omega arith)))

  -- the first k addresses have them all
  pub count_low : (x k more : ℕ) → ((y : ℕ) → x + k ≤ y → test y ≡ false) → count test (span x (k + more)) ≡ count test (span x k)
  count_low x k more h = omega (arith, count_split test x k more, count_none test (x + k) more (λ y low high. h y low))

  pub runs_low : (x k more : ℕ) → ((y : ℕ) → x + k ≤ y → test y ≡ false) → runs_from test x (k + more) ≡ runs_from test x k
  unfolding runs_from
  runs_low x zero more h = rw zero-add (runs_none x more (λ y l. h y (omega arith)))
  runs_low x (suc k) more h = rw (suc-add, runs_low (suc x) k more (λ y l. h y (omega arith)))
