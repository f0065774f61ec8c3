-- Numbers of a fetch: the two counts of a span make up its length, and more than 64 is not at most 64.
use Prim.Native.Nat.{ℕ, ◌-◌, ◌≤◌}
use native.Mathlib.Omega.{arith}
use mathlib.Core.Path.{◌≡◌, refl}
use mathlib.Core.Bool.{Bool, true, false, not}
use lib.Dec.{ltb, leb}
use borrow.Author.Tests.{le-ltb, lt-ltb, leb-true, leb-false}
use Rattle.octets.specs.Lists.{count}
use Rattle.state.specs.Records.{span}
use Rattle.state.proofs.Places.{length_span}
use Rattle.bits.proofs.Counts.{counts_fill}

-- of the two counts of a span the one is what the other leaves
pub other_count : (test : ℕ → Bool) (a n k : ℕ) → k ≡ count test (span a n) → (count (λ x. not (test x)) (span a n) ≡ n - k) × (k ≤ n)
other_count test a n k is = (omega (arith, counts_fill test (span a n), length_span a n), omega (arith, counts_fill test (span a n), length_span a n))

-- more than a number is not at most that number
pub more_than : (k n : ℕ) → ltb k n ≡ not (leb n k)
more_than k n = go (leb n k) refl
  where
    go : (b : Bool) → leb n k ≡ b → ltb k n ≡ not b
    go true e = le-ltb k n (leb-true n k e)
    go false e = lt-ltb k n (leb-false n k e)
