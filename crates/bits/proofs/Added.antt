-- A span that is put to what passes a test adds one run at most: it can start one at its first address and nowhere else.
use Prim.Native.Nat.{ℕ, zero, suc, ◌+◌, ◌≤◌}
use native.Mathlib.Omega.{arith}
use mathlib.Core.Path.{◌≡◌, refl}
use mathlib.Core.Bool.{Bool, true, false, not, ◌&&◌, ◌||◌}
use lib.Dec.{leb, ltb, eqb}
use lib.ListN.{length}
use borrow.Author.Tests.{eqb-true, eqb-false, leb-true, ltb-true, le-leb, lt-leb, lt-ltb}
use Rattle.octets.specs.Lists.{count}
use Rattle.octets.proofs.Lists.{and_left, and_right, both}
use Rattle.state.specs.Records.{in_span, span}
use Rattle.state.specs.Runs.{runs_from}
use Rattle.bits.specs.Bits.{starts_at}
use Rattle.bits.proofs.Word.{digit, digit_small}
use Rattle.bits.proofs.Starts.{runs_starts}

-- counts of two tests, one of which passes wherever the other does; and where it may fail to at one address
count_least : (f g : ℕ → Bool) (b n : ℕ) → ((x : ℕ) → b ≤ x → digit (f x) ≤ digit (g x)) → count f (span b n) ≤ count g (span b n)
unfolding count span
count_least f g b zero least = omega arith
count_least f g b (suc n) least = omega (arith, least b (omega arith), count_least f g (suc b) n (λ x h. least x (omega arith)))

count_but_one : (f g : ℕ → Bool) (a b n : ℕ) → ((x : ℕ) → (x ≡ a → ⊥) → digit (f x) ≤ digit (g x)) → count f (span b n) ≤ suc (count g (span b n))
unfolding count span
count_but_one f g a b zero least = omega arith
count_but_one f g a b (suc n) least = go (eqb b a) refl (count_but_one f g a (suc b) n least)
  where
    go : (t : Bool) → eqb b a ≡ t → count f (span (suc b) n) ≤ suc (count g (span (suc b) n))
        → digit (f b) + count f (span (suc b) n) ≤ suc (digit (g b) + count g (span (suc b) n))
    go true e later =
        omega (arith, digit_small (f b), count_least f g (suc b) n (λ x h. least x (λ same. omega (arith, eqb-true b a e))))
    go false e later = omega (arith, least b (eqb-false b a e), later)

-- a run that starts where a test and another pass, of which the other does not pass there, starts where the test alone passes
less : (p q r : Bool) → digit ((p || false) && not (q || r)) ≤ digit (p && not q)
less false q r = omega arith
less true true r = omega arith
less true false r = digit_small (not r)

module _ (test : ℕ → Bool) (a n : ℕ) where
  abbrev either : ℕ → Bool
  either x = test x || in_span a n x

  -- an address behind the first of the span has one of the span below it
  follows : (y : ℕ) → (suc y ≡ a → ⊥) → in_span a n (suc y) ≡ true → in_span a n y ≡ true
  follows y other e =
      let low = leb-true a (suc y) (and_left (leb a (suc y)) (ltb (suc y) (a + n)) e) in
      let high = ltb-true (suc y) (a + n) (and_right (leb a (suc y)) (ltb (suc y) (a + n)) e) in
      both (le-leb a y (omega (arith, other))) (lt-ltb y (a + n) (omega arith))

  -- so no run starts there that did not
  no_start : (x : ℕ) → (x ≡ a → ⊥) → digit (starts_at false either x) ≤ digit (starts_at false test x)
  no_start zero other = rw (lt-leb a 0 (omega (arith, other))) (less (test 0) false false)
  no_start (suc y) other = go (in_span a n (suc y)) refl
    where
      none : (p q : Bool) → digit ((p || true) && not (q || true)) ≤ digit (p && not q)
      none true true = omega arith
      none true false = omega arith
      none false true = omega arith
      none false false = omega arith

      go : (b : Bool) → in_span a n (suc y) ≡ b → digit (starts_at false either (suc y)) ≤ digit (starts_at false test (suc y))
      go true e = rw (e, follows y other e) (none (test (suc y)) (test y))
      go false e = rw e (less (test (suc y)) (test y) (in_span a n y))

  pub runs_added : (k : ℕ) → length (runs_from either 0 k) ≤ suc (length (runs_from test 0 k))
  runs_added k =
      omega (arith, runs_starts either k, runs_starts test k, count_but_one (starts_at false either) (starts_at false test) a 0 k no_start)
