-- What is left of two lists tells whether the one stands at the front of the other, as long as they were alike so far.
use Prim.Native.Nat.{ℕ, suc, ◌≤◌, ◌<◌}
use mathlib.Core.Path.{◌≡◌}
use mathlib.Core.List.{List}
use mathlib.Core.Bool.{Bool, true, false}
use lib.ListN.{length, drop, get_or, drop_of_length-le}
use lib.Seq.{drop-cons}
use Rattle.scan.specs.Scan.{front}

module _ {A : Type 0} (test : A → A → Bool) (xs ys : List A) (i : ℕ) where
  pub alike : (d : A) → i < length xs → i < length ys → test (get_or xs i d) (get_or ys i d) ≡ true
      → front test (drop i xs) (drop i ys) ≡ front test (drop (suc i) xs) (drop (suc i) ys)
  unfolding front
  alike d x y e = rw (drop-cons xs i d x, drop-cons ys i d y, e)

  pub unlike : (d : A) → i < length xs → i < length ys → test (get_or xs i d) (get_or ys i d) ≡ false → front test (drop i xs) (drop i ys) ≡ false
  unfolding front
  unlike d x y e = rw (drop-cons xs i d x, drop-cons ys i d y, e)

  -- the other has ended
  pub short : (d : A) → i < length xs → length ys ≤ i → front test (drop i xs) (drop i ys) ≡ false
  unfolding front
  short d x y = rw (drop-cons xs i d x, drop_of_length-le ys {i = i} y)

  -- the one has ended
  pub whole : length xs ≤ i → front test (drop i xs) (drop i ys) ≡ true
  unfolding front
  whole x = rw (drop_of_length-le xs {i = i} x)
