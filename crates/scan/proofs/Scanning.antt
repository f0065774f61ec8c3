-- The laws of a scan, at a place of a list.
use Prim.Native.Nat.{ℕ, suc, ◌+◌, ◌≤◌, ◌<◌}
use native.Mathlib.Omega.{arith}
use mathlib.Core.Path.{◌≡◌, refl}
use mathlib.Core.List.{List, [], ◌∷◌}
use mathlib.Core.Bool.{Bool, true, false, cond}
use lib.ListN.{length, drop, get_or, length-drop}
use lib.Seq.{drop-cons}
use Rattle.scan.specs.declared.Stop.{Stop}
use Rattle.scan.specs.declared.Stop.TheVariants.{Word, Blank}
use Rattle.scan.specs.Scan.{before, stops, place, word_start, word_end}

module _ {A : Type 0} (test : A → Bool) where
  -- it goes no farther than the end
  before_most : (xs : List A) → before test xs ≤ length xs
  unfolding before
  before_most [] = omega arith
  before_most (x ∷ xs) = go (test x) (before_most xs)
    where
      go : (t : Bool) → before test xs ≤ length xs → cond t 0 (suc (before test xs)) ≤ suc (length xs)
      go true most = omega arith
      go false most = omega arith

  -- and if it does not go so far, it ends at an element that passes the test
  pub stopped : (xs : List A) (d : A) → before test xs < length xs → test (get_or xs (before test xs) d) ≡ true
  unfolding before
  stopped [] d inside = absurd (omega arith)
  stopped (x ∷ xs) d inside = go (test x) refl (stopped xs d)
    where
      go : (t : Bool) → test x ≡ t → (before test xs < length xs → test (get_or xs (before test xs) d) ≡ true)
          → test (get_or (x ∷ xs) (cond (test x) 0 (suc (before test xs))) d) ≡ true
      go true e on = rw e e
      go false e on = rw e (on (omega (arith, rw e at inside)))

  module _ (xs : List A) (i : ℕ) where
    -- an element that passes the test ends it
    pub found : (d : A) → i < length xs → test (get_or xs i d) ≡ true → before test (drop i xs) ≡ 0
    unfolding before
    found d inside e = rw (drop-cons xs i d inside, e)

    -- and one that does not is passed
    pub passed : (d : A) → i < length xs → test (get_or xs i d) ≡ false → before test (drop i xs) ≡ suc (before test (drop (suc i) xs))
    unfolding before
    passed d inside e = rw (drop-cons xs i d inside, e)

    pub behind : length xs ≤ i → before test (drop i xs) ≡ 0
    behind past = omega (arith, before_most (drop i xs), length-drop i xs)

-- so the place where it stops lies in the text
pub place_most : (stop : Stop) (text : List ℕ) (at : ℕ) → at ≤ length text → place stop text at ≤ length text
place_most stop text at inside = omega (arith, before_most (stops stop) (drop at text), length-drop at text)

-- and so does the end of the next word
pub word_end_most : (text : List ℕ) (at : ℕ) → at ≤ length text → word_end text at ≤ length text
word_end_most text at inside = place_most Blank text (word_start text at) (place_most Word text at inside)

-- for whatever class a scan from the front was made
pub front_most : (test : ℕ → Bool) (text : List ℕ) (r : ℕ) → r ≡ 0 + before test text → r ≤ length text
front_most test text r e = omega (arith, before_most test text)
