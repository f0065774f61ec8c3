-- Lists of bytes, and tests over lists.
use Rattle.std.specs.Prelude.{ℕ, ◌+◌, List, [], ◌∷◌, ◌++◌, Bool, true, cond, ◌&&◌, eqb, length, take, drop}

-- The buffer with these bytes in it from a place on. It says what every write leaves: in the store, the window and the destination.
abbrev pub overwrite : List ℕ → ℕ → List ℕ → List ℕ
overwrite buffer at bytes = take at buffer ++ bytes ++ drop (at + length bytes) buffer

-- the n bytes of a buffer from a place on
abbrev pub part : List ℕ → ℕ → ℕ → List ℕ
part buffer at n = take n (drop at buffer)

-- how many elements pass the test
unfoldable pub count : {A : Type 0} → (A → Bool) → List A → ℕ
count test [] = 0
count test (x ∷ xs) = cond (test x) 1 0 + count test xs

-- does every element pass the test?
unfoldable pub all : {A : Type 0} → (A → Bool) → List A → Bool
all p [] = true
all p (x ∷ xs) = p x && all p xs

-- are all of them zero?
abbrev pub all_zero : List ℕ → Bool
all_zero numbers = all (λ k. eqb k 0) numbers
