-- What the code makes of the values and the window.
use Rattle.std.specs.Prelude.{ℕ, ◌-◌, ◌≤◌, ◌<◌, ◌≡◌, List, map, Bool, cond, ◌||◌, eqb, get_or}
use Rattle.octets.specs.Lists.{all}
use Rattle.state.specs.Records.{span}
use Rattle.bits.specs.Bits.{bit}

-- the bits of a word, taken as those of the addresses from `low` on
abbrev pub bits_from : (low bits : ℕ) → ℕ → Bool
bits_from low bits x = bit bits (x - low)

-- the n lowest bits are like the lowest one
pub record Stretch (bits n : ℕ) : Type 0 where
  pub same : (j : ℕ) → j < n → bit bits j ≡ bit bits 0

-- r lowest bits are alike, at most n of them, and one at least if any is asked for. That they are all that are alike is not promised: only the
-- number of turns depends on it.
pub record Alike (bits n r : ℕ) : Type 0 where
  pub stretch : Stretch bits r
  pub most : r ≤ n
  pub some : 0 < n → 0 < r

-- the values of a span of addresses: a held one stays, and any other is the window's
abbrev pub taken : (held : ℕ → Bool) → (values window : List ℕ) → (a n : ℕ) → List ℕ
taken held values window a n = map (λ x. cond (held x) (get_or values x 0) (get_or window x 0)) (span a n)

-- is the value zero at each address of a span that is not held?
abbrev pub clean : (held : ℕ → Bool) → (values : List ℕ) → (a n : ℕ) → Bool
clean held values a n = all (λ x. held x || eqb (get_or values x 0) 0) (span a n)
