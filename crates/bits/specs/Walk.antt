-- Runs counted by walking over the words: how far a walk has come, and what one does.
use Rattle.std.specs.Prelude.{ℕ, ◌+◌, ◌-◌, ◌*◌, ◌/◌, ◌≤◌, ◌<◌, ◌≡◌, List, Bool, false, cond, ◌||◌, get_or, bit_or}
use Rattle.octets.specs.Lists.{count}
use Rattle.state.specs.Records.{span, in_span}
use Rattle.bits.specs.declared.walk.Walk.{Walk}
use Rattle.bits.specs.Bits.{is_set, word_at, lower, starts_at}

-- A walk has come to word i: the runs that start below it are counted, and the bit right below it is carried.
pub record Walked (test : ℕ → Bool) (w : Walk) (i : ℕ) : Type 0 where
  pub counted : w.n ≡ count (starts_at false test) (span 0 (64 * i))
  pub carried : w.carry ≡ cond (lower false test (64 * i)) 1 0

-- how large the numbers of a walk get, so that no sum of the code wraps
pub record Walking (w : Walk) (i : ℕ) : Type 0 where
  pub few : w.n ≤ 64 * i
  pub bit : w.carry ≤ 1

-- words with the bits put to them that are given for each from word i up to word k
abbrev pub BitsPut : (given : ℕ → ℕ → Type 0) (words : List ℕ) (i k : ℕ) (both : List ℕ) → Type 0
BitsPut given words i k both = (j r : ℕ) → i ≤ j → j < k → given j r → get_or both j 0 ≡ bit_or (get_or words j 0) r

-- A walk goes on from word i up to word k: of any test whose words these are, it has come to k where it had come to i.
abbrev pub WalksOn : (words : List ℕ) (i k : ℕ) (w r : Walk) → Type 0
WalksOn words i k w r = (test : ℕ → Bool) → ((j : ℕ) → i ≤ j → j < k → get_or words j 0 ≡ word_at test j) → Walked test w i → Walked test r k

-- A walk goes over the words that have an address of a span: of the addresses that are set or in the span, it has come behind these words where it
-- had come to the first of them.
abbrev pub WalksSpan : (words : List ℕ) (low high : ℕ) (w r : Walk) → Type 0
WalksSpan words low high w r =
    Walked (λ x. is_set words x || in_span low (high - low) x) w (low / 64)
    → Walked (λ x. is_set words x || in_span low (high - low) x) r ((high + 63) / 64)
