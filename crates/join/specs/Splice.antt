-- What the parts of the splice leave in the words of one command.
use Rattle.std.specs.Prelude.{ℕ, ◌+◌, ◌-◌, ◌≤◌, ◌<◌, ◌≡◌, List, cond, ◌⊎◌, ltb, length, get_or}
use Rattle.state.specs.declared.Meeting.{Meeting}
use Rattle.state.specs.Limits.{record_limit}
use Rattle.state.specs.State.{no_record}
use Rattle.state.specs.Words.{record_at}
use Rattle.state.specs.Join.{union_of}

-- entries moved up by one place: those from `first` up to `used`
pub record MovedUp (words : List ℕ) (first used : ℕ) (next : List ℕ) : Type 0 where
  pub size : length next ≡ length words
  pub head : get_or next 0 0 ≡ get_or words 0 0
  pub below : (j : ℕ) → j ≤ first → record_at next j ≡ record_at words j
  pub moved : (j : ℕ) → first < j → j ≤ used → record_at next j ≡ record_at words (j - 1)
  pub above : (j : ℕ) → used < j → record_at next j ≡ record_at words j

-- entries moved down: those from `from` on go to the places from `to` up to `end`, and behind the last entry there are zeros
pub record MovedDown (words : List ℕ) (to from end : ℕ) (next : List ℕ) : Type 0 where
  pub size : length next ≡ length words
  pub head : get_or next 0 0 ≡ get_or words 0 0
  pub below : (j : ℕ) → j < to → record_at next j ≡ record_at words j
  pub moved : (j : ℕ) → to ≤ j → j < end → record_at next j ≡ cond (ltb (from + (j - to)) record_limit) (record_at words (from + (j - to))) no_record
  pub above : (j : ℕ) → end ≤ j → record_at next j ≡ record_at words j

-- the union in its entry, and the number of records in the first word
pub record Sealed (words : List ℕ) (m : Meeting) (count : ℕ) (next : List ℕ) : Type 0 where
  pub size : length next ≡ length words
  pub head : get_or next 0 0 ≡ count + 1
  pub union : record_at next m.first ≡ union_of m
  pub others : (j : ℕ) → j < m.first ⊎ m.first < j → record_at next j ≡ record_at words j
