-- Nothing is lost between words and state.
use Rattle.std.specs.Prelude.{ℕ, ◌≡◌, List, length}
use Rattle.state.specs.Limits.{state_words}
use Rattle.state.specs.Words.{state_of}

-- No two arrays of words stand for the same state, so that what a contract says of the state it says of every word.
abbrev pub StateOne : Type 0
StateOne = (words other : List ℕ) → length words ≡ state_words → length other ≡ state_words → state_of words ≡ state_of other → words ≡ other
