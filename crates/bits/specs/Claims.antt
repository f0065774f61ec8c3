-- The claim about the words of a map.
use Rattle.std.specs.Prelude.{◌≡◌, List, true, ℕ}
use Rattle.octets.specs.Lists.{count}
use Rattle.state.specs.Records.{span}
use Rattle.bits.specs.Bits.{map_limit, is_set, ones_of, are_words}

-- F-2's number of held bytes: the sum of ones is the number of addresses whose bit is set, for any words that a map can have.
abbrev pub OnesCounted : Type 0
OnesCounted = (words : List ℕ) → are_words words ≡ true → ones_of words ≡ count (is_set words) (span 0 map_limit)
