-- What the code of fetch does once it is accepted.
use Rattle.std.specs.Prelude.{ℕ, ◌+◌, ◌≤◌, ◌≡◌, List, ◌||◌}
use Rattle.octets.specs.Lists.{overwrite}
use Rattle.state.specs.Records.{in_span}
use Rattle.bits.specs.Bits.{word_limit, map_limit, is_set, words_of}
use Rattle.stretches.specs.Values.{taken}

-- what a span needs that is to be delivered: a whole map, and room in the map, the window and the destination
pub record Fits (words_len values_len window_len dest_len a n : ℕ) : Type 0 where
  pub words : words_len ≡ word_limit
  pub values : values_len ≡ map_limit
  pub reach : a + n ≤ map_limit
  pub window : a + n ≤ window_len
  pub dest : n ≤ dest_len

-- what its delivery leaves: its bytes are among the values and at the front of the destination, and its bits are set
pub record Delivers (words values window dest : List ℕ) (a n : ℕ) (words' values' dest' : List ℕ) : Type 0 where
  pub bits : words' ≡ words_of (λ x. is_set words x || in_span a n x)
  pub held : values' ≡ overwrite values a (taken (is_set words) values window a n)
  pub delivered : dest' ≡ overwrite dest 0 (taken (is_set words) values window a n)
