-- Bits of words: one for each address, 64 in a word, the lowest address in the lowest bit (request F-2 of 02, the agreed changes;
-- docs/RULES.md has its rules).
use Rattle.std.specs.Prelude.{ℕ, zero, suc, ◌+◌, ◌*◌, ◌/◌, ◌%◌, ◌^◌, List, [], ◌∷◌, map, Bool, cond, not, ◌&&◌, ltb, eqb, length, get_or}
use Rattle.std.specs.Int.Count.{ones}
use Rattle.octets.specs.Lists.{all}
use Rattle.state.specs.Records.{span}

-- how many addresses a map has, and so F-2's longest window
abbrev pub map_limit : ℕ
map_limit = 4096

-- how many words of 64 bits they take
abbrev pub word_limit : ℕ
word_limit = 64

-- is bit j of a word set?
abbrev pub bit : (w j : ℕ) → Bool
bit w j = eqb (w / 2 ^ j % 2) 1

-- is the bit of address x set?
abbrev pub is_set : (words : List ℕ) (x : ℕ) → Bool
is_set words x = bit (get_or words (x / 64) 0) (x % 64)

-- the word of k bits whose bit j is set exactly if j passes the test
unfoldable pub word_of : (ℕ → Bool) → (k : ℕ) → ℕ
word_of test zero = 0
word_of test (suc k) = cond (test 0) 1 0 + word_of (λ j. test (suc j)) k * 2

-- the word of the 64 addresses from 64 times i on
abbrev pub word_at : (ℕ → Bool) → (i : ℕ) → ℕ
word_at test i = word_of (λ j. test (64 * i + j)) 64

-- the words in which the bit of an address is set exactly if the address passes
unfoldable pub words_of : (ℕ → Bool) → List ℕ
words_of test = map (word_at test) (span 0 word_limit)

-- F-2's count of ones, summed over all words
unfoldable pub ones_of : List ℕ → ℕ
ones_of [] = 0
ones_of (w ∷ ws) = ones w + ones_of ws

-- words as a map has them: 64, each of 64 bits
abbrev pub are_words : List ℕ → Bool
are_words words = eqb (length words) word_limit && all (λ w. ltb w (2 ^ 64)) words

-- does the place below x pass the test? `first` answers for the place below 0
abbrev pub lower : (first : Bool) → (ℕ → Bool) → (x : ℕ) → Bool
lower first test zero = first
lower first test (suc x) = test x

-- does a run start at x: does x pass, and the place below it not?
abbrev pub starts_at : (first : Bool) → (ℕ → Bool) → (x : ℕ) → Bool
starts_at first test x = test x && not (lower first test x)
