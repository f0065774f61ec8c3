-- The byte map, the plain engine of request F-2 of 02 (the agreed changes; docs/RULES.md has its rules): it serves one command, and each of 4,096
-- addresses has a bit, set if its byte is held, and a value.
use Rattle.std.specs.Prelude.{ℕ, List, Bool, not, ◌&&◌, ◌||◌, ltb, leb, eqb, length, get_or, replicate}
use Rattle.octets.specs.Lists.{all, all_zero}
use Rattle.state.specs.declared.Record.{Record}
use Rattle.state.specs.declared.refusal.Refusal.TheVariants.{WindowBeyondMap, StateBroken, CommandNotOpen, CommandAlreadyOpen}
use Rattle.state.specs.Limits.{record_limit}
use Rattle.state.specs.Records.{span}
use Rattle.state.specs.Refusals.{number}
use Rattle.state.specs.Runs.{runs_from}
use Rattle.state.specs.Verdict.{Check, ◌⇒◌}
use Rattle.bits.specs.Bits.{word_limit, map_limit, is_set, ones_of}

-- what is lent: a word that is 0 if the command is closed, the words of the map, and a value for each address
pub record Map : Type 0 where
  pub flag : ℕ
  pub words : List ℕ
  pub values : List ℕ

-- the map that these three are
abbrev pub map_of : (flag : ℕ) (words values : List ℕ) → Map
map_of flag words values = record { flag = flag; words = words; values = values }

-- is its command open?
abbrev pub is_open : Map → Bool
is_open m = ltb 0 m.flag

-- is the byte at this address held?
abbrev pub is_held : Map → ℕ → Bool
is_held m x = is_set m.words x

-- 02's number of held bytes: the count of ones in the map's words
abbrev pub held_count : Map → ℕ
held_count m = ones_of m.words

-- 02's runs of set bits, which stand for records
abbrev pub runs_of : Map → List Record
runs_of m = runs_from (is_held m) 0 map_limit

-- a map that holds nothing: 02's clearing of the whole map
abbrev pub cleared : (flag : ℕ) → Map
cleared flag = record { flag = flag; words = replicate word_limit 0; values = replicate map_limit 0 }

-- the map before any call
abbrev pub fresh : Map
fresh = cleared 0

-- no bit is set
abbrev pub is_empty : Map → Bool
is_empty m = all_zero m.words

-- an address that is not held has the value zero
abbrev pub is_clean : Map → Bool
is_clean m = all (λ x. is_held m x || eqb (get_or m.values x 0) 0) (span 0 map_limit)

-- A map holds together if it is open or has no bit set, if it is clean, and if it has no more than 64 runs.
unfoldable pub holds : Map → Bool
holds m = (is_open m || is_empty m) && is_clean m && leb (length (runs_of m)) record_limit

-- 30: a window longer than the map
abbrev pub window_beyond_map : (window_len : ℕ) → Check
window_beyond_map window_len = ltb map_limit window_len ⇒ number WindowBeyondMap

-- 20: a map that does not hold together
abbrev pub map_broken : Map → Check
map_broken m = not (holds m) ⇒ number StateBroken

-- 21: the command is not open
abbrev pub not_open : Map → Check
not_open m = not (is_open m) ⇒ number CommandNotOpen

-- 22: it is open already
abbrev pub already_open : Map → Check
already_open m = is_open m ⇒ number CommandAlreadyOpen
