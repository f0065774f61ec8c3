-- The byte map and the record engine agree (requests F-2, F-3 and F-6 of 02, the agreed changes; docs/RULES.md has their rules).
use Rattle.std.specs.Prelude.{ℕ, ◌<◌, ◌≡◌, List, map, Bool, true, leb, length}
use Rattle.octets.specs.Lists.{all}
use Rattle.state.specs.Limits.{command_limit, store_size}
use Rattle.state.specs.Records.{total}
use Rattle.state.specs.State.{records_of, is_open}
use Rattle.state.specs.Verdict.{without_looked}
use Rattle.bits.specs.Bits.{map_limit}
use Rattle.bytemap.specs.Map.{held_count, runs_of, fresh, is_open as isMapOpen}
use Rattle.bytemap.specs.Runs as bytemap
use Rattle.cache.specs.Runs.{Call, begin, fetch, end, own_write, start, along, ran, says, delivers, dest_after, window_after}

-- a call of the byte map as command c makes it of the record engine
abbrev pub as_command : (c : ℕ) → bytemap.Call → Call
as_command c bytemap.begin = begin c
as_command c (bytemap.fetch a n dest window) = fetch c a n dest window
as_command c bytemap.end = end c
as_command c (bytemap.own_write a bytes window) = own_write c a bytes window

-- is its window one that the byte map takes?
abbrev pub is_small : bytemap.Call → Bool
is_small p = leb (length (bytemap.window_given p)) map_limit

-- The two engines on one list: the byte map from fresh, and the record engine from the fresh state, serving command c with this store.
module _ (store : List ℕ) (c : ℕ) (ps : List bytemap.Call) where
  abbrev pub commands : List Call
  commands = map (as_command c) ps

  pub record Agree : Type 0 where
    -- at each call: the answer, reply or refusal, without the number of records looked at, which the byte map does not have; the delivered bytes;
    -- destination and window after it
    pub answers : bytemap.along bytemap.says fresh ps ≡ map without_looked (along says (start store) commands)
    pub delivered : bytemap.along bytemap.delivers fresh ps ≡ along delivers (start store) commands
    pub destinations : bytemap.along bytemap.dest_after fresh ps ≡ along dest_after (start store) commands
    pub windows : bytemap.along bytemap.window_after fresh ps ≡ along window_after (start store) commands
    -- and after the list, and so after every call, since every beginning of a list is a list: whether the command is open, the runs of set bits and
    -- the records, the sum of ones and the number of distinct bytes
    pub opened : isMapOpen (bytemap.ran fresh ps) ≡ is_open (ran (start store) commands).state c
    pub records : runs_of (bytemap.ran fresh ps) ≡ records_of (ran (start store) commands).state c
    pub bytes : held_count (bytemap.ran fresh ps) ≡ total (records_of (ran (start store) commands).state c)

-- So it is for every list of begins, fetches, own writes and ends over windows of at most 4,096 bytes, for every command, and from every store of the
-- right length.
abbrev pub Agreement : Type 0
Agreement =
    (store : List ℕ) (c : ℕ) (ps : List bytemap.Call) → length store ≡ store_size → c < command_limit → all is_small ps ≡ true → Agree store c ps
