-- The cache's state, the book of 01 (the agreed scope; docs/RULES.md has its rules): the fresh one, what each command holds, and which
-- states hold together.
use Rattle.std.specs.Prelude.{ℕ, suc, ◌-◌, List, [], ◌∷◌, ◌++◌, Bool, true, false, ◌&&◌, ◌||◌, ltb, leb, eqb, length, take, drop, get_or, replicate, set}
use Rattle.octets.specs.Lists.{all}
use Rattle.state.specs.declared.Record.{Record}
use Rattle.state.specs.Limits.{command_limit, record_limit, held_limit, window_limit}
use Rattle.state.specs.Records.{past, total}

-- one command: whether it is open, and its records in ascending order in the first `count` of its entries
pub record CommandState : Type 0 where
  pub opened : Bool
  pub count : ℕ
  pub records : List Record

-- 01's book. `Words` says which words of a lent array stand for it.
pub record State : Type 0 where
  pub commands : List CommandState

-- what stands in an entry that is not used
abbrev pub no_record : Record
no_record = record { start = 0; len = 0 }

-- a command that holds nothing
abbrev pub empty : Bool → CommandState
empty opened = record { opened = opened; count = 0; records = replicate record_limit no_record }

-- a command that is not open
abbrev pub closed : CommandState
closed = empty false

-- an open command with these records
abbrev pub open_with : List Record → CommandState
open_with rs = record { opened = true; count = length rs; records = rs ++ replicate (record_limit - length rs) no_record }

-- 01's fresh book
abbrev pub fresh_state : State
fresh_state = record { commands = replicate command_limit closed }

abbrev pub command_of : State → ℕ → CommandState
command_of s c = get_or s.commands c closed

abbrev pub records_in : CommandState → List Record
records_in c = take c.count c.records

abbrev pub records_of : State → ℕ → List Record
records_of s c = records_in (command_of s c)

abbrev pub is_open : State → ℕ → Bool
is_open s c = (command_of s c).opened

abbrev pub with_command : State → ℕ → CommandState → State
with_command s c next = record { commands = set s.commands c next }

-- The rules for a list of records, 01's with F-1: each starts behind the end of the one before it and does not touch it (the first at lo
-- or behind it), is not empty, and ends at or before address 65,536
unfoldable pub ascending : ℕ → List Record → Bool
ascending lo [] = true
ascending lo (r ∷ rs) = leb lo r.start && ltb 0 r.len && leb (past r) window_limit && ascending (suc (past r)) rs

abbrev pub is_zero : Record → Bool
is_zero r = eqb r.start 0 && eqb r.len 0

-- 01's rules for one command: the number of its records, the rules above, their total, the unused entries, and no records where
-- it is closed
unfoldable pub command_holds : CommandState → Bool
command_holds c =
    leb c.count record_limit && ascending 0 (records_in c) && leb (total (records_in c)) held_limit
    && all is_zero (drop c.count c.records) && (c.opened || eqb c.count 0)

-- 01's book that holds together: every command does
unfoldable pub holds : State → Bool
holds s = all command_holds s.commands

-- What words give of every state that they stand for: 8 commands of 64 record entries.
abbrev pub has_shape : State → Bool
has_shape s = eqb (length s.commands) command_limit && all (λ c. eqb (length c.records) record_limit) s.commands
