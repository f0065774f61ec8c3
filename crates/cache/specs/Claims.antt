-- The claims about single calls: what show gives of a command, what begin and end leave of its records, what they and own write leave of its
-- part of the store, that an own write's bytes stand in the window and that it is judged as a fetch, how many records a fetch looks at, and that a
-- refused call changes nothing (01, the agreed scope, "The calls", and requests F-3 and F-6 of 02, the agreed changes; docs/RULES.md has their
-- rules).
use Rattle.std.specs.Prelude.{ℕ, suc, ◌+◌, ◌≤◌, ◌<◌, min, ◌≡◌, List, [], ◌∷◌, map, true, false, length, replicate}
use Rattle.octets.specs.Lists.{part}
use Rattle.state.specs.declared.Record.{Record}
use Rattle.state.specs.Limits.{command_limit, held_limit}
use Rattle.state.specs.Records.{span, place, joined, starting_up_to}
use Rattle.state.specs.State.{State, empty, command_of, records_of, is_open, holds, has_shape}
use Rattle.state.specs.Verdict.{Reply, refused, replied, accepted, looked_in}
use Rattle.store.specs.Store.{part_start}
use Rattle.cache.specs.Begin.{begin_says, begin_state, begin_store}
use Rattle.cache.specs.End.{end_says, end_state, end_store}
use Rattle.cache.specs.OwnWrite.{own_says, own_store, own_window}
use Rattle.cache.specs.Show.{show_says}
use Rattle.cache.specs.Runs.{Call, fetch, own_write, Machine, says, state_after, after, dest_given, dest_after, window_given, window_after}

-- a record as show replies it: its start and length
abbrev pub record_reply : Record → Reply
record_reply r = replied (r.start ∷ r.len ∷ [])

-- Asked for record 0, 1 and so on, as often as there are records, show gives each of them in their order; from then on it gives 25.
pub record Shown (s : State) (c : ℕ) : Type 0 where
  pub records : map (show_says s c) (span 0 (length (records_of s c))) ≡ map record_reply (records_of s c)
  pub behind : (i : ℕ) → length (records_of s c) ≤ i → show_says s c i ≡ refused 25

-- So it is of every open command of every state that holds together.
abbrev pub ShowsAll : Type 0
ShowsAll = (s : State) (c : ℕ) → holds s ≡ true → c < command_limit → is_open s c ≡ true → Shown s c

-- An accepted begin opens its command and an accepted end closes it, and after either the command has no record.
pub record Emptied (s : State) (store_len c : ℕ) : Type 0 where
  pub begun : accepted (begin_says s store_len c) ≡ true → command_of (begin_state s store_len c) c ≡ empty true
  pub ended : accepted (end_says s store_len c) ≡ true → command_of (end_state s store_len c) c ≡ empty false

-- So it is of every state of 8 commands with 64 entries each, which is what any lent words stand for.
abbrev pub CommandsEmptied : Type 0
CommandsEmptied = (s : State) (store_len c : ℕ) → has_shape s ≡ true → Emptied s store_len c

-- Every byte of a command's part of the store is zero after an accepted begin of it, and after an accepted end.
pub record Zeroed (s : State) (store : List ℕ) (c : ℕ) : Type 0 where
  pub begun : accepted (begin_says s (length store) c) ≡ true → part (begin_store s store c) (part_start c) held_limit ≡ replicate held_limit 0
  pub ended : accepted (end_says s (length store) c) ≡ true → part (end_store s store c) (part_start c) held_limit ≡ replicate held_limit 0

abbrev pub PartsZeroed : Type 0
PartsZeroed = (s : State) (store : List ℕ) (c : ℕ) → Zeroed s store c

-- The bytes that an accepted own write is given stand in the command's part afterwards, side by side from the place of their first address
-- on: over whatever was held there, and whatever the window had.
abbrev pub WrittenHeld : Type 0
WrittenHeld =
    (s : State) (store window : List ℕ) (c a : ℕ) (bytes : List ℕ) → accepted (own_says s (length store) (length window) c a (length bytes)) ≡ true
    → part (own_store s store window c a bytes) (part_start c + place (joined (records_of s c) a (length bytes)) a) (length bytes) ≡ bytes

-- They stand in the window too, from their first address on.
abbrev pub WindowWritten : Type 0
WindowWritten =
    (s : State) (store window : List ℕ) (c a : ℕ) (bytes : List ℕ) → accepted (own_says s (length store) (length window) c a (length bytes)) ≡ true
    → part (own_window s store window c a bytes) a (length bytes) ≡ bytes

-- what an own write has in common with a fetch: the state that it leaves, whether it is accepted, and, if it is not, the number
pub record AsFetched (m : Machine) (written fetched : Call) : Type 0 where
  pub state : state_after m written ≡ state_after m fetched
  pub taken : accepted (says m written) ≡ accepted (says m fetched)
  pub number : accepted (says m written) ≡ false → says m written ≡ says m fetched

-- F-3's "as if fetched": so it is of every own write and the fetch of its span into a destination that is as long.
abbrev pub OwnAsFetched : Type 0
OwnAsFetched =
    (m : Machine) (c a : ℕ) (bytes dest window : List ℕ) → length dest ≡ length bytes
    → AsFetched m (own_write c a bytes window) (fetch c a (length bytes) dest window)

-- F-6's number of a fetch, told without the search, of the records that the command has before it: no more than one beyond those that start at
-- or below the end of the span; and, for a span of a byte or more, just these and the next one, if there is one
pub record LooksAt (m : Machine) (c a n : ℕ) (dest window : List ℕ) : Type 0 where
  pub most : looked_in (says m (fetch c a n dest window)) ≤ suc (starting_up_to (a + n) (records_of m.state c))
  pub some :
      0 < n
      → looked_in (says m (fetch c a n dest window)) ≡ min (suc (starting_up_to (a + n) (records_of m.state c))) (length (records_of m.state c))
  pub none : n ≡ 0 → looked_in (says m (fetch c a n dest window)) ≡ 0

-- So it is of every accepted fetch, whatever state it is given.
abbrev pub FetchLooks : Type 0
FetchLooks =
    (m : Machine) (c a n : ℕ) (dest window : List ℕ) → accepted (says m (fetch c a n dest window)) ≡ true → LooksAt m c a n dest window

-- what a call leaves as it was given
pub record Unchanged (m : Machine) (p : Call) : Type 0 where
  pub machine : after m p ≡ m
  pub dest : dest_after m p ≡ dest_given p
  pub window : window_after m p ≡ window_given p

-- 01's rule on refusals: whatever was lent is as it was given.
abbrev pub RefusedUnchanged : Type 0
RefusedUnchanged = (m : Machine) (p : Call) → accepted (says m p) ≡ false → Unchanged m p
