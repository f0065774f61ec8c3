-- How a marked walk is written down and tested: where it starts, the walk, and what must come of it, which is its answer, the front of both lists,
-- the records of its command afterwards, and whether the scratch is zero or as it was.
use Rattle.std.specs.Prelude.{ℕ, List, ◌++◌, Bool, cond, ◌&&◌, length, drop, replicate}
use Rattle.octets.specs.Lists.{all}
use Rattle.state.specs.declared.Record.{Record}
use Rattle.state.specs.Records.{held, span, addresses, total, place, count_fresh, count_held, keep, lowest, highest, joined, looked_up_to, looked}
use Rattle.state.specs.State.{records_of, ascending, command_holds, holds}
use Rattle.state.specs.Verdict.{Reply, accepted, verdict}
use Rattle.cache.specs.Fetch.{fetch_says, fetch_state, fetch_store, fetch_dest}
use Rattle.cache.specs.Runs.{Machine, ran}
use Rattle.endian.specs.LittleEndian.{least_first}
use Rattle.situations.specs.Steps.{same_numbers, same_answer, same_records}
use Rattle.prp.specs.Pages.{Walk, span_lengths}
use Rattle.prp.specs.Entries.{entries_in}
use Rattle.prp.specs.Walk.{looked_behind, answer_by, fetches_by, page_entries, walk_says, walk_fetches, walk_after, walk_scratch, walk_addresses, walk_lengths}

-- The program that the marked walks try: the definitions of the walk. What the walks are about stands on a line of its own, where a wrong program
-- can be put in its place: then a walk fails.
module _ (m : Machine) (w : Walk) where
  -- what it answers
  abbrev pub answers : Reply
  answers = walk_says m w

  -- what it leaves in the two lists, in the scratch, and of state and store
  abbrev pub leaves_addresses : List ℕ
  leaves_addresses = walk_addresses m w

  abbrev pub leaves_lengths : List ℕ
  leaves_lengths = walk_lengths m w

  abbrev pub leaves_scratch : List ℕ
  leaves_scratch = walk_scratch m w

  abbrev pub leaves : Machine
  leaves = walk_after m w

-- A walk with what must come of it. `addresses` and `lengths` are the front of the two lists, behind which every place stays; of a refused walk
-- they are empty.
pub record Marked : Type 0 where
  pub before : Machine
  pub walk : Walk
  pub answer : Reply
  pub addresses : List ℕ
  pub lengths : List ℕ
  pub records : List Record
  pub zeroed : Bool

-- a list with these numbers at its front
abbrev pub fronted : (front list : List ℕ) → List ℕ
fronted front list = front ++ drop (length front) list

-- does the walk come to what it must?
unfoldable pub passes : Marked → Bool
unfolding same_numbers same_answer same_records walk_says answer_by looked_behind walk_fetches fetches_by walk_scratch walk_addresses walk_lengths page_entries
    span_lengths entries_in least_first ran fetch_says fetch_state fetch_store fetch_dest accepted verdict all ascending command_holds holds total held span count_fresh
    count_held keep lowest highest joined addresses place looked_up_to looked
passes k =
    let m = k.before in
    let w = k.walk in
    same_answer k.answer (answers m w)
    && same_numbers (fronted k.addresses w.address_list) (leaves_addresses m w)
    && same_numbers (fronted k.lengths w.length_list) (leaves_lengths m w)
    && same_records k.records (records_of (leaves m w).state w.command)
    && same_numbers (cond k.zeroed (replicate (length w.scratch) 0) w.scratch) (leaves_scratch m w)
