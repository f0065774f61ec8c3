-- A command sees its own writes, on one small run: it fetches two bytes, writes over the second and one byte more, and reads all three, with
-- another host byte at each; another command reads the window's bytes; a write past the window, one of no bytes and one by a closed command;
-- and what is written is forgotten with the end.
use Prim.Native.Nat.{ℕ}
use mathlib.Core.Path.{◌≡◌, refl}
use mathlib.Core.List.{List, [], ◌∷◌, map}
use lib.ListN.{replicate, take}
use Rattle.octets.specs.Lists.{all}
use Rattle.state.specs.Records.{held, span, addresses, total, place, count_fresh, count_held, keep, lowest, highest, joined, looked_up_to, looked}
use Rattle.state.specs.State.{ascending, command_holds, holds}
use Rattle.state.specs.Verdict.{Reply, refused, replied, verdict, accepted}
use Rattle.cache.specs.Begin.{begin_says, begin_state, begin_store}
use Rattle.cache.specs.Fetch.{fetch_says, fetch_state, fetch_store, fetch_dest}
use Rattle.cache.specs.OwnWrite.{own_says, own_state, own_store, own_window}
use Rattle.cache.specs.End.{end_says, end_state, end_store}
use Rattle.cache.specs.Runs.{Call, begin, fetch, end, own_write, start, says, along, delivers, window_after}
use Rattle.cache.proofs.Claims.{own_as_fetched}
use Rattle.history.specs.Journal.{Event, journal, told, backwards}
use Rattle.history.specs.Firsts.{none, some, remember, memory, write_in, last_write, fetch_in, first_fetch, value_since}
use Rattle.history.specs.Firsts.{First, firsts_among, firsts_by, firsts, owed_by, owed}
use Rattle.history.specs.Counts.{counts_owed, add, fresh_since, sum_owed}
use Rattle.history.specs.Claims.{common}
use Rattle.history.proofs.EqualRuns.{equal_runs}
use Rattle.worked.proofs.Calls.{owed_replied}

abbrev dest : List ℕ
dest = 0 ∷ 0 ∷ 0 ∷ []

abbrev window : List ℕ
window = 4 ∷ 5 ∷ 6 ∷ 7 ∷ []

-- the window once the host has written over every byte of it
abbrev changed : List ℕ
changed = 40 ∷ 50 ∷ 60 ∷ 70 ∷ []

abbrev ◌gives◌ : Call → Reply → Event
call gives answer = record { call = call; answer = answer }

infix 70 ◌gives◌
run : List Event
run =
    (begin 1 gives replied [])
    ∷ (begin 2 gives replied [])
    ∷ (fetch 1 0 2 dest window gives replied (2 ∷ 0 ∷ 0 ∷ []))
    ∷ (own_write 1 1 (8 ∷ 9 ∷ []) window gives replied (2 ∷ 1 ∷ []))
    ∷ (fetch 1 0 3 dest changed gives replied (0 ∷ 3 ∷ 1 ∷ []))
    ∷ (fetch 2 1 2 dest changed gives replied (2 ∷ 0 ∷ 0 ∷ []))
    ∷ (own_write 1 3 (8 ∷ 9 ∷ []) window gives refused 9)
    ∷ (own_write 1 4 [] window gives replied (0 ∷ 0 ∷ []))
    ∷ (own_write 3 0 (8 ∷ []) window gives refused 21)
    ∷ (end 1 gives replied (1 ∷ 3 ∷ []))
    ∷ (begin 1 gives replied [])
    ∷ (fetch 1 1 1 dest changed gives replied (1 ∷ 0 ∷ 0 ∷ [])) ∷ []

calls : List Call
calls = map (λ e. e.call) run

is_run : journal (replicate 32768 3) calls ≡ run
unfolding run calls along begin_says begin_state begin_store fetch_says fetch_state fetch_store own_says own_state own_store end_says end_state end_store
    verdict accepted all ascending command_holds holds total held span count_fresh count_held keep lowest highest joined addresses place looked_up_to looked
is_run = refl

bytes_owed : told owed [] run ≡ [] ∷ [] ∷ (4 ∷ 5 ∷ []) ∷ [] ∷ (4 ∷ 8 ∷ 9 ∷ []) ∷ (50 ∷ 60 ∷ []) ∷ [] ∷ [] ∷ [] ∷ [] ∷ [] ∷ (50 ∷ []) ∷ []
unfolding run told remember memory owed_by accepted span
bytes_owed = refl

bytes_delivered : along delivers (start (replicate 32768 3)) calls
    ≡ [] ∷ [] ∷ (4 ∷ 5 ∷ []) ∷ [] ∷ (4 ∷ 8 ∷ 9 ∷ []) ∷ (50 ∷ 60 ∷ []) ∷ [] ∷ [] ∷ [] ∷ [] ∷ [] ∷ (50 ∷ []) ∷ []
unfolding run calls is_run fetch_dest
bytes_delivered = refl

-- the written bytes are in the window too; refused and of no bytes, nothing is written
windows_left : along window_after (start (replicate 32768 3)) calls
    ≡ [] ∷ [] ∷ window ∷ (4 ∷ 8 ∷ 9 ∷ 7 ∷ []) ∷ changed ∷ changed ∷ window ∷ window ∷ window ∷ [] ∷ [] ∷ changed ∷ []
unfolding run calls is_run own_window
windows_left = refl

abbrev ◌↦↦◌ : ℕ → ℕ → First
x ↦↦ v = record { address = x; value = v }

infix 80 ◌↦↦◌
-- address 2 was written before command 1 fetched it, so that fetch is the first of nothing
first_fetches : told firsts [] run
    ≡ [] ∷ [] ∷ (0 ↦↦ 4 ∷ 1 ↦↦ 5 ∷ []) ∷ [] ∷ [] ∷ (1 ↦↦ 50 ∷ 2 ↦↦ 60 ∷ []) ∷ [] ∷ [] ∷ [] ∷ [] ∷ [] ∷ (1 ↦↦ 50 ∷ []) ∷ []
unfolding run told remember memory firsts_among firsts_by accepted span
first_fetches = refl

counts_owed_lem : told counts_owed [] run
    ≡ [] ∷ [] ∷ (2 ∷ 0 ∷ 0 ∷ []) ∷ (2 ∷ 1 ∷ []) ∷ (0 ∷ 3 ∷ 1 ∷ []) ∷ (2 ∷ 0 ∷ 0 ∷ []) ∷ [] ∷ (0 ∷ 0 ∷ []) ∷ [] ∷ [] ∷ [] ∷ (1 ∷ 0 ∷ 0 ∷ []) ∷ []
unfolding run told accepted
counts_owed_lem = owed_replied (replicate 32768 3) calls run is_run

-- two addresses fresh, one that was written and not held before, and none
sums_owed : told sum_owed [] run ≡ [] ∷ [] ∷ [] ∷ [] ∷ [] ∷ [] ∷ [] ∷ [] ∷ [] ∷ (3 ∷ []) ∷ [] ∷ [] ∷ []
unfolding run told add fresh_since accepted
sums_owed = refl

-- behind the first four calls: what was written, else what was fetched first
since : map (value_since (backwards [] (take 4 run)) 1) (0 ∷ 1 ∷ 2 ∷ 3 ∷ []) ≡ some 4 ∷ some 8 ∷ some 9 ∷ none ∷ []
unfolding run backwards write_in last_write fetch_in first_fetch accepted
since = refl

-- The equal-runs rule: a byte that was written before it is fetched may differ in the two windows, and the command is given the same.
posting : ℕ → List Call
posting byte = begin 1 ∷ own_write 1 2 (9 ∷ []) window ∷ fetch 1 1 2 dest (4 ∷ 5 ∷ byte ∷ []) ∷ []

same_delivered : along delivers (start (replicate 32768 3)) (posting 6) ≡ along delivers (start (replicate 32768 3)) (posting 60)
unfolding is_run posting common told remember memory firsts_among firsts_by
same_delivered = ((equal_runs (replicate 32768 3) (posting 6) (posting 60) refl).exactly.1 refl).1

-- As if fetched: an own write past the window and a fetch of its span get the same number.
past_the_window : says (start (replicate 32768 3)) (own_write 1 3 (8 ∷ 9 ∷ []) window)
    ≡ says (start (replicate 32768 3)) (fetch 1 3 2 (0 ∷ 0 ∷ []) window)
unfolding is_run
past_the_window = (own_as_fetched (start (replicate 32768 3)) 1 3 (8 ∷ 9 ∷ []) (0 ∷ 0 ∷ []) window refl).number refl
