-- Claims about page walks at work. A command walks a list of two pages, the host writes over the list, and the command walks it again: the spans are
-- the same by `SameSpans`, and they are those of the list as it was.
use Prim.Native.Nat.{ℕ}
use mathlib.Core.Path.{◌≡◌, refl}
use mathlib.Core.List.{List, [], ◌∷◌, ◌++◌, flat_map}
use mathlib.Core.Bool.{true}
use lib.ListN.{take, replicate}
use Rattle.octets.specs.Lists.{all}
use Rattle.state.specs.Records.{held, span, addresses, total, place, count_fresh, count_held, keep, lowest, highest, joined}
use Rattle.state.specs.State.{ascending, command_holds, holds}
use Rattle.state.specs.Verdict.{verdict, accepted}
use Rattle.cache.specs.Begin.{begin_says, begin_state, begin_store}
use Rattle.cache.specs.Fetch.{fetch_says, fetch_state, fetch_store, fetch_dest}
use Rattle.cache.specs.HostWrite.{host_says}
use Rattle.cache.specs.Runs.{begin, host_write, Machine, start, along, ran}
use Rattle.endian.specs.LittleEndian.{least_first}
use Rattle.prp.specs.Pages.{Walk, scratch_least}
use Rattle.prp.specs.Entries.{entries_in}
use Rattle.prp.specs.Walk.{answer_by, fetches_by, page_entries, walk_says, walk_fetches, walk_addresses}
use Rattle.walks.specs.Places.{Place, plain, walk, place_after, throughout, went}
use Rattle.walks.specs.Claims.{SameSpansAt}
use Rattle.walks.proofs.SameSpans.{same_spans}

store : List ℕ
store = replicate 32768 0

-- the entry of page p, for p below 16: 4,096 × p, least byte first
entry : ℕ → List ℕ
entry sixteen-times = 0 ∷ sixteen-times ∷ 0 ∷ 0 ∷ 0 ∷ 0 ∷ 0 ∷ 0 ∷ []

-- a list of pages 5 and 6 at address 0, and what the host makes of it
listed : List ℕ
unfolding entry
listed = entry 80 ++ entry 96

overwritten : List ℕ
overwritten = replicate 16 255

-- three pages from page 1 on, the last two by the list
reading : List ℕ → Walk
reading window = record {
  command = 1;
  prp1 = 4100;
  prp2 = 0;
  transfer = 12284;
  least = scratch_least;
  scratch = replicate 128 0;
  address_list = replicate 17 0;
  length_list = replicate 17 0;
  window = window;
}

before : List Place
before = plain (begin 1) ∷ []

between : List Place
unfolding listed overwritten
between = plain (host_write 0 overwritten listed) ∷ []

-- the machine when the list is checked, and when it is used
at_check : Machine
unfolding before store
at_check = went (start store) before

at_use : Machine
unfolding at_check between reading
at_use = went (place_after at_check (walk (reading listed))) between

checked : accepted (walk_says at_check (reading listed)) ≡ true
unfolding at_check at_use listed entry walk_says answer_by walk_fetches fetches_by entries_in least_first along ran throughout went begin_says begin_state begin_store
    fetch_says fetch_state fetch_store fetch_dest host_says verdict accepted all ascending command_holds holds total held span count_fresh count_held keep lowest
    highest joined addresses place
checked = refl

used : accepted (walk_says at_use (reading overwritten)) ≡ true
unfolding checked overwritten
used = refl

spans_kept : SameSpansAt at_check at_use (reading listed) (reading overwritten)
unfolding checked overwritten flat_map
spans_kept =
    same_spans store before (reading listed) between (reading overwritten)
    (record { command = refl; prp1 = refl; prp2 = refl; transfer = refl }) checked used (λ x here. refl)

pages_used : take 4 (walk_addresses at_use (reading overwritten)) ≡ 4100 ∷ 20480 ∷ 24576 ∷ 0 ∷ []
unfolding used walk_addresses page_entries
pages_used = refl
