-- The claim at work. A span over the edge between the map's first two words is held, written over in part, and fetched again within a longer one:
-- what the byte map answers, delivers, writes and holds is computed on the record engine, which looks at a record or two and at no 4,096 addresses.
use Prim.Native.Nat.{ℕ, ◌<◌}
use native.Mathlib.Omega.{arith}
use mathlib.Core.Path.{◌≡◌, refl, sym, ◌∙◌}
use mathlib.Core.List.{List, [], ◌∷◌, ◌++◌, map}
use mathlib.Core.Bool.{true, false}
use lib.ListN.{length, replicate, length-replicate}
use Rattle.octets.specs.Lists.{all}
use Rattle.state.specs.Limits.{command_limit, store_size}
use Rattle.state.specs.Records.{held, span, addresses, total, place, count_fresh, count_held, keep, lowest, highest, joined}
use Rattle.state.specs.State.{ascending, command_holds, holds}
use Rattle.state.specs.Verdict.{replied, without_looked, verdict, accepted}
use Rattle.bytemap.specs.Map.{held_count, runs_of, fresh, is_open}
use Rattle.bytemap.specs.Runs as bytemap
use Rattle.cache.specs.Begin.{begin_says, begin_state, begin_store}
use Rattle.cache.specs.Fetch.{fetch_says, fetch_state, fetch_store, fetch_dest}
use Rattle.cache.specs.End.{end_says, end_state, end_store}
use Rattle.cache.specs.OwnWrite.{own_says, own_state, own_store, own_window}
use Rattle.cache.specs.Runs.{start, along, ran, says}
use Rattle.agreement.specs.Agreement.{as_command, is_small, Agree}
use Rattle.agreement.proofs.Agreement.{agreement}

-- The record engine serves every command alike, whatever its store held at the start: but for the number of records looked at, each is answered as
-- the byte map, which knows neither.
commands_alike :
    (store other : List ℕ) (c d : ℕ) (ps : List bytemap.Call) → length store ≡ store_size → length other ≡ store_size
    → c < command_limit → d < command_limit → all is_small ps ≡ true
    → map without_looked (along says (start store) (map (as_command c) ps)) ≡ map without_looked (along says (start other) (map (as_command d) ps))
commands_alike store other c d ps size size' low low' small =
    sym (agreement store c ps size low small).answers ∙ (agreement other d ps size' low' small).answers

-- Address 62 and three more are fetched, of sevens. Fives are written at 64 and three more. Then 60 and seven more are fetched, when the window
-- has nines.

zeros : List ℕ
zeros = replicate 32768 0

dest : List ℕ
dest = replicate 8 0

calls : List bytemap.Call
unfolding dest
calls =
    bytemap.begin ∷ bytemap.fetch 62 4 dest (replicate 68 7) ∷ bytemap.own_write 64 (replicate 4 5) (replicate 68 7)
    ∷ bytemap.fetch 60 8 dest (replicate 68 9) ∷ []

calls_end : List bytemap.Call
unfolding calls
calls_end = calls ++ bytemap.end ∷ []

after_calls : Agree zeros 3 calls
unfolding zeros calls all
after_calls = agreement zeros 3 calls (length-replicate {A = ℕ} 32768 0) (omega arith) refl

after_end : Agree zeros 3 calls_end
unfolding zeros calls_end all
after_end = agreement zeros 3 calls_end (length-replicate {A = ℕ} 32768 0) (omega arith) refl

-- four are fresh; four are written, two of them not held before; then two are fresh and six replayed; and there is one run of eight
answers : bytemap.along bytemap.says fresh calls_end
    ≡ replied [] ∷ replied (4 ∷ 0 ∷ []) ∷ replied (4 ∷ 2 ∷ []) ∷ replied (2 ∷ 6 ∷ []) ∷ replied (1 ∷ 8 ∷ []) ∷ []
unfolding zeros calls_end along begin_says begin_state begin_store fetch_says fetch_state fetch_store own_says own_state own_store end_says
    verdict accepted all ascending command_holds holds total held span count_fresh count_held keep lowest highest joined addresses place
answers = after_end.answers

-- of the four that were held two stay sevens, and the written ones are fives
delivered : bytemap.along bytemap.delivers fresh calls
    ≡ [] ∷ (7 ∷ 7 ∷ 7 ∷ 7 ∷ []) ∷ [] ∷ (9 ∷ 9 ∷ 7 ∷ 7 ∷ 5 ∷ 5 ∷ 5 ∷ 5 ∷ []) ∷ []
unfolding answers fetch_dest
delivered = after_calls.delivered

-- the fives go into the window, and no fetch changes one
windows : bytemap.along bytemap.window_after fresh calls
    ≡ [] ∷ replicate 68 7 ∷ (replicate 64 7 ++ replicate 4 5) ∷ replicate 68 9 ∷ []
unfolding answers own_window
windows = after_calls.windows

-- before the end eight bits are set, in one run over both words, and after it none
one_run : runs_of (bytemap.ran fresh calls) ≡ record { start = 60; len = 8 } ∷ []
unfolding answers ran
one_run = after_calls.records

eight_set : held_count (bytemap.ran fresh calls) ≡ 8
unfolding answers ran
eight_set = after_calls.bytes

none_set : held_count (bytemap.ran fresh calls_end) ≡ 0
unfolding answers ran end_state end_store
none_set = after_end.bytes

closed : is_open (bytemap.ran fresh calls_end) ≡ false
unfolding answers ran end_state end_store
closed = after_end.opened
