-- The definitions on one small run: two commands fetch the same address, one of them again after the host has changed it, then
-- twice past the window, where it is refused although in the second case it holds every byte, and once more after its end and
-- another begin.
use Prim.Native.Nat.{ℕ}
use native.Mathlib.Omega.{arith}
use mathlib.Core.Path.{◌≡◌, refl, ap, sym, ◌∙◌}
use mathlib.Core.List.{List, [], ◌∷◌, map}
use mathlib.Core.Logic.{◌≢◌}
use mathlib.Core.Bool.{true, false, not}
use lib.ListN.{replicate}
use Rattle.octets.specs.Lists.{count, all}
use Rattle.state.specs.Records.{held, span, addresses, total, place, count_fresh, count_held, keep, lowest, highest, joined, looked_up_to, looked}
use Rattle.state.specs.State.{is_open, ascending, command_holds, holds}
use Rattle.state.specs.Verdict.{Reply, refused, replied, verdict, accepted}
use Rattle.cache.specs.Begin.{begin_says, begin_state, begin_store}
use Rattle.cache.specs.Fetch.{fetch_says, fetch_state, fetch_store, fetch_dest}
use Rattle.cache.specs.End.{end_says, end_state, end_store}
use Rattle.cache.specs.Runs.{Call, begin, fetch, end, host_write, show, start, along, ran, delivers}
use Rattle.history.specs.Journal.{Event, journal, told, backwards, deed}
use Rattle.history.specs.Firsts.{remember, memory, write_in, last_write, fetch_in, first_fetch, First, firsts_among, firsts_by, firsts, owed_by, owed}
use Rattle.history.specs.Counts.{counts_replied, counts_owed, add, fresh_since, sum_owed}
use Rattle.history.specs.Stores.{phase_by, phase}
use Rattle.history.specs.Answers.{open_since, replay_count, first_count, answer_owed, events_of, spare}
use Rattle.history.specs.Claims.{renews, may_change, common}
use Rattle.history.proofs.Tied.{open_told}
use Rattle.history.proofs.Counts.{counts_tie}
use Rattle.history.proofs.Meet.{counts_meet}

abbrev dest : List ℕ
dest = 0 ∷ 0 ∷ 0 ∷ []

abbrev ◌gives◌ : Call → Reply → Event
call gives answer = record { call = call; answer = answer }

infix 70 ◌gives◌
-- the calls, with the windows as the host left them, and what each is answered
run : List Event
run =
    (begin 1 gives replied [])
    ∷ (begin 2 gives replied [])
    ∷ (fetch 1 0 2 dest (4 ∷ 5 ∷ 6 ∷ []) gives replied (2 ∷ 0 ∷ 0 ∷ []))
    ∷ (fetch 2 0 1 dest (40 ∷ 50 ∷ 60 ∷ []) gives replied (1 ∷ 0 ∷ 0 ∷ []))
    ∷ (fetch 1 0 3 dest (40 ∷ 50 ∷ 60 ∷ []) gives replied (1 ∷ 2 ∷ 1 ∷ []))
    ∷ (fetch 1 2 2 dest (7 ∷ 8 ∷ 9 ∷ []) gives refused 9)
    ∷ (fetch 1 0 3 dest (7 ∷ 8 ∷ []) gives refused 9)
    ∷ (begin 1 gives refused 22)
    ∷ (end 1 gives replied (1 ∷ 3 ∷ []))
    ∷ (begin 1 gives replied [])
    ∷ (fetch 1 0 1 dest (7 ∷ 8 ∷ 9 ∷ []) gives replied (1 ∷ 0 ∷ 0 ∷ []))
    ∷ (end 1 gives replied (1 ∷ 1 ∷ [])) ∷ []

calls : List Call
calls = map (λ e. e.call) run

is_run : journal (replicate 32768 3) calls ≡ run
unfolding run calls along begin_says begin_state begin_store fetch_says fetch_state fetch_store end_says end_state end_store verdict accepted
    all ascending command_holds holds total held span count_fresh count_held keep lowest highest joined addresses place looked_up_to looked
is_run = refl

abbrev ◌↦↦◌ : ℕ → ℕ → First
x ↦↦ v = record { address = x; value = v }

infix 80 ◌↦↦◌
first_fetches : told firsts [] run
    ≡ [] ∷ [] ∷ (0 ↦↦ 4 ∷ 1 ↦↦ 5 ∷ []) ∷ (0 ↦↦ 40 ∷ []) ∷ (2 ↦↦ 60 ∷ []) ∷ [] ∷ [] ∷ [] ∷ [] ∷ []
    ∷ (0 ↦↦ 7 ∷ []) ∷ [] ∷ []
unfolding run told remember memory firsts_among firsts_by accepted span
first_fetches = refl

bytes_owed : told owed [] run
    ≡ [] ∷ [] ∷ (4 ∷ 5 ∷ []) ∷ (40 ∷ []) ∷ (4 ∷ 5 ∷ 60 ∷ []) ∷ [] ∷ [] ∷ [] ∷ [] ∷ [] ∷ (7 ∷ []) ∷ [] ∷ []
unfolding run told remember memory owed_by accepted span
bytes_owed = refl

bytes_delivered : along delivers (start (replicate 32768 3)) calls
    ≡ [] ∷ [] ∷ (4 ∷ 5 ∷ []) ∷ (40 ∷ []) ∷ (4 ∷ 5 ∷ 60 ∷ []) ∷ [] ∷ [] ∷ [] ∷ [] ∷ [] ∷ (7 ∷ []) ∷ [] ∷ []
unfolding run calls is_run fetch_dest
bytes_delivered = refl

-- the counts owed in a run are those replied, by the claim and without a search of all addresses for runs of them
pub owed_replied : (store : List ℕ) (ps : List Call) (es : List Event) → journal store ps ≡ es → told counts_owed [] es ≡ told counts_replied [] es
owed_replied store ps es is = sym (ap (told counts_owed []) is) ∙ sym (counts_tie store ps) ∙ ap (told counts_replied []) is

counts_owed_lem : told counts_owed [] run
    ≡ [] ∷ [] ∷ (2 ∷ 0 ∷ 0 ∷ []) ∷ (1 ∷ 0 ∷ 0 ∷ []) ∷ (1 ∷ 2 ∷ 1 ∷ []) ∷ [] ∷ [] ∷ [] ∷ [] ∷ [] ∷ (1 ∷ 0 ∷ 0 ∷ []) ∷ [] ∷ []
unfolding run told accepted
counts_owed_lem = owed_replied (replicate 32768 3) calls run is_run

sums_owed : told sum_owed [] run ≡ [] ∷ [] ∷ [] ∷ [] ∷ [] ∷ [] ∷ [] ∷ [] ∷ (3 ∷ []) ∷ [] ∷ [] ∷ (1 ∷ []) ∷ []
unfolding run told add fresh_since accepted
sums_owed = refl

-- behind this run command 1 is closed and command 2 open, and what further calls are owed follows from that
abbrev past : List Event
past = backwards [] run

open_now : map (open_since past) (1 ∷ 2 ∷ 3 ∷ []) ≡ false ∷ true ∷ false ∷ []
unfolding run backwards phase_by phase accepted
open_now = refl

owed_now : map (answer_owed 32768 past) (begin 1 ∷ begin 2 ∷ begin 8 ∷ end 1 ∷ host_write 0 (7 ∷ []) (1 ∷ 2 ∷ []) ∷ show 1 0 ∷ [])
    ≡ replied [] ∷ refused 22 ∷ refused 6 ∷ refused 21 ∷ replied (1 ∷ []) ∷ refused 21 ∷ []
unfolding open_now answer_owed verdict
owed_now = refl

-- of the span 0+3 command 2 has fetched the first address, and of 1 and 2 it would have first fetches
counts_now : replay_count past 2 0 3 ∷ first_count past 2 0 3 ∷ [] ≡ 1 ∷ 2 ∷ []
unfolding run backwards write_in last_write fetch_in first_fetch accepted count span
counts_now = refl

-- and of its 4,096 places one is handed out and the others are spare, by the claims and without a count of all addresses
open_told_now : is_open (ran (start (replicate 32768 3)) calls).state 2 ≡ true
unfolding open_now
open_told_now = open_told (replicate 32768 3) calls 2 ∙ ap (λ (es : List Event). open_since (backwards [] es) 2) is_run

fresh_now : fresh_since (events_of (replicate 32768 3) calls) 2 ≡ 1
unfolding run backwards add fresh_since accepted
fresh_now = ap (λ (es : List Event). fresh_since (backwards [] es) 2) is_run

spare_now : spare (events_of (replicate 32768 3) calls) 2 ≡ 4095
spare_now = omega (arith, fresh_now, (counts_meet (replicate 32768 3) calls 2 open_told_now).meet)

-- command 1 begins anew in this run
begins_anew : all (λ e. not (renews 1 0 (deed e))) run ≡ false
unfolding run all accepted
begins_anew = refl

-- a fetch names its command
changes_its_own : may_change (fetch 1 0 1 dest []) 1 ≡ true
changes_its_own = refl

-- two lists that differ in a window's length, in a destination, or in the length of a host write have not all in common
other_window : common (fetch 1 0 1 dest (7 ∷ [])) ≢ common (fetch 1 0 1 dest (7 ∷ 8 ∷ []))
unfolding common
other_window e = let z : ◌≡◌ {A = ℕ} 0 1 = cc in omega arith

other_destination : common (fetch 1 0 1 (1 ∷ []) []) ≢ common (fetch 1 0 1 (2 ∷ []) [])
unfolding common
other_destination e = let z : ◌≡◌ {A = ℕ} 1 2 = cc in omega arith

other_write : common (host_write 0 (7 ∷ []) []) ≢ common (host_write 0 (7 ∷ 8 ∷ []) [])
unfolding common
other_write e = let z : ◌≡◌ {A = ℕ} 0 1 = cc in omega arith
