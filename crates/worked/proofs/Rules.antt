-- Claims at work. The equal-runs rule: a count of 4, at address 2, is fetched and checked, the host writes over it, and the list behind
-- the count is fetched together with it. Records told: what a command holds. Store told: what an end leaves. Records looked at: how many.
use Prim.Native.Nat.{ℕ, ◌<◌}
use native.Mathlib.Omega.{arith}
use mathlib.Core.Path.{◌≡◌, refl, ap, ◌∙◌}
use mathlib.Core.List.{List, [], ◌∷◌, ◌++◌, flat_map}
use mathlib.Core.Bool.{true}
use mathlib.Core.Logic.{◌≢◌}
use lib.ListN.{get_or, replicate}
use Rattle.octets.specs.Lists.{all}
use Rattle.state.specs.declared.Record.{Record}
use Rattle.state.specs.Records.{held, span, addresses, total, place, count_fresh, count_held, keep, lowest, highest, joined, looked}
use Rattle.state.specs.State.{records_of, is_open, ascending, command_holds, holds}
use Rattle.state.specs.Verdict.{verdict, accepted}
use Rattle.state.specs.Claims.{Looks}
use Rattle.state.proofs.Looked.{looked_exactly}
use Rattle.state.proofs.Runs.{runs_are_runs}
use Rattle.cache.specs.Begin.{begin_says, begin_state, begin_store}
use Rattle.cache.specs.Fetch.{fetch_says, fetch_state, fetch_store, fetch_dest}
use Rattle.cache.specs.End.{end_says, end_state, end_store}
use Rattle.cache.specs.HostWrite.{host_says}
use Rattle.cache.specs.Runs.{Call, begin, fetch, end, host_write, start, along, ran, delivers}
use Rattle.history.specs.Journal.{journal, told, backwards}
use Rattle.history.specs.Firsts.{remember, memory, held_since, First, firsts_among, firsts_by, firsts}
use Rattle.history.specs.Stores.{phase_by, phase}
use Rattle.history.specs.Claims.{common}
use Rattle.history.proofs.EqualRuns.{equal_runs, equal_runs_lengths}
use Rattle.history.proofs.Stored.{records_told}
use Rattle.history.proofs.Stores.{store_told}

store : List ℕ
store = replicate 32768 0

-- the window with this count
counting : ℕ → List ℕ
counting n = 0 ∷ 0 ∷ n ∷ 11 ∷ 12 ∷ 13 ∷ []

abbrev dest : List ℕ
dest = 0 ∷ 0 ∷ 0 ∷ 0 ∷ []

-- the count as it is checked, what the host then writes, and so what stands in the window when the list is fetched
retire : ℕ → ℕ → List Call
unfolding counting
retire checked written =
    begin 1 ∷ fetch 1 2 1 dest (counting checked) ∷ host_write 2 (written ∷ []) (counting checked) ∷ fetch 1 2 4 dest (counting written) ∷ []

-- Overwritten by 40, or by 4 again: the first fetches are the same, so the firmware gets the same bytes.
same_firsts : told firsts [] (journal store (retire 4 40)) ≡ told firsts [] (journal store (retire 4 4))
unfolding store retire told along begin_says begin_state begin_store fetch_says fetch_state fetch_store host_says verdict accepted all
    ascending command_holds holds total held span count_fresh count_held keep lowest highest joined addresses place remember memory firsts_among firsts_by
same_firsts = refl

same_delivered : along delivers (start store) (retire 4 40) ≡ along delivers (start store) (retire 4 4)
unfolding retire common
same_delivered = ((equal_runs store (retire 4 40) (retire 4 4) refl).exactly.1 same_firsts).1

-- and these are the bytes: the count is 4 when it is used, as it was when it was checked
delivered_bytes : along delivers (start store) (retire 4 40) ≡ [] ∷ (4 ∷ []) ∷ [] ∷ (4 ∷ 11 ∷ 12 ∷ 13 ∷ []) ∷ []
unfolding same_firsts store fetch_dest
delivered_bytes = refl

-- A count of 5 at the first fetch is another first fetch, so what is delivered differs.
other_firsts : told firsts [] (journal store (retire 4 40)) ≢ told firsts [] (journal store (retire 5 40))
unfolding same_firsts
other_firsts e =
    let nothing : First = record { address = 0; value = 0 } in
    let counts : ◌≡◌ {A = ℕ} 4 5 = ap (λ (l : List (List First)). (get_or (get_or l 1 []) 0 nothing).value) e in
    omega arith

other_delivered : along delivers (start store) (retire 4 40) ≢ along delivers (start store) (retire 5 40)
unfolding retire common
other_delivered h =
    let runs = equal_runs store (retire 4 40) (retire 5 40) refl in
    other_firsts (runs.exactly.0 (runs.answers, h))

-- The same count fetched into zeros and into nines: the two destinations have nothing in common but their length, and the bytes delivered
-- are the same.
into : List ℕ → List Call
unfolding counting
into bytes = begin 1 ∷ fetch 1 2 1 bytes (counting 4) ∷ []

same_into : along delivers (start store) (into (0 ∷ 0 ∷ [])) ≡ along delivers (start store) (into (9 ∷ 9 ∷ []))
unfolding same_firsts into common
same_into = ((equal_runs_lengths store (into (0 ∷ 0 ∷ [])) (into (9 ∷ 9 ∷ [])) refl).exactly.1 refl).1

-- Records told: an address below 65,536 is in a record of an open command exactly if the command has fetched or written it since its
-- begin.
held_told :
    (store : List ℕ) (ps : List Call) (c x : ℕ) → is_open (ran (start store) ps).state c ≡ true → x < 65536
    → held (records_of (ran (start store) ps).state c) x ≡ held_since (backwards [] (journal store ps)) c x
held_told store ps c x o below =
    ap (λ (rs : List Record). held rs x) (records_told store ps c o) ∙ (runs_are_runs (held_since (backwards [] (journal store ps)) c)).same x below

-- Store told: a store of sevens, in which command 1 begins, fetches the count and ends. Its part is zero, and the others are as they were.
sevens : List ℕ
sevens = replicate 32768 7

peek : List Call
unfolding counting
peek = begin 1 ∷ fetch 1 2 1 dest (counting 4) ∷ end 1 ∷ []

store_after_end : (ran (start sevens) peek).store ≡ replicate 4096 7 ++ replicate 4096 0 ++ replicate 24576 7
unfolding same_firsts sevens peek end_says end_state end_store backwards flat_map phase phase_by
store_after_end = store_told sevens peek

-- Records looked at: of the records 0+1, 2+1, 4+1 and 6+1 a fetch of 0+1 looks at two, one of 0+2, at whose end a record starts, at three, and one
-- of 9+1 at all four. The claim counts starts, and so none of these is searched for.
evens : List Record
evens = let at : ℕ → Record = λ a. record { start = a; len = 1 } in at 0 ∷ at 2 ∷ at 4 ∷ at 6 ∷ []

looked_of_evens : (looked evens 0 1 ≡ 2) × (looked evens 0 2 ≡ 3) × (looked evens 9 1 ≡ 4)
unfolding evens keep ascending
looked_of_evens =
    let looks : (a n : ℕ) → Looks evens a n = λ a n. looked_exactly evens a n refl in
    ((looks 0 1).some (omega arith), (looks 0 2).some (omega arith), (looks 9 1).some (omega arith))
