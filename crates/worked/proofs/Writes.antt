-- Claims at work. Command 1 writes a byte and ends, command 2 begins and fetches it: `WrittenSeen` says that it gets that byte.
use Prim.Native.Nat.{ℕ}
use mathlib.Core.Path.{◌≡◌, refl}
use mathlib.Core.List.{List, [], ◌∷◌}
use lib.ListN.{replicate}
use Rattle.octets.specs.Lists.{all}
use Rattle.state.specs.Records.{held, span, addresses, total, place, count_fresh, keep, lowest, highest, joined}
use Rattle.state.specs.State.{ascending, command_holds, holds}
use Rattle.state.specs.Verdict.{accepted, verdict}
use Rattle.cache.specs.Begin.{begin_says, begin_state, begin_store}
use Rattle.cache.specs.Fetch.{fetch_says, fetch_state, fetch_store, fetch_dest}
use Rattle.cache.specs.End.{end_says, end_state, end_store}
use Rattle.cache.specs.OwnWrite.{own_says, own_state, own_store, own_window}
use Rattle.cache.specs.Runs.{along}
use Rattle.history.specs.Journal.{backwards}
use Rattle.history.specs.Firsts.{write_in, last_write, fetch_in, first_fetch}
use Rattle.journal.specs.Writes.{Request, begins, ends, own_writes, made, left, byte_at, before_fetch}
use Rattle.journal.proofs.Writes.{written_seen}

store : List ℕ
store = replicate 32768 0

abbrev window : List ℕ
window = replicate 32 0

abbrev dest : List ℕ
dest = 0 ∷ []

abbrev write : Request
write = own_writes 1 16 (7 ∷ [])

abbrev between : List Request
between = ends 1 ∷ begins 2 ∷ []

later_command : byte_at (before_fetch store window dest (begins 1 ∷ []) write between) 2 16 1 16 ≡ 7
unfolding store made left along backwards write_in last_write fetch_in first_fetch begin_says begin_state begin_store fetch_says fetch_state fetch_store
    fetch_dest end_says end_state end_store own_says own_state own_store own_window verdict accepted all ascending command_holds holds total held span
    addresses place count_fresh keep lowest highest joined
later_command = (written_seen store window dest (begins 1 ∷ []) write between).later 2 16 1 16 refl refl refl refl
