-- The sum so far and the total of the records still to come are the total wanted.
use Prim.Native.Nat.{◌+◌, ◌*◌, ◌≤◌}
use mathlib.Core.Path.{◌≡◌}
use lib.ListN.{drop}
use Rattle.state.specs.Records.{total}
use Rattle.state.specs.State.{records_in}
use Rattle.state.specs.Words.{command_in}
use Rattle.words.proofs.entries.held_from.Given as goal

abbrev pub invariant-loop-i : goal.invariant-loop-i
invariant-loop-i l = (l.sum + total (drop l.i (records_in (command_in l.words))) ≡ total (drop l.from (records_in (command_in l.words)))) × (l.sum ≤ 65536 * l.i)
