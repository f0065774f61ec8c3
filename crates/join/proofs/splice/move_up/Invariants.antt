use Prim.Native.Nat.{◌≤◌}
use mathlib.Core.Path.{◌≡◌}
use lib.ListN.{length}
use Rattle.state.specs.Limits.{command_words}
use Rattle.join.specs.Splice.{MovedUp}
use Rattle.join.proofs.splice.move_up.Given as goal

abbrev pub invariant-loop-k : goal.invariant-loop-k
invariant-loop-k l = (l.first ≤ l.k) × (length l.words ≡ command_words) × MovedUp l.initial.words l.k l.used l.words
