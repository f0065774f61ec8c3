use mathlib.Core.Path.{◌≡◌}
use lib.ListN.{length}
use Rattle.state.specs.Limits.{command_words}
use Rattle.join.specs.Splice.{MovedDown}
use Rattle.join.proofs.splice.move_down.Given as goal

abbrev pub invariant-loop-k : goal.invariant-loop-k
invariant-loop-k l = (length l.words ≡ command_words) × MovedDown l.initial.words l.to l.from l.k l.words
