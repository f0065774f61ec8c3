-- The ones so far and those of the words still to come are the ones of all words.
use Prim.Native.Nat.{◌+◌, ◌*◌, ◌≤◌}
use mathlib.Core.Path.{◌≡◌}
use lib.ListN.{drop}
use Rattle.bits.specs.Bits.{ones_of}
use Rattle.bits.proofs.count.ones.Given as goal

abbrev pub invariant-loop-word : goal.invariant-loop-word
invariant-loop-word l = (l.n ≤ 64 * l.word-index) × (l.n + ones_of (drop l.word-index l.words) ≡ ones_of l.words)
