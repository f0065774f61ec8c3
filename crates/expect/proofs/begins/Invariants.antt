-- The loop's invariant: the words that are left tell the same as all of them. The measure is the words left.
use Prim.Native.Nat.{◌-◌}
use mathlib.Core.Path.{◌≡◌}
use lib.ListN.{length, drop}
use Rattle.scan.specs.Scan.{front}
use Rattle.expect.specs.Expect.{words_of, same}
use Rattle.expect.proofs.begins.Given as goal

abbrev pub invariant-loop-i : goal.invariant-loop-i
invariant-loop-i l = front same (drop l.i (words_of l.expected)) (drop l.i (words_of l.answer)) ≡ front same (words_of l.expected) (words_of l.answer)

abbrev pub decreases-loop-i : goal.decreases-loop-i
decreases-loop-i l = length (words_of l.expected) - l.i
