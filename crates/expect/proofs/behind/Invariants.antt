-- The loop's invariant: the words from the place reached on are those behind the ones counted.
use Prim.Native.Nat.{◌≤◌}
use mathlib.Core.Path.{◌≡◌}
use lib.ListN.{length, drop}
use Rattle.expect.specs.Expect.{words_of}
use Rattle.expect.proofs.behind.Given as goal

abbrev pub invariant-loop : goal.invariant-loop
invariant-loop l = (l.at ≤ length l.text) × (words_of (drop l.at l.text) ≡ drop l.counter (words_of l.text))
