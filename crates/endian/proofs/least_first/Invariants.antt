-- The loop's invariant: behind the bytes still to come stand those that were taken. The number is theirs, and lies below the power of as many bytes.
use Prim.Native.Nat.{◌<◌}
use mathlib.Core.Path.{◌≡◌}
use mathlib.Core.List.{List, ◌++◌}
use Prim.Native.Nat.{ℕ}
use lib.ListN.{length}
use Rattle.endian.specs.LittleEndian.{least_first}
use Rattle.endian.proofs.Powers.{power}
use Rattle.endian.proofs.least_first.Given as goal

abbrev pub invariant-loop-byte : goal.invariant-loop-byte
invariant-loop-byte l =
    (taken : List ℕ) × (l.bytes ≡ l.byte-iterator.iter.rest.now ++ taken) × (l.number ≡ least_first taken) × (l.number < power (length taken))
