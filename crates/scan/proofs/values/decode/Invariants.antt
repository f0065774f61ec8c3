-- The loop's invariant: the first i bytes are those of the digits, and the others as they were.
use mathlib.Core.Path.{◌≡◌}
use lib.Seq.{paste}
use Rattle.scan.specs.Values.{bytes_of}
use Rattle.scan.proofs.values.decode.Given as goal

abbrev pub invariant-loop-i : goal.invariant-loop-i
invariant-loop-i l = l.buffer ≡ paste l.initial.buffer 0 (bytes_of l.word) l.i
