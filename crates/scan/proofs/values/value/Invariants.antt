-- The loop's invariant: with the digits that are left, the number so far becomes the number of the word.
use Prim.Native.Nat.{◌≤◌, min}
use mathlib.Core.Path.{◌≡◌}
use lib.ListN.{drop}
use Rattle.text.specs.Decimal.{read_on, value_of}
use Rattle.scan.specs.Values.{most}
use Rattle.scan.proofs.values.value.Given as goal

abbrev pub invariant-loop-byte : goal.invariant-loop-byte
invariant-loop-byte l = (l.value ≤ most) × (min most (read_on l.value (drop l.byte-index l.word)) ≡ min most (value_of l.word))
