-- The loop's invariant: the pairs of the first i bytes are stored.
use mathlib.Core.Path.{◌≡◌}
use lib.ListN.{take}
use Rattle.octets.specs.Lists.{overwrite}
use Rattle.text.specs.Hexadecimal.{hexadecimal}
use Rattle.text.proofs.hexadecimal.put_pairs.Given as goal

abbrev pub invariant-loop-i : goal.invariant-loop-i
invariant-loop-i l = l.out ≡ overwrite l.initial.out 0 (hexadecimal (take l.i l.bytes))
