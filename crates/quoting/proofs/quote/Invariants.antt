-- The loop's invariant: the bytes so far are quoted.
use lib.ListN.{take}
use Rattle.octets.specs.Text.{Puts}
use Rattle.quoting.specs.Quoting.{quoted_all}
use Rattle.quoting.proofs.quote.Given as goal

abbrev pub invariant-loop-byte : goal.invariant-loop-byte
invariant-loop-byte l = Puts l.initial.out l.at (quoted_all (take l.byte-index l.shown)) l.next l.out
