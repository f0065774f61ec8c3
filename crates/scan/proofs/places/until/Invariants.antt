-- The loop's invariant: from the place reached on, the scan stops where it stops from the first place on.
use Prim.Native.Nat.{◌+◌}
use mathlib.Core.Path.{◌≡◌}
use lib.ListN.{drop}
use Rattle.scan.specs.Scan.{stops, before, place}
use Rattle.scan.proofs.places.until.Given as goal

abbrev pub invariant-loop-i : goal.invariant-loop-i
invariant-loop-i l = l.i + before (stops l.stop) (drop l.i l.text) ≡ place l.stop l.text l.from
