-- The expectation of a line lies in the line.
use native.Mathlib.Omega.{arith}
use lib.ListN.{length-take}
use Rattle.scan.specs.declared.Stop.TheVariants.{Comment}
use Rattle.scan.specs.Scan.{place}
use Rattle.expect.specs.Expect.{expected}
use Rattle.expect.specs.Claims.{ExpectedInside}

pub expected_inside : ExpectedInside
unfolding expected
expected_inside line = omega (arith, length-take (place Comment line 0) line)
