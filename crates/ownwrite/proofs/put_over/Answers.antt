-- The test is the one of the equation.
use native.Mathlib.Omega.{arith}
use lib.ListN.{length}
use borrow.Author.Tests.{le-leb, lt-leb}
use Rattle.ownwrite.proofs.put_over.Goals as goal

pub returns-then-bytes-fresh : goal.returns-then-bytes-fresh
returns-then-bytes-fresh c =
    let a = c.args in
    rw (le-leb (length a.bytes.now) a.fresh (omega arith))

pub returns : goal.returns
returns c =
    let a = c.args in
    rw (lt-leb (length a.bytes.now) a.fresh (omega arith)) c.put.ensures
