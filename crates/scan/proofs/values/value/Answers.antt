use Prim.Native.Nat.{suc, ◌-◌, ◌*◌, ◌+◌, min}
use native.Mathlib.Numerals.{add-one}
use native.Mathlib.Omega.{arith}
use mathlib.Core.Path.{◌≡◌}
use lib.ListN.{drop, get_or, drop_of_length-le}
use lib.Seq.{drop-cons}
use Rattle.text.specs.Decimal.{read_on}
use Rattle.scan.specs.Values.{most}
use Rattle.scan.proofs.Numbers.{next_digit}
use Rattle.scan.proofs.values.value.Goals as goal

pub loop-byte-preserved : goal.loop-byte-preserved
loop-byte-preserved c =
    let word = c.args.word.now in
    let i = c.loop-byte.byte-index in
    let n = c.loop-byte.value in
    let value : c.min-value.result ≡ min most (n * 10 + (get_or word i 0 - 48)) = cc in (
      omega arith,
      rw (add-one, value, next_digit n (get_or word i 0) (drop (suc i) word), ← drop-cons word i 0 (omega arith)) c.loop-byte.invariant.1,
    )

pub returns : goal.returns
unfolding read_on
returns c =
    let word = c.args.word.now in
    let none = drop_of_length-le word {i = c.loop-byte.byte-index} (omega arith) in omega (arith, rw none at c.loop-byte.invariant.1)
