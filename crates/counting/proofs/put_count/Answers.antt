-- The parts are put one behind the other.
use Prim.Native.Nat.{ℕ}
use mathlib.Core.Path.{◌≡◌}
use mathlib.Core.Logic.{◌≢◌}
use mathlib.Core.List.{List, [], ◌++◌}
use borrow.Author.Tests.{eq-eqb, ne_eqb}
use Rattle.octets.specs.Text.{ascii}
use Rattle.text.specs.Decimal.{decimal}
use Rattle.text.proofs.Putting.{puts_is, puts_both}
use Rattle.counting.specs.Counting.{counted}
use Rattle.counting.proofs.put_count.Goals as goal

module _ (n : ℕ) (noun : List ℕ) where
  one : n ≡ 1 → decimal n ++ (ascii " " ++ (noun ++ [])) ≡ counted n noun
  unfolding counted
  one e = rw (eq-eqb n 1 e)

  many : n ≢ 1 → decimal n ++ (ascii " " ++ (noun ++ ascii "s")) ≡ counted n noun
  unfolding counted
  many e = rw (ne_eqb n 1 e)

pub returns-then-n-eq1 : goal.returns-then-n-eq1
returns-then-n-eq1 c =
    puts_is
    (puts_both c.put_decimal-next.ensures
    (puts_both c.put-next.ensures (puts_both c.put-next-2.ensures c.put.ensures)))
    (one c.args.n _ c.if-n-eq1.true)

pub returns : goal.returns
returns c =
    puts_is
    (puts_both c.put_decimal-next.ensures
    (puts_both c.put-next.ensures (puts_both c.put-next-2.ensures c.put-2.ensures)))
    (many c.args.n _ c.if-n-eq1.false)
