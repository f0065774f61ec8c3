-- The parts are put one behind the other.
use Prim.Native.Nat.{ℕ}
use mathlib.Core.Path.{◌≡◌}
use mathlib.Core.List.{List, [], ◌++◌}
use mathlib.Core.Bool.{Bool, true, false}
use Rattle.octets.specs.Text.{ascii}
use Rattle.text.specs.Decimal.{decimal}
use Rattle.text.proofs.Putting.{puts_is, puts_both}
use Rattle.counting.specs.Counting.{counted, told}
use Rattle.counting.proofs.put_run.Goals as goal

module _ (frames carried refused : ℕ) (early : Bool) where
  abbrev before : List ℕ → List ℕ
  before end = counted frames (ascii "frame") ++ (ascii ", " ++ (decimal carried ++ (ascii " ok, " ++ (decimal refused ++ (ascii " refused" ++ end)))))

  ended : early ≡ true → before (ascii ", 1 unreadable") ≡ told frames carried refused early
  unfolding told
  ended e = rw e

  whole : early ≡ false → before [] ≡ told frames carried refused early
  unfolding told
  whole e = rw e

pub returns-then-early : goal.returns-then-early
returns-then-early c =
    puts_is
    (puts_both c.put_count-next.ensures
    (puts_both c.put-next.ensures
    (puts_both c.put_decimal-next.ensures
    (puts_both c.put-next-2.ensures
    (puts_both c.put_decimal-next-2.ensures (puts_both c.put-next-3.ensures c.put.ensures))))))
    (ended c.args.frames c.args.carried c.args.refused c.args.early c.if-early.true)

pub returns : goal.returns
returns c =
    puts_is
    (puts_both c.put_count-next.ensures
    (puts_both c.put-next.ensures
    (puts_both c.put_decimal-next.ensures
    (puts_both c.put-next-2.ensures
    (puts_both c.put_decimal-next-2.ensures (puts_both c.put-next-3.ensures c.put-2.ensures))))))
    (whole c.args.frames c.args.carried c.args.refused c.args.early c.if-early.false)
