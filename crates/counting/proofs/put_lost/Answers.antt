-- Nothing is said where all were kept.
use Prim.Native.Nat.{ℕ, ◌+◌, ◌≤◌, ◌<◌}
use mathlib.Core.Path.{◌≡◌}
use mathlib.Core.List.{List, [], ◌++◌}
use borrow.Author.Tests.{le-leb, lt-leb}
use Rattle.octets.specs.Text.{ascii}
use Rattle.text.specs.Decimal.{decimal}
use Rattle.text.proofs.Putting.{puts_is, puts_both}
use Rattle.counting.specs.Counting.{lost}
use Rattle.counting.proofs.put_lost.Goals as goal

module _ (words : List ℕ) (all kept : ℕ) where
  none : all ≤ kept → [] ≡ lost words all kept
  unfolding lost
  none e = rw (le-leb all kept e)

  some : kept < all → words ++ (decimal (kept + 1) ++ ascii " on") ≡ lost words all kept
  unfolding lost
  some e = rw (lt-leb all kept e)

pub returns-then-all-kept : goal.returns-then-all-kept
returns-then-all-kept c =
    let a = c.args in
    puts_is c.put.ensures (none _ a.all a.kept c.if-all-kept.true)

pub returns : goal.returns
returns c =
    let a = c.args in
    puts_is (puts_both c.put-next.ensures (puts_both c.put_decimal-next.ensures c.put-2.ensures))
    (some _ a.all a.kept c.if-all-kept.false)
