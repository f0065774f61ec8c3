use Prim.Native.Nat.{ℕ, suc, ◌-◌, ◌≤◌, ◌<◌}
use native.Mathlib.Nat.{sub-zero}
use native.Mathlib.Omega.{arith}
use mathlib.Core.Path.{◌≡◌, ap, sym, ◌∙◌}
use mathlib.Core.List.{List, map}
use lib.ListN.{length, set}
use Rattle.octets.specs.Lists.{overwrite}
use Rattle.octets.proofs.Overwrite.{overwrite_none, overwrite_more}
use Rattle.state.specs.Records.{span}
use Rattle.prp.specs.Pages.{share_in}
use Rattle.pages.proofs.spans.put_lengths.Invariants.{with_from}
use Rattle.pages.proofs.spans.put_lengths.Goals as goal

module _ (list : List ℕ) (share : ℕ → ℕ) (count : ℕ) where
  none : list ≡ with_from list share count count
  unfolding span
  none = let z : count - count ≡ 0 = omega arith in rw z (sym (overwrite_none list count))

  one_more : (i : ℕ) → 0 < i → i ≤ count → count ≤ length list
      → set (with_from list share count i) (i - 1) (share (i - 1)) ≡ with_from list share count (i - 1)
  unfolding span
  one_more i some most room =
      let here : i ≡ suc (i - 1) = omega arith in
      let more : count - (i - 1) ≡ suc (count - i) = omega arith in
      ap (λ (k : ℕ). set (overwrite list k (map share (span k (count - i)))) (i - 1) (share (i - 1))) here
      ∙ overwrite_more list (map share (span (suc (i - 1)) (count - i))) (i - 1) (share (i - 1)) (omega arith) ∙ rw more

  all_put : with_from list share count 0 ≡ overwrite list 0 (map share (span 0 count))
  all_put = rw sub-zero

pub loop-i-init : goal.loop-i-init
loop-i-init c = let a = c.args in none a.list.now (share_in a.offset a.reach) a.count

pub loop-i-preserved : goal.loop-i-preserved
loop-i-preserved c =
    let a = c.args in
    rw (c.loop-i.invariant, c.share_in.ensures)
    (one_more a.list.now (share_in a.offset a.reach) a.count c.loop-i.i (omega arith) (omega arith) (omega arith))

pub returns : goal.returns
returns c =
    let a = c.args in
    let share = share_in a.offset a.reach in
    let none_left : c.loop-i.i ≡ 0 = omega arith in
    c.loop-i.invariant ∙ ap (with_from a.list.now share a.count) none_left ∙ all_put a.list.now share a.count
