use Prim.Native.Nat.{ℕ, suc, ◌+◌, ◌-◌, ◌*◌, ◌≤◌, ◌<◌}
use native.Mathlib.Nat.{sub-zero}
use native.Mathlib.Omega.{arith}
use mathlib.Core.Path.{◌≡◌, ap, sym, ◌∙◌}
use mathlib.Core.List.{List}
use lib.ListN.{length, drop, set}
use Rattle.octets.specs.Lists.{overwrite, part}
use Rattle.octets.proofs.Overwrite.{overwrite_none, overwrite_more}
use Rattle.endian.specs.LittleEndian.{least_first}
use Rattle.prp.specs.Entries.{entries_in}
use Rattle.prp.proofs.Reading.{next_entry}
use Rattle.pages.proofs.spans.put_entries.Invariants.{with_from}
use Rattle.pages.proofs.spans.put_entries.Goals as goal

module _ (list bytes : List ℕ) (count : ℕ) where
  none : list ≡ with_from list bytes count count
  unfolding entries_in
  none = let z : count - count ≡ 0 = omega arith in rw z (sym (overwrite_none list (suc count)))

  one_more : (i : ℕ) → 0 < i → i ≤ count → count < length list
      → set (with_from list bytes count i) i (least_first (part bytes (8 * (i - 1)) 8)) ≡ with_from list bytes count (i - 1)
  one_more i some most room =
      let here : suc (i - 1) ≡ i = omega arith in
      overwrite_more list (entries_in (count - i) (drop (8 * i) bytes)) i (least_first (part bytes (8 * (i - 1)) 8)) (omega arith)
      ∙ rw (next_entry bytes count (i - 1) (omega arith), here)

  all_put : with_from list bytes count 0 ≡ overwrite list 1 (entries_in count bytes)
  all_put = rw sub-zero

pub loop-i-init : goal.loop-i-init
loop-i-init c = let a = c.args in none a.list.now a.bytes.now a.count

pub loop-i-preserved : goal.loop-i-preserved
loop-i-preserved c =
    let a = c.args in
    let i = c.loop-i.i in
    let here : i - 1 + 1 ≡ i = omega arith in
    rw (here, c.loop-i.invariant, c.entry.ensures) (one_more a.list.now a.bytes.now a.count i (omega arith) (omega arith) (omega arith))

pub returns : goal.returns
returns c =
    let a = c.args in
    let none_left : c.loop-i.i ≡ 0 = omega arith in
    c.loop-i.invariant ∙ ap (with_from a.list.now a.bytes.now a.count) none_left ∙ all_put a.list.now a.bytes.now a.count
