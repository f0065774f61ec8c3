use Prim.Native.Nat.{ℕ, suc, ◌-◌, ◌*◌, ◌%◌, ◌≤◌, ◌<◌}
use native.Mathlib.Nat.{sub-zero}
use native.Mathlib.Numerals.{add-one}
use native.Mathlib.Omega.{arith}
use mathlib.Core.Path.{◌≡◌, ap, sym, ◌∙◌}
use mathlib.Core.Logic.{◌≢◌}
use mathlib.Core.List.{List}
use mathlib.Core.Bool.{true, false, ◌&&◌}
use borrow.Author.Tests.{eq-eqb, ne_eqb}
use Rattle.octets.specs.Lists.{all, part}
use Rattle.endian.specs.LittleEndian.{least_first}
use Rattle.prp.specs.Pages.{page_size}
use Rattle.prp.specs.Entries.{entries_in, is_multiple}
use Rattle.prp.proofs.Reading.{next_entry}
use Rattle.pages.proofs.entries.all_pages.Invariants.{from}
use Rattle.pages.proofs.entries.all_pages.Goals as goal

module _ (bytes : List ℕ) (count : ℕ) where
  start : from bytes count 0 ≡ all (is_multiple page_size) (entries_in count bytes)
  start = rw sub-zero

  none : (i : ℕ) → count ≤ i → from bytes count i ≡ true
  unfolding all entries_in
  none i h = let z : count - i ≡ 0 = omega arith in rw z

  -- entry i, and those behind it
  module _ (i x : ℕ) (h : i < count) (e : x ≡ least_first (part bytes (8 * i) 8)) where
    step : from bytes count i ≡ (is_multiple page_size x && from bytes count (suc i))
    unfolding all
    step = ap (all (is_multiple page_size)) (next_entry bytes count i h) ∙ rw e

    wrong : x % page_size ≢ 0 → from bytes count i ≡ false
    wrong apart = step ∙ rw (ne_eqb (x % page_size) 0 apart)

    right : x % page_size ≡ 0 → from bytes count (suc i) ≡ from bytes count i
    right multiple = sym (step ∙ rw (eq-eqb (x % page_size) 0 multiple))

pub loop-i-init : goal.loop-i-init
loop-i-init c = start _ c.args.count

pub returns-then-address-ne0 : goal.returns-then-address-ne0
returns-then-address-ne0 c =
    let a = c.args in
    sym (wrong a.bytes.now a.count c.loop-i.i c.entry-address.result (omega arith) c.entry-address.ensures (omega arith))
    ∙ c.loop-i.invariant

pub loop-i-preserved : goal.loop-i-preserved
loop-i-preserved c =
    let a = c.args in
    rw add-one
    (right a.bytes.now a.count c.loop-i.i c.entry-address.result (omega arith) c.entry-address.ensures (omega arith) ∙ c.loop-i.invariant)

pub returns : goal.returns
returns c = sym (none _ c.args.count c.loop-i.i (omega arith)) ∙ c.loop-i.invariant
