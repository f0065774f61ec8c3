-- The eight bytes that are lent are those of the entry.
use native.Mathlib.Omega.{arith}
use Prim.Native.Nat.{ℕ, ◌+◌, ◌-◌, ◌*◌}
use mathlib.Core.Path.{◌≡◌, ap, ◌∙◌}
use lib.ListN.{take, drop}
use Rattle.endian.specs.LittleEndian.{least_first}
use Rattle.pages.proofs.entries.entry.Goals as goal

pub returns : goal.returns
returns c =
    let a = c.args in
    let eight : 8 * a.i + 8 - 8 * a.i ≡ 8 = omega arith in
    c.least_first.ensures ∙ ap (λ (n : ℕ). least_first (take n (drop (8 * a.i) a.bytes.now))) eight
