use Prim.Native.Nat.{ℕ}
use mathlib.Core.Path.{◌≡◌, ap, ◌∙◌}
use lib.Dec.{eqb}
use Rattle.std.proofs.Common.{rules, fold, bit_or}
use Rattle.bits.proofs.Joined.{joined_zero}
use Rattle.stretches.proofs.Cleaning.{clean_all}
use Rattle.stretches.proofs.clean.clean_none.Goals as goal

pub returns : goal.returns
returns c =
    let values = c.args.values.now in
    let joined : c.fold.result ≡ fold bit_or 0 values = search rules in
    ap (λ (or : ℕ). eqb or 0) joined ∙ joined_zero 0 values ∙ clean_all values
