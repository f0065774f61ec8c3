use Prim.Native.Nat.{ℕ}
use Rattle.std.proofs.Common.{rules, fold, bit_or}
use mathlib.Core.Path.{◌≡◌, ap, ◌∙◌}
use lib.Dec.{eqb}
use Rattle.bits.proofs.Joined.{joined_zero}
use Rattle.bits.proofs.fill.all_zero.Goals as goal

pub returns : goal.returns
returns c =
    let joined : c.fold.result ≡ fold bit_or 0 c.args.words.now = search rules in
    ap (λ (or : ℕ). eqb or 0) joined ∙ joined_zero 0 c.args.words.now
