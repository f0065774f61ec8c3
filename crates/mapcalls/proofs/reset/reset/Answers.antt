-- Words and values are as many zeros as there were numbers.
use Prim.Native.Nat.{ℕ}
use native.Mathlib.Omega.{arith}
use mathlib.Core.Path.{◌≡◌, ap, ap₂, ◌∙◌}
use lib.ListN.{length, replicate}
use Rattle.bits.specs.Bits.{word_limit, map_limit}
use Rattle.bytemap.specs.Map.{map_of}
use Rattle.mapcalls.proofs.reset.reset.Goals as goal

zeros : {m n : ℕ} → m ≡ n → replicate {A = ℕ} m 0 ≡ replicate n 0
zeros e = ap (λ n. replicate {A = ℕ} n 0) e

pub returns : goal.returns
returns c =
    let words : length c.args.words.now ≡ word_limit = omega arith in
    let values : length c.args.values.now ≡ map_limit = omega arith in
    ap₂ (map_of c.args.to) (c.fill.ensures.after (λ y e. e) ∙ zeros words) (c.fill-2.ensures.after (λ y e. e) ∙ zeros values)
