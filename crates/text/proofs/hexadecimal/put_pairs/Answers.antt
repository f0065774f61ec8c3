use Prim.Native.Nat.{ℕ, ◌+◌, ◌*◌}
use native.Mathlib.Omega.{arith}
use mathlib.Core.Path.{refl, ap, ◌∙◌}
use mathlib.Core.List.{List}
use lib.ListN.{get_or, set}
use lib.Seq.{take_all}
use borrow.Author.Rules.{rules}
use Rattle.octets.specs.Lists.{overwrite}
use Rattle.text.specs.Hexadecimal.{hex_digits, hexadecimal}
use Rattle.text.proofs.Pairs.{pair_stored}
use Rattle.text.proofs.hexadecimal.put_pairs.Goals as goal

pub loop-i-init : goal.loop-i-init
unfolding hexadecimal
loop-i-init c = refl

pub hex_pair-pair-requires : goal.hex_pair-pair-requires
unfolding hex_digits
hex_pair-pair-requires c = search rules

pub loop-i-preserved : goal.loop-i-preserved
loop-i-preserved c =
    let bytes = c.args.bytes.now in
    let pair = c.hex_pair-pair.result in
    let i = c.loop-i.i in
    ap (λ (o : List ℕ). set (set o (2 * i) (get_or pair 0 0)) (2 * i + 1) (get_or pair 1 0)) c.loop-i.invariant
    ∙ pair_stored c.args.out.now bytes pair i (omega arith) c.requires c.hex_pair-pair.ensures

pub returns : goal.returns
returns c =
    c.loop-i.invariant ∙ ap (λ (l : List ℕ). overwrite c.args.out.now 0 (hexadecimal l)) (take_all c.loop-i.i c.args.bytes.now (omega arith))
