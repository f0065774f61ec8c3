-- The entries are zero if the words from the first of them on are.
use Rattle.std.proofs.Common.{◌+◌, ◌-◌, ◌*◌, length, drop, sym, ap, ◌∙◌, arith, length-drop, take_all}
use Rattle.octets.specs.Lists.{all_zero}
use Rattle.integrity.proofs.Zero.{unused_words}
use Rattle.integrity.proofs.unused_zero.Goals as goal

pub returns : goal.returns
returns c =
    let words = c.args.words.now in
    let at = 2 * c.args.from + 1 in
    c.all_zero.ensures ∙ ap all_zero (take_all (length words - at) (drop at words) (omega (arith, length-drop at words)))
    ∙ sym (unused_words words c.args.from c.requires.0 c.requires.1)
