-- The walk goes over all words.
use mathlib.Core.Path.{◌≡◌, sym}
use lib.ListN.{get_or}
use Rattle.std.proofs.Common.{rules}
use Rattle.bits.proofs.Joined.{or-zero}
use Rattle.bits.specs.Bits.{is_set}
use Rattle.bits.proofs.Words.{Words, word_read}
use Rattle.bits.proofs.Starts.{walk_from, walk_all}
use Rattle.bits.proofs.walk.runs.Goals as goal

pub returns : goal.returns
returns c =
    let words = c.args.words.now in
    let known : Words words = record { size = c.told-words; small = c.fits-words } in
    walk_all (is_set words) c.walk_on-w.result
    (c.walk_on-w.ensures words (λ j r h k e. let none : r ≡ 0 = search rules in rw none (sym (or-zero (get_or words j 0)))) (is_set words) (λ j h k. sym (word_read words known j)) (walk_from (is_set words)))
