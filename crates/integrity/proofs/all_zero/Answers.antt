-- A bitwise or of all words is zero just if every word is.
use Rattle.std.proofs.Common.{◌≡◌, ℕ, Bool, true, false, ◌&&◌, eqb, List, [], ◌∷◌, refl, sym, ◌∙◌, rules}
use Rattle.std.specs.List.{fold}
use mathlib.Core.Bool.{and-true}
use lib.Bits.{bit_or}
use Rattle.octets.specs.Lists.{all, all_zero}
use Rattle.octets.proofs.Zero.{or_zero}
use Rattle.integrity.proofs.all_zero.Goals as goal

joined : (or : ℕ) (words : List ℕ) → eqb (fold bit_or or words) 0 ≡ (eqb or 0 && all_zero words)
unfolding all
joined or [] = sym (and-true (eqb or 0))
joined or (word ∷ words) = joined (bit_or or word) words ∙ rw (or_zero or word) (go (eqb or 0) (eqb word 0) (all_zero words))
  where
    go : (b c d : Bool) → (b && c && d) ≡ (b && (c && d))
    go true c d = refl
    go false c d = refl

pub returns : goal.returns
returns c =
    let or : c.fold.result ≡ fold bit_or 0 c.args.words.now = search rules in
    rw or (joined 0 c.args.words.now)
