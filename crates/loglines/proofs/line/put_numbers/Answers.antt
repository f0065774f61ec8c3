-- In each case the numbers are put, if there are any.
use Prim.Native.Nat.{ℕ}
use mathlib.Core.Path.{◌≡◌, refl, ap, sym, ◌∙◌}
use mathlib.Core.List.{List, [], ◌∷◌, ◌++◌, append-nil, map}
use lib.ListN.{take}
use Rattle.loglines.specs.declared.answer.Numbers.{Numbers}
use Rattle.octets.specs.Text.{ascii}
use Rattle.text.specs.Decimal.{decimal}
use Rattle.loglines.specs.Line.{told, spaced}
use Rattle.text.proofs.Putting.{puts_is}
use Rattle.loglines.proofs.line.put_numbers.Goals as goal

-- the text of the numbers that a call tells
abbrev text : Numbers → List ℕ
text numbers = spaced (map decimal (take 2 (told numbers)))

none : [] ≡ spaced (map decimal [])
unfolding spaced
none = refl

one : (n : ℕ) → ascii " " ++ decimal n ≡ spaced (map decimal (n ∷ []))
unfolding spaced
one n = sym (append-nil (ascii " " ++ decimal n))

two : (m n : ℕ) → ascii " " ++ decimal m ++ (ascii " " ++ decimal n) ≡ spaced (map decimal (m ∷ n ∷ []))
unfolding spaced
two m n = ap (λ (l : List ℕ). ascii " " ++ decimal m ++ l) (one n)

pub returns-in-Nothing : goal.returns-in-Nothing
returns-in-Nothing c = puts_is c.put.ensures (none ∙ ap text (sym c.in-Nothing.is))

pub returns-in-One : goal.returns-in-One
returns-in-One c = puts_is c.put_number.ensures (one c.in-One.n ∙ ap text (sym c.in-One.is))

pub returns-in-Two : goal.returns-in-Two
returns-in-Two c = puts_is c.put_two.ensures (two c.in-Two.m c.in-Two.n ∙ ap text (sym c.in-Two.is))

-- of a fetch, too, the first two are put
pub returns-in-Fetched : goal.returns-in-Fetched
returns-in-Fetched c =
    let counts = c.in-Fetched.counts in
    puts_is c.put_two-in-Fetched.ensures (two counts.fresh counts.replayed ∙ ap text (sym c.in-Fetched.is))
