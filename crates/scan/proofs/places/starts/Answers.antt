-- The front of the text, as long as the bytes are, is compared with them.
use Prim.Native.Nat.{ℕ}
use mathlib.Core.Path.{◌≡◌, refl, ap}
use mathlib.Core.List.{List, [], ◌∷◌}
use mathlib.Core.Bool.{Bool, ◌&&◌}
use lib.Dec.{eqb}
use lib.ListN.{length, take}
use Rattle.std.specs.Cmp.Lexicographic.{pointwise}
use Rattle.scan.specs.Scan.{front}
use Rattle.scan.proofs.places.starts.Goals as goal

compared : (test : ℕ → ℕ → Bool) (xs ys : List ℕ) → pointwise test xs (take (length xs) ys) ≡ front test xs ys
unfolding front
compared test [] ys = refl
compared test (x ∷ xs) [] = refl
compared test (x ∷ xs) (y ∷ ys) = ap (λ r. test x y && r) (compared test xs ys)

pub returns : goal.returns
returns c = cc (compared eqb c.args.bytes.now c.args.text.now)
