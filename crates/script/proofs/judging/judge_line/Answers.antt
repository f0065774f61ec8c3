use native.Mathlib.Omega.{arith}
use mathlib.Core.Path.{◌≡◌, ◌∙◌, ap, sym}
use mathlib.Core.List.{List}
use Prim.Native.Nat.{ℕ}
use lib.ListN.{length}
use Rattle.std.proofs.lemmas.Bool.Decides.{nat_tests}
use Rattle.std.proofs.lemmas.List.{nil_from_length}
use Rattle.script.specs.Judging.{line_says, counts}
use Rattle.script.proofs.Saying.{empty_counts}
use Rattle.script.proofs.judging.judge_line.Goals as goal

pub returns-then-is_empty : goal.returns-then-is_empty
returns-then-is_empty g c =
    let none : length c.args.line.now ≡ 0 = grind (arith, nat_tests) in
    sym (ap (λ (line : List ℕ). counts (line_says line)) (nil_from_length _ none) ∙ empty_counts)
