-- There are no more lines than bytes, so that their numbers fit.
use Rattle.std.proofs.Common.{◌≡◌, ℕ, List, length, ap, inl, arith}
use Rattle.script.specs.Judging.{lines}
use Rattle.script.specs.Lines.{lines_left}
use Rattle.script.proofs.Counted.{lines_few}
use Rattle.explain.proofs.run.explain_steps.Goals as goal

pub loop-i-init : goal.loop-i-init
loop-i-init g c =
    let all : lines_left c.into_iter-i-iterator.result.iter ≡ lines c.args.input.now = cc in
    let first : c.into_iter-i-iterator.result.count ≡ 0 = cc in
    ((tt, tt, inl (omega (arith, lines_few c.args.input.now, ap (λ (ls : List (List ℕ)). length ls) all))), tt)
