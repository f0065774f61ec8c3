-- Each turn has the line behind those that were counted.
use Rattle.std.proofs.Common.{◌≡◌, ◌<◌, ℕ, List, length, sym, ap, inl, ◌∙◌, arith}
use Rattle.std.proofs.lemmas.List.{length_push}
use Rattle.std.proofs.lemmas.Iterator.Consumers.{YieldsList-from_first, YieldsList-from_enumerate, YieldsList-turn, YieldsList-end}
use Rattle.std.specs.List.{enumerate_from}
use Rattle.std.proofs.lemmas.List.FromFn.{length-enumerate_from}
use Rattle.script.specs.Judging.{lines}
use Rattle.script.specs.Lines.{lines_left}
use Rattle.script.proofs.Saying.{Small, line_small}
use Rattle.script.proofs.Counted.{lines_few, nth_line, one_more, none_left}
use Rattle.script.proofs.judging.judge_lines.Goals as goal

pub loop-i-init-derived : goal.loop-i-init-derived
loop-i-init-derived g c =
    let all : lines_left c.into_iter-i-iterator.result.iter ≡ lines c.args.input.now = cc in
    let first : c.into_iter-i-iterator.result.count ≡ 0 = cc in
    ((tt, tt, inl (omega (arith, lines_few c.args.input.now, ap (λ (ls : List (List ℕ)). length ls) all))), tt)

pub overflow_add-all-in-loop-i-2 : goal.overflow_add-all-in-loop-i-2
overflow_add-all-in-loop-i-2 g c =
    let k = c.loop-i in
    let inside : length k.yielded < length (lines c.args.input.now)
    = (nth_line (lines c.args.input.now) (length k.yielded) c.in-Some.i c.in-Some.line.now
    (YieldsList-turn (YieldsList-from_enumerate (YieldsList-from_first (λ x. x.now) lines_left (lines c.args.input.now) cc) cc)
    k.yielded k.i-iterator k.yielded_by c.next.result c.next.new.self (c.in-Some.i, c.in-Some.line) c.in-Some.is c.next.ensures.steps)).0 in
    let small : Small 4101 c.judge_line-line.result = rw c.judge_line-line.ensures (line_small _) in
    omega (arith, small.bytes, lines_few c.args.input.now)

pub loop-i-preserved : goal.loop-i-preserved
loop-i-preserved g c =
    let k = c.loop-i in
    let small : Small 4101 c.judge_line-line.result = rw c.judge_line-line.ensures (line_small _) in
    let one = length_push k.yielded (c.in-Some.i, c.in-Some.line) in
    record {
      counted =
          rw one (one_more (lines c.args.input.now) (length k.yielded) k.all c.judge_line-line.result _ c.in-Some.line.now
          (nth_line (lines c.args.input.now) (length k.yielded) c.in-Some.i c.in-Some.line.now
          (YieldsList-turn (YieldsList-from_enumerate (YieldsList-from_first (λ x. x.now) lines_left (lines c.args.input.now) cc) cc)
          k.yielded k.i-iterator k.yielded_by c.next.result c.next.new.self (c.in-Some.i, c.in-Some.line) c.in-Some.is c.next.ensures.steps))
          c.judge_line-line.ensures k.invariant.counted);
      bad = omega (arith, small.bad, one);
      frames = omega (arith, small.frames, one);
      bytes = omega (arith, small.bytes, one);
    }

pub returns : goal.returns
returns g c =
    let k = c.loop-i in
    let all : length k.yielded ≡ length (enumerate_from 0 (lines c.args.input.now))
    = (YieldsList-end (YieldsList-from_enumerate (YieldsList-from_first (λ x. x.now) lines_left (lines c.args.input.now) cc) cc)
    k.yielded k.i-iterator k.yielded_by c.next.result c.next.new.self c.in-None.is c.next.ensures.steps).1 in
    sym (none_left (lines c.args.input.now) (length k.yielded) k.all (omega (arith, length-enumerate_from 0 (lines c.args.input.now)))) ∙ k.invariant.counted
