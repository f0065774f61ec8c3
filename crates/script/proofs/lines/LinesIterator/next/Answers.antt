-- The line that comes next is the first of those that are left.
use Rattle.std.proofs.Common.{◌≡◌, ℕ, ◌<◌, List, length, min, drop, ap, ◌∙◌, arith}
use Rattle.std.proofs.lemmas.Bool.Decides.{nat_tests}
use Rattle.std.proofs.lemmas.List.{take_rest}
use Rattle.scan.specs.declared.Stop.TheVariants.{LineEnd}
use Rattle.scan.proofs.Scanning.{place_most}
use Rattle.script.specs.Judging.{lines}
use Rattle.script.proofs.Counted.{no_lines, next_line}
use Rattle.script.proofs.lines.LinesIterator.next.Goals as goal

pub returns-then-is_empty-clause-steps : goal.returns-then-is_empty-clause-steps
returns-then-is_empty-clause-steps c =
    let empty : length c.args.self.now.rest.now ≡ 0 = grind (arith, nat_tests) in
    let none = no_lines c.args.self.now.rest.now (omega arith) in
    (none, none)

pub split_at-requires : goal.split_at-requires
split_at-requires c = omega (arith, c.until.ensures, place_most LineEnd c.args.self.now.rest.now 0 (omega arith))

pub returns : goal.returns
returns c =
    let rest = c.args.self.now.rest.now in
    let some : 0 < length rest = grind (arith, nat_tests) in
    let newline : c.min.result ≡ min (length (drop c.until.result rest)) 1
    = c.min.ensures ∙ ap (λ (behind : List ℕ). min (length behind) 1) c.split_at.ensures.back in
    let next = next_line rest c.until.result c.min.result some c.until.ensures newline in
    let behind = drop c.min.result (drop c.until.result rest) in
    let fewer : length (lines behind) < length (lines rest) = omega (arith, ap (λ (ls : List (List ℕ)). length ls) next) in
    record {
      steps = rw (c.split_at.ensures.front, c.split_at.ensures.back, take_rest (drop c.until.result rest) c.min.result) next;
      goes = rw (c.split_at.ensures.back, take_rest (drop c.until.result rest) c.min.result) record {
        on = λ _. (tt, tt, fewer);
        keeps = tt;
        rests = λ _. tt;
      };
    }
