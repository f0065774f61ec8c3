-- What is counted so far and what the lines still to come count for is what all lines count for. Each line has at most one frame, of at most
-- 4,101 bytes.
use Rattle.std.proofs.Common.{◌*◌, ◌≤◌, ◌≡◌, length, drop}
use Rattle.script.specs.Judging.{lines, plus, sum, judged_of}
use Rattle.script.proofs.judging.judge_lines.Given as goal

abbrev pub invariant-loop-i : goal.invariant-loop-i
invariant-loop-i g l = record {
  counted : plus l.all (sum (drop (length l.yielded) (lines l.input))) ≡ judged_of l.input;
  bad : l.all.bad ≤ length l.yielded;
  frames : l.all.frames ≤ length l.yielded;
  bytes : l.all.bytes ≤ 4101 * length l.yielded;
}
