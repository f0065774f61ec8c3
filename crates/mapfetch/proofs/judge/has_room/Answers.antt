-- Fewer than 64 runs, and one more at most; or the runs are counted with the span.
use Prim.Native.Nat.{ℕ, ◌+◌, ◌-◌}
use native.Mathlib.Omega.{arith}
use mathlib.Core.Path.{◌≡◌, ap, sym, ◌∙◌}
use mathlib.Core.Bool.{◌||◌}
use lib.Dec.{leb}
use lib.ListN.{length}
use borrow.Author.Tests.{le-leb}
use Rattle.state.specs.Limits.{record_limit}
use Rattle.state.specs.Records.{in_span}
use Rattle.state.specs.Runs.{runs_from}
use Rattle.bits.specs.Bits.{map_limit, is_set}
use Rattle.bits.proofs.Added.{runs_added}
use Rattle.mapfetch.proofs.judge.has_room.Goals as goal

pub returns-then-runs-lt-RECORDS : goal.returns-then-runs-lt-RECORDS
returns-then-runs-lt-RECORDS c =
    let a = c.args in
    sym (le-leb (length (runs_from (λ x. is_set a.words.now x || in_span a.address a.size x) 0 map_limit)) record_limit
    (omega (arith, runs_added (is_set a.words.now) a.address a.size map_limit, c.requires.0)))

pub returns : goal.returns
returns c =
    let a = c.args in
    let size : a.address + a.size - a.address ≡ a.size = omega arith in
    ap (λ (n : ℕ). leb n record_limit)
    (c.runs_with.ensures ∙ ap (λ (n : ℕ). length (runs_from (λ x. is_set a.words.now x || in_span a.address n x) 0 map_limit)) size)
