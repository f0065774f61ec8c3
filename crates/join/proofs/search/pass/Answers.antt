-- Each branch is a clause of the definition; one record adds at most 1 to a count and 65,535 to a sum.
use native.Mathlib.Omega.{arith}
use mathlib.Core.Path.{refl}
use Rattle.state.proofs.Search.{passed_before, passed_meets}
use Rattle.join.proofs.search.pass.Goals as goal

pub returns-then-past-address : goal.returns-then-past-address
returns-then-past-address c =
    let before = passed_before c.args.address c.args.r c.args.m (omega arith) in
    record {
      is = cc before;
      first = omega arith;
      order = omega arith;
      last = refl;
      below = omega arith;
      held = omega arith;
    }

pub returns : goal.returns
returns c =
    let meets = passed_meets c.args.address c.args.r c.args.m (omega arith) in
    record {
      is = cc meets;
      first = omega arith;
      order = omega arith;
      last = refl;
      below = omega arith;
      held = omega arith;
    }
