use mathlib.Core.Bool.{false}
use Rattle.kinds.specs.Table.{Row}
use Rattle.kinds.proofs.Table.{column}
use Rattle.kinds.proofs.Kind.command_zero.Goals as goal

pub returns : goal.returns
returns c = column (λ (r : Row). r.command_zero) c.args.self _ false c.number.ensures
