use mathlib.Core.Bool.{false}
use Rattle.kinds.specs.Table.{Row}
use Rattle.kinds.proofs.Table.{column}
use Rattle.kinds.proofs.Kind.has_data.Goals as goal

pub returns : goal.returns
returns c = column (λ (r : Row). r.has_data) c.args.self _ false c.number.ensures
