use Rattle.kinds.specs.Table.{Row}
use Rattle.kinds.proofs.Table.{column}
use Rattle.kinds.proofs.Kind.letter.Goals as goal

pub returns : goal.returns
returns c = column (λ (r : Row). r.letter) c.args.self _ 0 c.number.ensures
