-- From the kind reached on, the letter is found where it is found from the first on.
use Rattle.std.specs.Prelude.{◌≡◌, find, drop}
use Rattle.kinds.specs.Table.{in_order}
use Rattle.steps.specs.Line.{has_letter, kind_for}
use Rattle.steps.proofs.line.kind_for.Given as goal

abbrev pub invariant-loop-kind : goal.invariant-loop-kind
invariant-loop-kind l = find (has_letter l.letter) (drop l.kind-index in_order) ≡ kind_for l.letter
