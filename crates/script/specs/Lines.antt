-- The lines that are still to come.
use Rattle.std.specs.Prelude.{ℕ, List}
use Rattle.script.specs.declared.lines.Lines.{Lines}
use Rattle.script.specs.Judging.{lines}

abbrev pub lines_left : Lines → List (List ℕ)
lines_left s = lines s.rest.now
