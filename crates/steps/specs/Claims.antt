-- The claims on the data of a line.
use Rattle.std.specs.Prelude.{ℕ, ◌≡◌, List, length, take, Some, Ok}
use Rattle.octets.specs.Lists.{overwrite}
use Rattle.fields.specs.declared.Step.{Step}
use Rattle.steps.specs.Line.{line_means, line_data}
use Rattle.steps.specs.Frame.{data_in}

-- a step is given as many bytes as its line has data
abbrev pub GivenAll : Type 0
GivenAll = (line : List ℕ) (step : Step) → line_means line ≡ Ok (Some step) → length (line_data line) ≡ step.given

-- so the bytes that the writer gets are the data of the line, all of them if the buffer holds them
abbrev pub DataHanded : Type 0
DataHanded =
    (line buffer : List ℕ) (step : Step) → line_means line ≡ Ok (Some step)
    → data_in (overwrite buffer 0 (take (length buffer) (line_data line))) step ≡ take (length buffer) (line_data line)
