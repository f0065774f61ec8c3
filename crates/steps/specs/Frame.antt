-- The frame of a line.
use Rattle.std.specs.Prelude.{ℕ, min, ◌≡◌, List, [], ◌∷◌, length, take, Option, Some, None, Result, Ok, Err}
use Rattle.state.specs.Refusals.{number}
use Rattle.state.specs.Verdict.{Reply, refused, replied}
use Rattle.frames.specs.Write.{write_says, write_output}
use Rattle.fields.specs.declared.Fault.{Fault}
use Rattle.fields.specs.declared.Step.{Step}
use Rattle.steps.specs.declared.Unframed.{Unframed}
use Rattle.steps.specs.declared.Unframed.TheVariants.{Bad, Refused}
use Rattle.steps.specs.Line.{Meaning}

-- what is said of a line: nothing, a fault, or the writer's reply
pub data Said : Type 0 where
  nothing : Said
  faulty : Fault → Said
  answered : Reply → Said

abbrev pub framed_says : Result (Option ℕ) Unframed → Said
framed_says (Ok None) = nothing
framed_says (Ok (Some n)) = answered (replied (n ∷ []))
framed_says (Err (Bad fault)) = faulty fault
framed_says (Err (Refused r)) = answered (refused (number r))

-- the data of a step that stand at the front of a buffer, as far as the buffer holds them
abbrev pub data_in : List ℕ → Step → List ℕ
data_in buffer step = take (min step.given (length buffer)) buffer

-- what is said of a line that means this, where its data stand at the front of the buffer
unfoldable pub meaning_says : Meaning → (buffer output : List ℕ) → Said
meaning_says (Ok None) buffer output = nothing
meaning_says (Err fault) buffer output = faulty fault
meaning_says (Ok (Some step)) buffer output =
    answered (write_says step.kind step.command step.address step.size (length (data_in buffer step)) (length output))

-- and the output afterwards: the frame at its front, or all of it as it was
unfoldable pub meaning_output : Meaning → (buffer output : List ℕ) → List ℕ
meaning_output (Ok None) buffer output = output
meaning_output (Err fault) buffer output = output
meaning_output (Ok (Some step)) buffer output = write_output step.kind step.command step.address step.size (data_in buffer step) output

pub record Frames (meaning : Meaning) (buffer output : List ℕ) (r : Result (Option ℕ) Unframed) (output' : List ℕ) : Type 0 where
  pub says : framed_says r ≡ meaning_says meaning buffer output
  pub bytes : output' ≡ meaning_output meaning buffer output
