-- Texts and their lines, and a file with two frames, a blank line, a fault, a refusal and no newline at its end.
use mathlib.Core.Path.{◌≡◌, refl}
use mathlib.Core.List.{[], ◌∷◌}
use Rattle.octets.specs.Text.{ascii}
use Rattle.text.specs.Decimal.{read_on}
use Rattle.state.specs.Verdict.{verdict}
use Rattle.frames.specs.Kinds.{data_size}
use Rattle.frames.specs.Checks.{not_zero, zero_broken}
use Rattle.frames.specs.Write.{write_says}
use Rattle.scan.specs.Scan.{before, front, hex_value}
use Rattle.fields.specs.Fields.{number_of, number_field, data_fault, data_field, end_fault}
use Rattle.fields.specs.Meanings.{has_size, size_of, fields_mean}
use Rattle.steps.specs.Line.{kind_for, kind_named, step_means, text_means}
use Rattle.steps.specs.Line.{is_marked, line_means}
use Rattle.steps.specs.Frame.{meaning_says}
use Rattle.script.specs.Judging.{in_front, lines, line_says, judged, sum, judged_of}

no_lines : lines [] ≡ []
unfolding lines
no_lines = refl

one_empty_line : lines (ascii "\n") ≡ [] ∷ []
unfolding lines
one_empty_line = refl

three_lines : lines (ascii "a\n\nbc") ≡ ascii "a" ∷ [] ∷ ascii "bc" ∷ []
unfolding lines in_front
three_lines = refl

counted : judged_of (ascii "B 1\n\nX\nB 8\nH 5 00") ≡ judged 2 2 11
unfolding lines in_front sum line_says meaning_says write_says verdict data_size not_zero zero_broken before front hex_value read_on number_of number_field
    data_fault data_field end_fault kind_for kind_named has_size size_of fields_mean step_means text_means is_marked line_means
counted = refl
