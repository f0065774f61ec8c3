-- Why a line has no frame, in words.
use Prim.Native.String.{String}
use Rattle.std.specs.Prelude.{List, ◌++◌, ℕ}
use Rattle.octets.specs.Text.{ascii}
use Rattle.state.specs.declared.refusal.Refusal.{Refusal}
use Rattle.state.specs.Refusals.{number}
use Rattle.text.specs.Decimal.{decimal}
use Rattle.reasons.specs.Reasons.{reason}
use Rattle.fields.specs.declared.Fault.{Fault}
use Rattle.fields.specs.declared.Fault.TheVariants.{UnknownLetter, FieldMissing, NotANumber, NotHexadecimal, OddDigits, FieldTooMany}
use Rattle.fields.specs.declared.Fault.TheVariants.{ByteOrderMark, NothingExpected, NoStep}

-- what is wrong with a line that is no step
abbrev pub fault : Fault → String
fault UnknownLetter = "no kind of step has this letter"
fault FieldMissing = "a field is missing"
fault NotANumber = "not a decimal number"
fault NotHexadecimal = "not hexadecimal"
fault OddDigits = "an odd number of hexadecimal digits"
fault FieldTooMany = "a field too many"
fault ByteOrderMark = "a byte order mark stands before the step"
fault NothingExpected = "nothing stands behind ="
fault NoStep = "an expectation without a step"

-- why the writer refuses a step: the reason, and its number in brackets
abbrev pub refusal : Refusal → List ℕ
refusal r = ascii (reason r) ++ (ascii " (" ++ (decimal (number r) ++ ascii ")"))
