-- Each arm knows which case it is, so its text is the definition's at that case.
use Rattle.std.proofs.Common.{◌≡◌, ap, sym}
use Rattle.octets.specs.Text.{ascii}
use Rattle.fields.specs.declared.Fault.{Fault}
use Rattle.reporting.specs.Words.{fault}
use Rattle.reporting.proofs.reason.fault.Goals as goal

-- the text of a fault that is known to be this case
of : {f case : Fault} → f ≡ case → ascii (fault case) ≡ ascii (fault f)
of e = sym (ap (λ (x : Fault). ascii (fault x)) e)

pub returns-in-UnknownLetter : goal.returns-in-UnknownLetter
returns-in-UnknownLetter c = of c.in-UnknownLetter.is

pub returns-in-FieldMissing : goal.returns-in-FieldMissing
returns-in-FieldMissing c = of c.in-FieldMissing.is

pub returns-in-NotANumber : goal.returns-in-NotANumber
returns-in-NotANumber c = of c.in-NotANumber.is

pub returns-in-NotHexadecimal : goal.returns-in-NotHexadecimal
returns-in-NotHexadecimal c = of c.in-NotHexadecimal.is

pub returns-in-OddDigits : goal.returns-in-OddDigits
returns-in-OddDigits c = of c.in-OddDigits.is

pub returns-in-FieldTooMany : goal.returns-in-FieldTooMany
returns-in-FieldTooMany c = of c.in-FieldTooMany.is

pub returns-in-ByteOrderMark : goal.returns-in-ByteOrderMark
returns-in-ByteOrderMark c = of c.in-ByteOrderMark.is

pub returns-in-NothingExpected : goal.returns-in-NothingExpected
returns-in-NothingExpected c = of c.in-NothingExpected.is

pub returns-in-NoStep : goal.returns-in-NoStep
returns-in-NoStep c = of c.in-NoStep.is
