-- Each arm knows which case it is, so its text is the definition's at that case.
use mathlib.Core.Path.{◌≡◌, ap, sym}
use Rattle.state.specs.declared.refusal.Refusal.{Refusal}
use Rattle.octets.specs.Text.{ascii}
use Rattle.reasons.specs.Reasons.{reason}
use Rattle.reasons.proofs.reason.reason.Goals as goal

-- the text of a refusal that is known to be this case
of : {r case : Refusal} → r ≡ case → ascii (reason case) ≡ ascii (reason r)
of e = sym (ap (λ (x : Refusal). ascii (reason x)) e)

pub returns-in-FrameTooShort : goal.returns-in-FrameTooShort
returns-in-FrameTooShort c = of c.in-FrameTooShort.is

pub returns-in-UnknownKind : goal.returns-in-UnknownKind
returns-in-UnknownKind c = of c.in-UnknownKind.is

pub returns-in-FieldNotZero : goal.returns-in-FieldNotZero
returns-in-FieldNotZero c = of c.in-FieldNotZero.is

pub returns-in-LengthTooLong : goal.returns-in-LengthTooLong
returns-in-LengthTooLong c = of c.in-LengthTooLong.is

pub returns-in-DataMismatch : goal.returns-in-DataMismatch
returns-in-DataMismatch c = of c.in-DataMismatch.is

pub returns-in-CommandTooHigh : goal.returns-in-CommandTooHigh
returns-in-CommandTooHigh c = of c.in-CommandTooHigh.is

pub returns-in-WindowTooLong : goal.returns-in-WindowTooLong
returns-in-WindowTooLong c = of c.in-WindowTooLong.is

pub returns-in-StoreWrongSize : goal.returns-in-StoreWrongSize
returns-in-StoreWrongSize c = of c.in-StoreWrongSize.is

pub returns-in-OutsideWindow : goal.returns-in-OutsideWindow
returns-in-OutsideWindow c = of c.in-OutsideWindow.is

pub returns-in-BufferTooShort : goal.returns-in-BufferTooShort
returns-in-BufferTooShort c = of c.in-BufferTooShort.is

pub returns-in-AddressTooHigh : goal.returns-in-AddressTooHigh
returns-in-AddressTooHigh c = of c.in-AddressTooHigh.is

pub returns-in-StateBroken : goal.returns-in-StateBroken
returns-in-StateBroken c = of c.in-StateBroken.is

pub returns-in-CommandNotOpen : goal.returns-in-CommandNotOpen
returns-in-CommandNotOpen c = of c.in-CommandNotOpen.is

pub returns-in-CommandAlreadyOpen : goal.returns-in-CommandAlreadyOpen
returns-in-CommandAlreadyOpen c = of c.in-CommandAlreadyOpen.is

pub returns-in-TooManyBytes : goal.returns-in-TooManyBytes
returns-in-TooManyBytes c = of c.in-TooManyBytes.is

pub returns-in-TooManyRecords : goal.returns-in-TooManyRecords
returns-in-TooManyRecords c = of c.in-TooManyRecords.is

pub returns-in-NoSuchRecord : goal.returns-in-NoSuchRecord
returns-in-NoSuchRecord c = of c.in-NoSuchRecord.is

pub returns-in-WindowBeyondMap : goal.returns-in-WindowBeyondMap
returns-in-WindowBeyondMap c = of c.in-WindowBeyondMap.is

pub returns-in-TransferOutOfRange : goal.returns-in-TransferOutOfRange
returns-in-TransferOutOfRange c = of c.in-TransferOutOfRange.is

pub returns-in-EntryMisaligned : goal.returns-in-EntryMisaligned
returns-in-EntryMisaligned c = of c.in-EntryMisaligned.is
