-- The number of each refusal (01, the agreed scope, "Turned away because of the input", "Turned away because of the
-- state"; 30 is of request F-2 of 02, the agreed changes, 31 and 32 are of F-5; docs/RULES.md has their rules).
use Rattle.std.specs.Prelude.{ℕ}
use Rattle.state.specs.declared.refusal.Refusal.{Refusal}
use Rattle.state.specs.declared.refusal.Refusal.TheVariants.{FrameTooShort, UnknownKind, FieldNotZero, LengthTooLong, DataMismatch, CommandTooHigh}
use Rattle.state.specs.declared.refusal.Refusal.TheVariants.{WindowTooLong, StoreWrongSize, OutsideWindow, BufferTooShort, AddressTooHigh, StateBroken}
use Rattle.state.specs.declared.refusal.Refusal.TheVariants.{CommandNotOpen, CommandAlreadyOpen, TooManyBytes, TooManyRecords, NoSuchRecord, WindowBeyondMap}
use Rattle.state.specs.declared.refusal.Refusal.TheVariants.{TransferOutOfRange, EntryMisaligned}

abbrev pub number : Refusal → ℕ
number FrameTooShort = 1
number UnknownKind = 2
number FieldNotZero = 3
number LengthTooLong = 4
number DataMismatch = 5
number CommandTooHigh = 6
number WindowTooLong = 7
number StoreWrongSize = 8
number OutsideWindow = 9
number BufferTooShort = 10
number AddressTooHigh = 11
number StateBroken = 20
number CommandNotOpen = 21
number CommandAlreadyOpen = 22
number TooManyBytes = 23
number TooManyRecords = 24
number NoSuchRecord = 25
number WindowBeyondMap = 30
number TransferOutOfRange = 31
number EntryMisaligned = 32
