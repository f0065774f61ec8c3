-- The reason of each refusal in words.
use Prim.Native.String.{String}
use Rattle.state.specs.declared.refusal.Refusal.{Refusal}
use Rattle.state.specs.declared.refusal.Refusal.TheVariants.{FrameTooShort, UnknownKind, FieldNotZero, LengthTooLong, DataMismatch, CommandTooHigh}
use Rattle.state.specs.declared.refusal.Refusal.TheVariants.{WindowTooLong, StoreWrongSize, OutsideWindow, BufferTooShort, AddressTooHigh, StateBroken}
use Rattle.state.specs.declared.refusal.Refusal.TheVariants.{CommandNotOpen, CommandAlreadyOpen, TooManyBytes, TooManyRecords, NoSuchRecord, WindowBeyondMap}
use Rattle.state.specs.declared.refusal.Refusal.TheVariants.{TransferOutOfRange, EntryMisaligned}

-- the reason as a program tells it; 01 and 02 have the numbers alone
abbrev pub reason : Refusal → String
reason FrameTooShort = "the frame ends before its fifth byte"
reason UnknownKind = "no kind of step has this number"
reason FieldNotZero = "a field or bit that must be zero is not"
reason LengthTooLong = "the length is above 4096"
reason DataMismatch = "data and length do not agree"
reason CommandTooHigh = "the command is above 7"
reason WindowTooLong = "the window is longer than 65536 bytes"
reason StoreWrongSize = "the store is not 32768 bytes long"
reason OutsideWindow = "the span ends beyond the window"
reason BufferTooShort = "the buffer lent for the result is too short"
reason AddressTooHigh = "the address is above 65535"
reason StateBroken = "the state does not hold together"
reason CommandNotOpen = "the command is not open"
reason CommandAlreadyOpen = "the command is open already"
reason TooManyBytes = "the command would hold more than 4096 bytes"
reason TooManyRecords = "the command would have more than 64 records"
reason NoSuchRecord = "the command has no record of this number"
reason WindowBeyondMap = "the window is longer than 4096 bytes"
reason TransferOutOfRange = "the transfer is not 1 to 65536 bytes"
reason EntryMisaligned = "a page entry is not the multiple it must be"
