-- The reasons to turn a frame away that no other call has, each stated once, in the order of the numbers of 01 (the agreed
-- scope; docs/RULES.md has its rules).
use Rattle.std.specs.Prelude.{ℕ, ◌-◌, Bool, true, not, ◌&&◌, ◌||◌, ltb, leb, eqb}
use Rattle.state.specs.declared.refusal.Refusal.TheVariants.{FrameTooShort, UnknownKind, FieldNotZero, DataMismatch, AddressTooHigh}
use Rattle.state.specs.Limits.{window_limit}
use Rattle.state.specs.Refusals.{number}
use Rattle.state.specs.Verdict.{Check, ◌⇒◌}
use Rattle.frames.specs.Layout.{head_size}
use Rattle.kinds.specs.Table.{is_kind, kind_of}
use Rattle.frames.specs.Kinds.{data_size}

-- 1: too few bytes for a head
abbrev pub frame_too_short : (given : ℕ) → Check
frame_too_short given = ltb given head_size ⇒ number FrameTooShort

-- 2: a kind that the table does not allow
abbrev pub unknown_kind : (kind : ℕ) → Check
unknown_kind kind = not (is_kind kind) ⇒ number UnknownKind

-- is a number not zero that must be?
unfoldable pub not_zero : (must : Bool) → ℕ → Bool
not_zero must n = must && not (eqb n 0)

-- does a frame break the column of its kind that says which fields must be zero, or has it a spare bit that is not?
unfoldable pub zero_broken : (kind command address size spare : ℕ) → Bool
zero_broken kind command address size spare =
    let k = kind_of kind in
    not_zero k.command_zero command || (not_zero k.span_zero address || (not_zero k.span_zero size || not_zero true spare))

-- 3: a field or a spare bit is not zero that must be
abbrev pub field_not_zero : (kind command address size spare : ℕ) → Check
field_not_zero kind command address size spare = zero_broken kind command address size spare ⇒ number FieldNotZero

-- 5, of the reader: fewer bytes behind the head than the data of the frame
abbrev pub data_missing : (given kind size : ℕ) → Check
data_missing given kind size = ltb (given - head_size) (data_size kind size) ⇒ number DataMismatch

-- 5, of the writer: another number of bytes than the data of the frame, which is none for a kind without data
abbrev pub data_mismatch : (given kind size : ℕ) → Check
data_mismatch given kind size = not (eqb given (data_size kind size)) ⇒ number DataMismatch

-- 11: there is no such address
abbrev pub address_too_high : (address : ℕ) → Check
address_too_high address = leb window_limit address ⇒ number AddressTooHigh
