-- The reasons to turn a call away, each stated once, in the order of the numbers of 01 (the agreed scope; docs/RULES.md has its rules).
-- A call lists those that can apply to it.
use Rattle.std.specs.Prelude.{ℕ, ◌+◌, List, not, ltb, leb, eqb, length}
use Rattle.state.specs.declared.Record.{Record}
use Rattle.state.specs.declared.refusal.Refusal.TheVariants.{LengthTooLong, CommandTooHigh, WindowTooLong, StoreWrongSize, OutsideWindow, BufferTooShort}
use Rattle.state.specs.declared.refusal.Refusal.TheVariants.{StateBroken, CommandNotOpen, CommandAlreadyOpen, TooManyBytes, TooManyRecords, NoSuchRecord}
use Rattle.state.specs.Limits.{command_limit, record_limit, held_limit, transfer_limit, window_limit, store_size}
use Rattle.state.specs.Records.{total, fresh, joined}
use Rattle.state.specs.State.{State, holds, is_open}
use Rattle.state.specs.Refusals.{number}
use Rattle.state.specs.Verdict.{Check, ◌⇒◌}

-- 4: more bytes than one call may have
abbrev pub length_too_long : ℕ → Check
length_too_long n = ltb transfer_limit n ⇒ number LengthTooLong

-- 6: there is no such command
abbrev pub command_too_high : ℕ → Check
command_too_high c = leb command_limit c ⇒ number CommandTooHigh

-- 7: a window that is too long
abbrev pub window_too_long : ℕ → Check
window_too_long window_len = ltb window_limit window_len ⇒ number WindowTooLong

-- 8: a store that is not of the one length
abbrev pub store_wrong_size : ℕ → Check
store_wrong_size store_len = not (eqb store_len store_size) ⇒ number StoreWrongSize

-- 9: a span that ends behind the window. The numbers here have no largest, so the sum is the true one.
abbrev pub outside_window : (window_len a n : ℕ) → Check
outside_window window_len a n = ltb window_len (a + n) ⇒ number OutsideWindow

-- 10: a destination or an output with less room than n bytes
abbrev pub buffer_too_short : (buffer_len n : ℕ) → Check
buffer_too_short buffer_len n = ltb buffer_len n ⇒ number BufferTooShort

-- 20: a state that does not hold together
abbrev pub state_broken : State → Check
state_broken s = not (holds s) ⇒ number StateBroken

-- 21: a command that should be open and is not
abbrev pub command_not_open : State → ℕ → Check
command_not_open s c = not (is_open s c) ⇒ number CommandNotOpen

-- 22: a command that should be closed and is not
abbrev pub command_already_open : State → ℕ → Check
command_already_open s c = is_open s c ⇒ number CommandAlreadyOpen

-- 23: no room for the bytes, counted as those held and the fresh ones of the span
abbrev pub too_many_bytes : List Record → (a n : ℕ) → Check
too_many_bytes rs a n = ltb held_limit (total rs + fresh rs a n) ⇒ number TooManyBytes

-- 24: no room for the records, counted after the span is joined, with what it touches too (F-1)
abbrev pub too_many_records : List Record → (a n : ℕ) → Check
too_many_records rs a n = ltb record_limit (length (joined rs a n)) ⇒ number TooManyRecords

-- 25: a record that is asked for and not there
abbrev pub no_such_record : List Record → ℕ → Check
no_such_record rs i = leb (length rs) i ⇒ number NoSuchRecord
