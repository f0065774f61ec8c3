-- What came of reading an input whole.
use Rattle.std.specs.Prelude.{ℕ, Result, Ok, Err}
use Rattle.console.specs.declared.input.Unread.{Unread}

-- how many bytes were read to the front of the buffer, also where a read failed then
abbrev pub read_count : Result ℕ Unread → ℕ
read_count (Ok n) = n
read_count (Err unread) = unread.count
