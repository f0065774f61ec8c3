-- The limits (01, the agreed scope, "Bounds of the device"; docs/RULES.md has its rules), in its order.
use Rattle.std.specs.Prelude.{ℕ}
use Rattle.state.specs.declared.Limits.{Limits}

-- how many commands there are
abbrev pub command_limit : ℕ
command_limit = 8

-- how many records a command may have
abbrev pub record_limit : ℕ
record_limit = 64

-- how many distinct bytes a command may hold
abbrev pub held_limit : ℕ
held_limit = 4096

-- how many bytes one fetch or write may have
abbrev pub transfer_limit : ℕ
transfer_limit = 4096

-- how long a window may be, and so how many addresses there are
abbrev pub window_limit : ℕ
window_limit = 65536

-- how long a store must be
abbrev pub store_size : ℕ
store_size = 32768

-- how many words stand for a command, and for a state: one and two for each entry, and those of every command
abbrev pub command_words : ℕ
command_words = 129

abbrev pub state_words : ℕ
state_words = 1032

-- all of them, as the code has them
abbrev pub limits : Limits
limits = record {
  commands = command_limit;
  records = record_limit;
  held = held_limit;
  transfer = transfer_limit;
  window = window_limit;
  store = store_size;
  command_words = command_words;
  words = state_words;
}
