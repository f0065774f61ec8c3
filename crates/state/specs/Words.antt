-- The state that the words of a lent array stand for. Every array of 1,032 words stands for one state, and no two for the same
-- (`StateOne` in `words`), so that nothing is lost between the two; that an array keeps its length is in its type.
use Rattle.std.specs.Prelude.{ℕ, ◌+◌, ◌*◌, ◌-◌, List, map, ltb, get_or}
use Rattle.octets.specs.Lists.{part}
use Rattle.state.specs.declared.Record.{Record}
use Rattle.state.specs.Limits.{command_limit, record_limit, command_words}
use Rattle.state.specs.Records.{span}
use Rattle.state.specs.State.{CommandState, State}

-- entry k of a command: two words behind the first
abbrev pub record_at : List ℕ → ℕ → Record
record_at words k = record { start = get_or words (2 * k + 1) 0; len = get_or words (2 * k + 1 + 1) 0 }

unfoldable pub entries_in : List ℕ → List Record
entries_in words = map (record_at words) (span 0 record_limit)

-- the command that 129 words stand for: the first is 0 if it is closed, and else one more than the number of its records
abbrev pub command_in : List ℕ → CommandState
command_in words = record { opened = ltb 0 (get_or words 0 0); count = get_or words 0 0 - 1; records = entries_in words }

-- the words of command c
abbrev pub words_of : List ℕ → ℕ → List ℕ
words_of words c = part words (command_words * c) command_words

unfoldable pub state_of : List ℕ → State
state_of words = record { commands = map (λ c. command_in (words_of words c)) (span 0 command_limit) }
