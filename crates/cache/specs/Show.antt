-- Show, as in 01 (the agreed scope; docs/RULES.md has its rules): start and length of an open command's record, counted from 0. It
-- changes nothing.
use Rattle.std.specs.Prelude.{ℕ, List, [], ◌∷◌, get_or}
use Rattle.state.specs.State.{State, records_of, no_record}
use Rattle.state.specs.Verdict.{Reply, replied, Check, verdict}
use Rattle.state.specs.Checks.{command_too_high, state_broken, command_not_open, no_such_record}

module _ (s : State) (c i : ℕ) where
  -- 25, of the record that is asked for
  abbrev pub past_last : Check
  past_last = no_such_record (records_of s c) i

  -- 6, 20, 21, 25
  abbrev pub show_checks : List Check
  show_checks = command_too_high c ∷ state_broken s ∷ command_not_open s c ∷ past_last ∷ []

  unfoldable pub show_says : Reply
  show_says = let r = get_or (records_of s c) i no_record in verdict show_checks (replied (r.start ∷ r.len ∷ []))
