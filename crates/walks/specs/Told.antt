-- What a walk is owed, told from the calls before it: no state, no record and no byte of the store enters.
use Rattle.std.specs.Prelude.{ℕ, ◌≡◌, List, [], ◌∷◌, length}
use Rattle.state.specs.Verdict.{Check}
use Rattle.state.specs.Checks.{command_too_high, window_too_long, store_wrong_size}
use Rattle.cache.specs.Runs.{Call, Machine, start}
use Rattle.history.specs.Journal.{Event, backwards}
use Rattle.history.specs.Firsts.{owed}
use Rattle.history.specs.Answers.{not_open, answer_owed}
use Rattle.prp.specs.Pages.{Walk}
use Rattle.prp.specs.Walk.{Asks, transfer_wrong, room_too_short, answer_by, fetches_by, page_entries, asks_of, walk_says, walk_fetches}
use Rattle.walks.specs.Places.{Place, went, places_journal}

module _ (store_len : ℕ) where
  -- a call with the answer that it is owed, and the events once these calls have come, the latest first
  abbrev pub event_owed : List Event → Call → Event
  event_owed past p = record { call = p; answer = answer_owed store_len past p }

  unfoldable pub past_with : List Event → List Call → List Event
  past_with past [] = past
  past_with past (p ∷ ps) = past_with (event_owed past p ∷ past) ps

  module _ (past : List Event) where
    -- what a walk's list fetches are owed: their answers, and the bytes of the delivery rule
    abbrev pub asks_owed : Asks
    asks_owed before p =
        let earlier = past_with past before in record { answer = answer_owed store_len earlier p; bytes = owed earlier (event_owed earlier p) }

    -- the checks before PRP1: 31, 10, 6, 7, 8 and 21; 20 is never given
    abbrev pub checks_owed : Walk → List Check
    checks_owed w =
        transfer_wrong w.transfer ∷ room_too_short w ∷ command_too_high w.command ∷ window_too_long (length w.window) ∷ store_wrong_size store_len
        ∷ not_open past w.command ∷ []

-- the walk's answer, the list fetches that it makes and the addresses behind PRP1
pub record WalkTold (store_len : ℕ) (past : List Event) (m : Machine) (w : Walk) : Type 0 where
  pub answer : walk_says m w ≡ answer_by (asks_owed store_len past) w (checks_owed store_len past w)
  pub fetches : walk_fetches m w ≡ fetches_by (asks_owed store_len past) w (checks_owed store_len past w)
  pub entries : page_entries (asks_of m) w ≡ page_entries (asks_owed store_len past) w

-- After every list of calls and walks, every walk is answered as the calls before it owe.
abbrev pub WalksTold : Type 0
WalksTold =
    (store : List ℕ) (ps : List Place) (w : Walk) → WalkTold (length store) (backwards [] (places_journal store ps)) (went (start store) ps) w
