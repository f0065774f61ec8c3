-- The page walk: its answer, the list fetches that it makes, and what it leaves (requests F-5 and F-6 of 02, the agreed changes; docs/RULES.md has
-- their rules). What it gets from its list fetches is an argument, so that the same words serve a machine that is run and what is told from the calls.
use Rattle.std.specs.Prelude.{ℕ, ◌+◌, ◌-◌, List, [], ◌∷◌, ◌++◌, Bool, true, false, cond, ◌&&◌, ◌||◌, ltb, eqb, length, take, get_or, replicate}
use Rattle.octets.specs.Lists.{overwrite}
use Rattle.state.specs.declared.refusal.Refusal.TheVariants.{TransferOutOfRange, BufferTooShort}
use Rattle.state.specs.Refusals.{number}
use Rattle.state.specs.Verdict.{Reply, replied, accepted, looked_in, Check, ◌⇒◌}
use Rattle.state.specs.Checks.{command_too_high, window_too_long, store_wrong_size, state_broken, command_not_open}
use Rattle.cache.specs.Runs.{Call, Machine, says, delivers, ran}
use Rattle.prp.specs.Pages.{Walk, touched, needed, span_lengths, with_list, fit, chained, first_count, second_count, page_size, spans_most, transfer_most}
use Rattle.prp.specs.Entries.{Got, entries_in, wrong_multiple, judged, ◌then◌, list_fetch, page_says}

-- 31: a transfer of no bytes, or a longer one than 65,536
abbrev pub transfer_wrong : ℕ → Check
transfer_wrong n = (eqb n 0 || ltb transfer_most n) ⇒ number TransferOutOfRange

-- 10: a scratch shorter than the walk asks for, or a list with fewer than 17 places
abbrev pub room_too_short : Walk → Check
room_too_short w =
    (ltb (length w.scratch) w.least || ltb (length w.address_list) spans_most || ltb (length w.length_list) spans_most)
    ⇒ number BufferTooShort

-- what list fetches get: each is told from the list fetches that the walk made before it
abbrev pub Asks : Type 0
Asks = List Call → Call → Got

-- The walk over what its list fetches get. `checks` are those that are made before PRP1 is judged.
module _ (asks : Asks) (w : Walk) where
  -- the first list page: its fetch, what that got, and the entries
  abbrev pub list_one : Call
  list_one = list_fetch w.command w.prp2 (first_count w) w.window

  abbrev pub got_one : Got
  got_one = asks [] list_one

  abbrev pub entries_one : List ℕ
  entries_one = entries_in (first_count w) got_one.bytes

  -- where the next list is, if there is one: the last entry that fits into the first page
  abbrev pub onward : ℕ
  onward = get_or entries_one (fit w - 1) 0

  -- the second list page
  abbrev pub list_two : Call
  list_two = list_fetch w.command onward (second_count w) w.window

  abbrev pub got_two : Got
  got_two = asks (list_one ∷ []) list_two

  abbrev pub entries_two : List ℕ
  entries_two = entries_in (second_count w) got_two.bytes

  -- 02's walk order behind PRP1. Where no entry is needed PRP2 is not looked at; where one is, PRP2 is it; else PRP2 points to a list. Every entry
  -- of a list page is judged before the next list is fetched.
  abbrev pub lists_say : Reply
  lists_say =
      judged (wrong_multiple 8 w.prp2 ∷ []) then page_says (first_count w) got_one
      then elim (chained w) [ true ↦ page_says (second_count w) got_two | false ↦ replied [] ]

  abbrev pub behind_says : Reply
  behind_says =
      elim (with_list w) [
        | true ↦ lists_say
        | false ↦ judged (elim (eqb (needed w) 0) [ true ↦ [] | false ↦ wrong_multiple page_size w.prp2 ∷ [] ])
      ]

  -- the addresses of the pages behind the first
  unfoldable pub page_entries : List ℕ
  page_entries =
      elim (with_list w) [
        | true ↦ elim (chained w) [ true ↦ take (fit w - 1) entries_one ++ entries_two | false ↦ entries_one ]
        | false ↦ take (needed w) (w.prp2 ∷ [])
      ]

  -- F-6's sum over the list fetches: how many records those of the list pages that there are looked at; none without a list
  abbrev pub looked_in_lists : ℕ
  looked_in_lists = looked_in got_one.answer + elim (chained w) [ true ↦ looked_in got_two.answer | false ↦ 0 ]

  unfoldable pub looked_behind : ℕ
  looked_behind = elim (with_list w) [ true ↦ looked_in_lists | false ↦ 0 ]

  module _ (checks : List Check) where
    -- the answer: the checks, then entry by entry from PRP1; the reply is the number of spans, and that of the records looked at
    unfoldable pub answer_by : Reply
    answer_by =
        judged checks then judged (wrong_multiple 4 w.prp1 ∷ []) then behind_says then replied (touched w ∷ looked_behind ∷ [])

    -- The list fetches that are made, in their order, the last of which may be refused: none before PRP1 and PRP2 are judged, and the second
    -- only if nothing is wrong with the first page.
    abbrev pub makes_one : Bool
    makes_one = with_list w && accepted (judged checks then judged (wrong_multiple 4 w.prp1 ∷ wrong_multiple 8 w.prp2 ∷ []))

    abbrev pub makes_two : Bool
    makes_two = makes_one && chained w && accepted (page_says (first_count w) got_one)

    unfoldable pub fetches_by : List Call
    fetches_by = cond makes_one (list_one ∷ elim makes_two [ true ↦ list_two ∷ [] | false ↦ [] ]) []

-- what a machine's list fetches get
abbrev pub asks_of : Machine → Asks
asks_of m before p = record { answer = says (ran m before) p; bytes = delivers (ran m before) p }

module _ (m : Machine) (w : Walk) where
  -- 31, then 10, then 6, 7, 8, 20 and 21, list or no list
  abbrev pub walk_checks : List Check
  walk_checks =
      transfer_wrong w.transfer ∷ room_too_short w ∷ command_too_high w.command ∷ window_too_long (length w.window)
      ∷ store_wrong_size (length m.store) ∷ state_broken m.state ∷ command_not_open m.state w.command ∷ []

  unfoldable pub walk_says : Reply
  walk_says = answer_by (asks_of m) w walk_checks

  -- the list fetches that the walk makes, and what it leaves of state and store: what they leave, accepted or refused
  unfoldable pub walk_fetches : List Call
  walk_fetches = fetches_by (asks_of m) w walk_checks

  abbrev pub walk_after : Machine
  walk_after = ran m walk_fetches

  -- the scratch: as it was where the walk is refused before PRP1 is judged, and all zero otherwise
  unfoldable pub walk_scratch : List ℕ
  walk_scratch = cond (accepted (judged walk_checks)) (replicate (length w.scratch) 0) w.scratch

  -- the two lists: the spans at their front; the places behind them stay, and all places of a refused walk's
  unfoldable pub walk_addresses : List ℕ
  walk_addresses = cond (accepted walk_says) (overwrite w.address_list 0 (w.prp1 ∷ page_entries (asks_of m) w)) w.address_list

  unfoldable pub walk_lengths : List ℕ
  walk_lengths = cond (accepted walk_says) (overwrite w.length_list 0 (span_lengths w)) w.length_list
