-- Every answer, told from the calls: what a call is owed is told from the events before it, from its numbers and from the lengths of what it
-- is lent. No state, no record and no byte of the store enters, nor the answer that it was given. (01 is the agreed scope and 02 the agreed
-- changes; docs/RULES.md has their rules.)
use Rattle.std.specs.Prelude.{ℕ, ◌+◌, ◌-◌, ◌<◌, ◌≡◌, List, [], ◌∷◌, ◌++◌, Bool, true, false, not, ◌||◌, ◌↔◌, ltb, leb, length, get_or}
use Rattle.octets.specs.Lists.{count}
use Rattle.state.specs.declared.Record.{Record}
use Rattle.state.specs.declared.refusal.Refusal.TheVariants.{CommandNotOpen, CommandAlreadyOpen, TooManyBytes, TooManyRecords, NoSuchRecord}
use Rattle.state.specs.Limits.{record_limit, held_limit, window_limit}
use Rattle.state.specs.Refusals.{number}
use Rattle.state.specs.Records.{in_span, span, total, looked}
use Rattle.state.specs.Runs.{runs}
use Rattle.state.specs.State.{no_record, records_of, is_open}
use Rattle.state.specs.Verdict.{Reply, refused, replied, Check, ◌⇒◌, verdict, applying}
use Rattle.state.specs.Checks.{length_too_long, command_too_high, window_too_long, store_wrong_size, outside_window, buffer_too_short}
use Rattle.cache.specs.Runs.{Call, begin, fetch, end, host_write, own_write, show, start, along, ran, says}
use Rattle.history.specs.Journal.{Event, journal, told, backwards}
use Rattle.history.specs.Firsts.{held_since}
use Rattle.history.specs.Stores.{Phase, unbegun, running, finished, phase}
use Rattle.history.specs.Counts.{fresh_since}

-- Was the last accepted begin or end of the command a begin?
abbrev pub is_running : Phase → Bool
is_running unbegun = false
is_running running = true
is_running finished = false

abbrev pub open_since : List Event → ℕ → Bool
open_since past c = is_running (phase past c)

module _ (past : List Event) (c : ℕ) where
  -- the addresses that the command has fetched or written since its begin: how many of all addresses, and how many of a span
  abbrev pub held_count : ℕ
  held_count = count (held_since past c) (span 0 window_limit)

  abbrev pub replay_count : (a n : ℕ) → ℕ
  replay_count a n = count (held_since past c) (span a n)

  -- and how many of a span it has neither fetched nor written: its first fetches, if the span is fetched now, or its new addresses, if the span
  -- is written now
  abbrev pub first_count : (a n : ℕ) → ℕ
  first_count a n = count (λ x. not (held_since past c x)) (span a n)

  -- the longest unbroken runs of these addresses, which are its records, and what they become with a span
  abbrev pub runs_of : List Record
  runs_of = runs (held_since past c)

  abbrev pub runs_with : (a n : ℕ) → List Record
  runs_with a n = runs (λ x. held_since past c x || in_span a n x)

  -- 21: the command is not open
  abbrev pub not_open : Check
  not_open = not (open_since past c) ⇒ number CommandNotOpen

  -- 22: the command is open already
  abbrev pub already_open : Check
  already_open = open_since past c ⇒ number CommandAlreadyOpen

  -- 23: with those of the span it would have more than 4,096 addresses
  abbrev pub bytes_full : (a n : ℕ) → Check
  bytes_full a n = ltb held_limit (held_count + first_count a n) ⇒ number TooManyBytes

  -- 24: with the span there would be more than 64 runs
  abbrev pub records_full : (a n : ℕ) → Check
  records_full a n = ltb record_limit (length (runs_with a n)) ⇒ number TooManyRecords

  -- 25: there is no run of this number
  abbrev pub no_such_run : ℕ → Check
  no_such_run i = leb (length runs_of) i ⇒ number NoSuchRecord

module _ (store_len : ℕ) (past : List Event) where
  -- the checks below 23 of a fetch: 4, 6 to 10, 21; and of an own write: 4, 6 to 9, 21
  abbrev pub lower_checks : (c a n dest_len window_len : ℕ) → List Check
  lower_checks c a n dest_len window_len =
      length_too_long n ∷ command_too_high c ∷ window_too_long window_len ∷ store_wrong_size store_len ∷ outside_window window_len a n
      ∷ buffer_too_short dest_len n ∷ not_open past c ∷ []

  abbrev pub lower_write_checks : (c a n window_len : ℕ) → List Check
  lower_write_checks c a n window_len =
      length_too_long n ∷ command_too_high c ∷ window_too_long window_len ∷ store_wrong_size store_len ∷ outside_window window_len a n ∷ not_open past c ∷ []

  -- What a call is owed: the number of the first check that applies, in the order of 01's numbers, and the reply where none does. 20 is in no
  -- list, so it is never given.
  unfoldable pub answer_owed : Call → Reply
  -- 6, 8, 22; begin replies nothing
  answer_owed (begin c) = verdict (command_too_high c ∷ store_wrong_size store_len ∷ already_open past c ∷ []) (replied [])
  -- 4, 6 to 10, 21, 23, 24; fresh, replayed, and how many of the runs are looked at, which are the command's records before the fetch
  answer_owed (fetch c a n dest window) =
      verdict (lower_checks c a n (length dest) (length window) ++ bytes_full past c a n ∷ records_full past c a n ∷ [])
      (replied (first_count past c a n ∷ replay_count past c a n ∷ looked (runs_of past c) a n ∷ []))
  -- 6, 8, 21; the number of records and of distinct bytes
  answer_owed (end c) =
      verdict (command_too_high c ∷ store_wrong_size store_len ∷ not_open past c ∷ []) (replied (length (runs_of past c) ∷ held_count past c ∷ []))
  -- 4, 7, 9; the number of bytes
  answer_owed (host_write a bytes window) =
      verdict (length_too_long (length bytes) ∷ window_too_long (length window) ∷ outside_window (length window) a (length bytes) ∷ [])
      (replied (length bytes ∷ []))
  -- 4, 6 to 9, 21, 23, 24; the number of bytes, and that of the addresses not held before
  answer_owed (own_write c a bytes window) =
      let n = length bytes in
      verdict (lower_write_checks c a n (length window) ++ bytes_full past c a n ∷ records_full past c a n ∷ [])
      (replied (n ∷ first_count past c a n ∷ []))
  -- 6, 21, 25; start and length
  answer_owed (show c i) =
      let r = get_or (runs_of past c) i no_record in
      verdict (command_too_high c ∷ not_open past c ∷ no_such_run past c i ∷ []) (replied (r.start ∷ r.len ∷ []))

  -- at an event, of which the call is looked at and not the answer
  abbrev pub answers_owed : Event → Reply
  answers_owed e = answer_owed e.call

-- the events of a list of calls, the latest first
abbrev pub events_of : (store : List ℕ) → List Call → List Event
events_of store ps = backwards [] (journal store ps)

-- After every list a command is open exactly if the last accepted begin or end of it was a begin.
abbrev pub OpenTold : Type 0
OpenTold =
    (store : List ℕ) (ps : List Call) (c : ℕ) → is_open (ran (start store) ps).state c ≡ open_since (events_of store ps) c

-- Every call of every list is answered as the calls before it owe, refusals, counts, end's two numbers and what show gives included.
abbrev pub AnswersTold : Type 0
AnswersTold = (store : List ℕ) (ps : List Call) → along says (start store) ps ≡ told (answers_owed (length store)) [] (journal store ps)

-- what a list of calls is owed, each call by the calls before it and by what these were owed
unfoldable pub answers_given : (store_len : ℕ) → List Event → List Call → List Reply
answers_given store_len past [] = []
answers_given store_len past (p ∷ ps) =
    let r = answer_owed store_len past p in r ∷ answers_given store_len (record { call = p; answer = r } ∷ past) ps

-- The same with no run behind it: the calls and, of the store, its length alone give every answer of every list.
abbrev pub CallsGiveAnswers : Type 0
CallsGiveAnswers = (store : List ℕ) (ps : List Call) → along says (start store) ps ≡ answers_given (length store) [] ps

-- how many of a command's 4,096 places are spare: one less for each address that it has fetched or written since its begin
abbrev pub spare : List Event → (c : ℕ) → ℕ
spare past c = held_limit - held_count past c

-- The order's question what is spare, and how two counts of it meet. One counts every place that a command has, 4,096; the other counts the
-- places that are not handed out yet. They differ by what the replies since the command's begin have handed out.
pub record Meets (store : List ℕ) (ps : List Call) (c : ℕ) : Type 0 where
  -- the bytes that its records hold are as many as the addresses that it has fetched or written since its begin
  pub held : total (records_of (ran (start store) ps).state c) ≡ held_count (events_of store ps) c
  -- and these are as many as the replies to its fetches and own writes since its begin come to
  pub handed_out : held_count (events_of store ps) c ≡ fresh_since (events_of store ps) c
  -- the two counts meet: every place is spare, or was handed out by a reply since the begin
  pub meet : fresh_since (events_of store ps) c + spare (events_of store ps) c ≡ held_limit
  -- a fetch to which no lower number applies is answered 23 exactly if it has more first fetches than places are spare
  pub full :
      (a n : ℕ) (dest window : List ℕ)
      → applying (lower_checks (length store) (events_of store ps) c a n (length dest) (length window)) ≡ []
      → (says (ran (start store) ps) (fetch c a n dest window) ≡ refused (number TooManyBytes))
      ↔ (spare (events_of store ps) c < first_count (events_of store ps) c a n)
  -- and so is an own write, of which the addresses count that are not held
  pub full_write :
      (a : ℕ) (bytes window : List ℕ)
      → applying (lower_write_checks (length store) (events_of store ps) c a (length bytes) (length window)) ≡ []
      → (says (ran (start store) ps) (own_write c a bytes window) ≡ refused (number TooManyBytes))
      ↔ (spare (events_of store ps) c < first_count (events_of store ps) c a (length bytes))

-- So it is after every list, for every open command.
abbrev pub CountsMeet : Type 0
CountsMeet = (store : List ℕ) (ps : List Call) (c : ℕ) → is_open (ran (start store) ps).state c ≡ true → Meets store ps c
