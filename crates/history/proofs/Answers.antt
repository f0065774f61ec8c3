-- Every call of every list is answered as the calls before it owe.
use Prim.Native.Nat.{ℕ, suc, ◌+◌, ◌≤◌}
use native.Mathlib.Omega.{arith}
use mathlib.Core.Path.{◌≡◌, refl, ap, ap₂, fun_ext, ◌∙◌}
use mathlib.Core.List.{List, [], ◌∷◌, ◌++◌}
use mathlib.Core.Bool.{Bool, true, false, not, ◌||◌}
use lib.Dec.{ltb}
use lib.ListN.{length, get_or}
use Rattle.octets.specs.Lists.{count}
use borrow.Author.Tests.{ltb-false, not-false}
use Rattle.state.specs.declared.Record.{Record}
use Rattle.state.specs.Limits.{window_limit}
use Rattle.state.specs.Records.{past as pastRecord, in_span, held, span, total, place, fresh, replayed, joined, looked}
use Rattle.state.specs.Runs.{runs}
use Rattle.state.specs.State.{State, records_of, is_open, ascending, holds, no_record}
use Rattle.state.specs.Verdict.{Reply, replied, Check, ◌⇒◌, verdict}
use Rattle.state.specs.Checks.{length_too_long, command_too_high, window_too_long, store_wrong_size, outside_window, buffer_too_short}
use Rattle.state.specs.Checks.{too_many_bytes, too_many_records, no_such_record}
use Rattle.state.proofs.Cases.{ascends}
use Rattle.state.proofs.Places.{place_low, fresh_place, counts_fill}
use Rattle.state.proofs.Commands.{kept}
use Rattle.state.proofs.Verdict.{AllFalse}
use Rattle.state.proofs.Runs.{records_runs, joined_runs}
use Rattle.cache.specs.Begin.{begin_says}
use Rattle.cache.specs.Fetch.{fetch_says}
use Rattle.cache.specs.End.{end_says}
use Rattle.cache.specs.HostWrite.{host_says}
use Rattle.cache.specs.OwnWrite.{own_says}
use Rattle.cache.specs.Show.{show_says}
use Rattle.cache.specs.Runs.{Call, begin, fetch, end, host_write, own_write, show, Machine, start, says, after, along}
use Rattle.history.specs.Journal.{Event, event, told}
use Rattle.history.specs.Firsts.{memory, held_since}
use Rattle.history.specs.Answers.{open_since, held_count, replay_count, first_count, runs_of, runs_with, not_open, bytes_full, records_full, no_such_run}
use Rattle.history.specs.Answers.{answer_owed, answers_owed, AnswersTold, answers_given, CallsGiveAnswers}
use Rattle.history.proofs.Counts.{count_held_lem, count_fresh_lem}
use Rattle.history.proofs.Stored.{memory_held, held_known}
use Rattle.history.proofs.Tied.{Tied, tied_start, tied_after}

-- Counts of addresses, and of records

-- behind all addresses every held one counts
place_end : (lo : ℕ) (rs : List Record) → ascending lo rs ≡ true → place rs window_limit ≡ total rs
unfolding place total
place_end lo [] up = refl
place_end lo (r ∷ rs) up = let u = ascends lo r rs up in omega (arith, u.fits, place_end (suc (pastRecord r)) rs u.rest)

total_count : (rs : List Record) → ascending 0 rs ≡ true → total rs ≡ count (held rs) (span 0 window_limit)
total_count rs up =
    omega (
      arith,
      place_low 0 rs 0 up (omega arith),
      place_end 0 rs up,
      fresh_place 0 rs 0 window_limit up,
      counts_fill rs 0 window_limit,
      count_held_lem rs (span 0 window_limit),
    )

-- what show replies of these records
abbrev shown : List Record → ℕ → Reply
shown rs i = let r = get_or rs i no_record in replied (r.start ∷ r.len ∷ [])

-- What an open command has is told from the events.

module _ {store_len : ℕ} {m : Machine} {past : List Event} (T : Tied store_len m past) (c : ℕ) (o : is_open m.state c ≡ true) where
  abbrev rs : List Record
  rs = records_of m.state c

  up : ascending 0 rs ≡ true
  up = (kept m.state c T.sound.state.whole).up

  held_since_lem : held rs ≡ held_since past c
  held_since_lem = fun_ext λ x. held_known m (memory past) T.sound c o x ∙ memory_held past c x

  pub total_told : total rs ≡ held_count past c
  total_told = total_count rs up ∙ ap (λ (f : ℕ → Bool). count f (span 0 window_limit)) held_since_lem

  fresh_told : (a n : ℕ) → fresh rs a n ≡ first_count past c a n
  fresh_told a n = count_fresh_lem rs (span a n) ∙ ap (λ (f : ℕ → Bool). count (λ x. not (f x)) (span a n)) held_since_lem

  replayed_told : (a n : ℕ) → replayed rs a n ≡ replay_count past c a n
  replayed_told a n = count_held_lem rs (span a n) ∙ ap (λ (f : ℕ → Bool). count f (span a n)) held_since_lem

  runs_told : rs ≡ runs_of past c
  runs_told = records_runs rs up ∙ ap runs held_since_lem

  joined_told : (a n : ℕ) → a + n ≤ window_limit → joined rs a n ≡ runs_with past c a n
  joined_told a n fits = joined_runs rs a n up fits ∙ ap (λ (f : ℕ → Bool). runs (λ x. f x || in_span a n x)) held_since_lem

  -- 23, 24 and 25
  bytes_full_told : (a n : ℕ) → too_many_bytes rs a n ≡ bytes_full past c a n
  bytes_full_told a n = rw (total_told, fresh_told a n)

  records_full_told : (a n : ℕ) → a + n ≤ window_limit → too_many_records rs a n ≡ records_full past c a n
  records_full_told a n fits = rw (joined_told a n fits)

  no_such_told : (i : ℕ) → no_such_record rs i ≡ no_such_run past c i
  no_such_told i = ap (λ (ts : List Record). no_such_record ts i) runs_told

  -- and the replies
  fetch_told : (a n : ℕ) → replied (fresh rs a n ∷ replayed rs a n ∷ looked rs a n ∷ [])
      ≡ replied (first_count past c a n ∷ replay_count past c a n ∷ looked (runs_of past c) a n ∷ [])
  fetch_told a n =
      rw (fresh_told a n, replayed_told a n)
      (ap (λ (ts : List Record). replied (first_count past c a n ∷ replay_count past c a n ∷ looked ts a n ∷ [])) runs_told)

  end_told : replied (length rs ∷ total rs ∷ []) ≡ replied (length (runs_of past c) ∷ held_count past c ∷ [])
  end_told = ap₂ (λ k b. replied (k ∷ b ∷ [])) (ap length runs_told) total_told

  show_told : (i : ℕ) → shown rs i ≡ shown (runs_of past c) i
  show_told i = ap (λ (ts : List Record). shown ts i) runs_told

-- Two lists of checks that begin alike: what is behind matters where none of the first applies.
checks_behind : (cs ds es : List Check) (r t : Reply) → (AllFalse cs → verdict ds r ≡ verdict es t) → verdict (cs ++ ds) r ≡ verdict (cs ++ es) t
unfolding verdict
checks_behind [] ds es r t h = h tt
checks_behind (c ∷ cs) ds es r t h = go c.applies refl (checks_behind cs ds es r t)
  where
    go : (b : Bool) → c.applies ≡ b → ((AllFalse cs → verdict ds r ≡ verdict es t) → verdict (cs ++ ds) r ≡ verdict (cs ++ es) t)
        → verdict (c ∷ cs ++ ds) r ≡ verdict (c ∷ cs ++ es) t
    go true e ih = rw e
    go false e ih = rw e (ih (λ f. h (e, f)))

-- a check that does not apply
pub not_applying : (k : ℕ) (cs : List Check) (r : Reply) → verdict (false ⇒ k ∷ cs) r ≡ verdict cs r
unfolding verdict
not_applying k cs r = refl

-- One call

module _ {store_len : ℕ} {m : Machine} {past : List Event} (T : Tied store_len m past) where
  abbrev s : State
  s = m.state

  whole : holds s ≡ true
  whole = T.sound.state.whole

  opened_told : (c : ℕ) → not (open_since past c) ≡ false → is_open s c ≡ true
  opened_told c h = T.opened c ∙ not-false _ h

  begin_owed : (c : ℕ) → says m (begin c) ≡ answer_owed store_len past (begin c)
  unfolding answer_owed begin_says verdict
  begin_owed c = rw (T.size, whole, T.opened c)

  -- what is behind 21 of a fetch and of an own write: 23 and 24, and the reply
  room_owed :
      (c a n window_len : ℕ) (reply reply' : Reply) → is_open s c ≡ true → ltb window_limit window_len ≡ false → ltb window_len (a + n) ≡ false → reply ≡ reply'
      → verdict (too_many_bytes (records_of s c) a n ∷ too_many_records (records_of s c) a n ∷ []) reply
      ≡ verdict (bytes_full past c a n ∷ records_full past c a n ∷ []) reply'
  room_owed c a n window_len reply reply' o low inside same =
      let fits : a + n ≤ window_limit = omega (arith, ltb-false window_limit window_len low, ltb-false window_len (a + n) inside) in
      ap₂ (λ k r. verdict k r) (ap₂ (λ b k. b ∷ k ∷ []) (bytes_full_told T c o a n) (records_full_told T c o a n fits)) same

  fetch_owed : (c a n : ℕ) (dest window : List ℕ) → says m (fetch c a n dest window) ≡ answer_owed store_len past (fetch c a n dest window)
  unfolding answer_owed fetch_says
  fetch_owed c a n dest window =
      rw (T.size, whole, T.opened c)
      (checks_behind
      (length_too_long n ∷ command_too_high c ∷ window_too_long (length window) ∷ store_wrong_size store_len ∷ outside_window (length window) a n
      ∷ buffer_too_short (length dest) n ∷ []) _ _ _ _ λ f.
      not_applying 20 _ _
      ∙ checks_behind (not_open past c ∷ []) _ _ _ _ λ h.
      let o = opened_told c h.0 in room_owed c a n (length window) _ _ o f.1.1.0 f.1.1.1.1.0 (fetch_told T c o a n))

  end_owed : (c : ℕ) → says m (end c) ≡ answer_owed store_len past (end c)
  unfolding answer_owed end_says
  end_owed c =
      rw (T.size, whole, T.opened c)
      (checks_behind (command_too_high c ∷ store_wrong_size store_len ∷ []) _ _ _ _ λ _.
      not_applying 20 _ _ ∙ checks_behind (not_open past c ∷ []) _ _ _ _ λ h. ap (verdict []) (end_told T c (opened_told c h.0)))

  own_owed : (c a : ℕ) (bytes window : List ℕ) → says m (own_write c a bytes window) ≡ answer_owed store_len past (own_write c a bytes window)
  unfolding answer_owed own_says
  own_owed c a bytes window =
      let n = length bytes in
      rw (T.size, whole, T.opened c)
      (checks_behind
      (length_too_long n ∷ command_too_high c ∷ window_too_long (length window) ∷ store_wrong_size store_len ∷ outside_window (length window) a n ∷ []) _ _ _ _ λ f.
      not_applying 20 _ _
      ∙ checks_behind (not_open past c ∷ []) _ _ _ _ λ h.
      let o = opened_told c h.0 in
      room_owed c a n (length window) _ _ o f.1.1.0 f.1.1.1.1.0 (ap (λ (k : ℕ). replied (n ∷ k ∷ [])) (fresh_told T c o a n)))

  show_owed : (c i : ℕ) → says m (show c i) ≡ answer_owed store_len past (show c i)
  unfolding answer_owed show_says
  show_owed c i =
      rw (whole, T.opened c)
      (checks_behind (command_too_high c ∷ []) _ _ _ _ λ _.
      not_applying 20 _ _
      ∙ checks_behind (not_open past c ∷ []) _ _ _ _ λ h.
      ap₂ (λ k r. verdict (k ∷ []) r) (no_such_told T c (opened_told c h.0) i) (show_told T c (opened_told c h.0) i))

  pub answer_here : (p : Call) → says m p ≡ answer_owed store_len past p
  unfolding answer_owed host_says
  answer_here (begin c) = begin_owed c
  answer_here (fetch c a n dest window) = fetch_owed c a n dest window
  answer_here (end c) = end_owed c
  answer_here (host_write a bytes window) = refl
  answer_here (own_write c a bytes window) = own_owed c a bytes window
  answer_here (show c i) = show_owed c i

answers_along : (store_len : ℕ) (past : List Event) (m : Machine) (ps : List Call) → Tied store_len m past
    → along says m ps ≡ told (answers_owed store_len) past (along event m ps)
unfolding told along
answers_along store_len past m [] T = refl
answers_along store_len past m (p ∷ ps) T =
    ap₂ ◌∷◌ (answer_here T p) (answers_along store_len (event m p ∷ past) (after m p) ps (tied_after store_len m past p T))

pub answers_told : AnswersTold
answers_told store ps = answers_along (length store) [] (start store) ps (tied_start store)

-- and with no run behind it: the answers owed are the answers given, so the events are the same

given_along : (store_len : ℕ) (past : List Event) (m : Machine) (ps : List Call) → Tied store_len m past
    → along says m ps ≡ answers_given store_len past ps
unfolding along answers_given
given_along store_len past m [] T = refl
given_along store_len past m (p ∷ ps) T =
    let here = answer_here T p in
    ap₂ ◌∷◌ here
    (given_along store_len (event m p ∷ past) (after m p) ps (tied_after store_len m past p T)
    ∙ ap (λ (r : Reply). answers_given store_len (record { call = p; answer = r } ∷ past) ps) here)

pub calls_give_answers : CallsGiveAnswers
calls_give_answers store ps = given_along (length store) [] (start store) ps (tied_start store)
