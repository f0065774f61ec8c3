-- Situation E fills a command. Its answers and records are computed; its 4,096 bytes are known by the delivery rule and by the
-- laws of spans, which is far cheaper than to look each of them up in a list.
use Prim.Native.Nat.{ℕ, ◌+◌}
use native.Mathlib.Omega.{arith}
use mathlib.Core.Path.{◌≡◌, refl, ap, ap₂, sym, subst, fun_ext, ◌∙◌}
use mathlib.Core.List.{List, [], ◌∷◌, map}
use mathlib.Core.Bool.{Bool, true, false, cond, ◌&&◌}
use lib.Dec.{leb, ltb}
use lib.ListN.{length, take, get_or}
use borrow.Author.Tests.{eq-eqb}
use Rattle.octets.specs.Lists.{all}
use Rattle.octets.proofs.Lists.{both}
use Rattle.state.specs.declared.Record.{Record}
use Rattle.state.specs.Records.{held, span, total, count_fresh, count_held, keep, lowest, highest, joined, looked_up_to, looked}
use Rattle.state.specs.State.{State, fresh_state, open_with, with_command, records_of, ascending, command_holds, holds}
use Rattle.state.specs.Verdict.{Reply, refused, replied, accepted, verdict}
use Rattle.state.proofs.Places.{map_read}
use Rattle.cache.specs.Begin.{begin_says, begin_state}
use Rattle.cache.specs.Fetch.{fetch_says, fetch_state}
use Rattle.cache.specs.Runs.{Call, begin, fetch, Machine, start, says, after, delivers}
use Rattle.history.specs.Journal.{fetched, deed_of}
use Rattle.history.specs.Firsts.{none, some, Memory, remember, memory, recall, or_else, owed_by}
use Rattle.cache.proofs.Unchanged.{refused_same}
use Rattle.history.proofs.Effects.{length_after}
use Rattle.history.proofs.Sound.{Sound, sound_start, sound_after}
use Rattle.history.proofs.Delivery.{delivers_owed}
use Rattle.situations.specs.Steps.{fetch_answers, fetch_leaves, answers, gives, leaves, leaves_window, same_numbers, same_answer, same_records, as_expected}
use Rattle.situations.specs.Steps.{Expected, unsaid, is, Made, Step, calls, passes}
use Rattle.situations.specs.Situations.{bytes_of, window, dest, store, opens, fetches, turned_away, E}

-- a step passes by equations
same_numbers_lem : (ns : List ℕ) → same_numbers ns ns ≡ true
unfolding same_numbers
same_numbers_lem [] = refl
same_numbers_lem (n ∷ ns) = both (eq-eqb n n refl) (same_numbers_lem ns)

same_answer_lem : (r : Reply) → same_answer r r ≡ true
unfolding same_answer
same_answer_lem (refused n) = eq-eqb n n refl
same_answer_lem (replied ns) = same_numbers_lem ns

step :
    (m : Machine) (t : Made) (ts : List Step) → answers m t.call ≡ t.answer → gives m t.call ≡ t.bytes
    → as_expected same_records t.records (records_of (leaves m t.call).state 0) ≡ true → t.window ≡ unsaid → passes (leaves m t.call) ts ≡ true
    → passes m (calls t ∷ ts) ≡ true
unfolding passes as_expected
step m t ts answer bytes records silent rest =
    let says_it : same_answer t.answer (answers m t.call) ≡ true = rw answer (same_answer_lem t.answer) in
    let gives_it : same_numbers t.bytes (gives m t.call) ≡ true = rw bytes (same_numbers_lem t.bytes) in
    let leaves_it : as_expected same_numbers t.window (leaves_window m t.call) ≡ true = rw silent in
    both (both (both (both says_it gives_it) records) leaves_it) rest

-- the call that fills the command, and the one that finds it full
abbrev fill : Call
fill = fetch 0 0 4096 dest window

abbrev past_full : Call
past_full = fetch 0 4096 1 dest window

-- the states before and after, which no byte changes
abbrev empty : State
empty = with_command fresh_state 0 (open_with [])

abbrev full : State
full = with_command fresh_state 0 (open_with (record { start = 0; len = 4096 } ∷ []))

-- what is answered depends on lengths alone: by the program that is tried, and by the definition, which the laws of history are about
abbrev answer : State → (a n : ℕ) → Reply
answer s a n = fetch_answers s 32768 (length window) (length dest) 0 a n

abbrev said : State → (a n : ℕ) → Reply
said s a n = fetch_says s 32768 (length window) (length dest) 0 a n

-- the three answers of the situation
three_answers :
    (answer empty 0 4096 ≡ replied (4096 ∷ 0 ∷ 0 ∷ [])) × (answer full 4096 1 ≡ refused 23) × (answer full 0 4096 ≡ replied (0 ∷ 4096 ∷ 1 ∷ []))
unfolding window bytes_of dest fetch_says accepted verdict all ascending command_holds holds total held span count_fresh count_held keep lowest highest joined
    looked_up_to looked
three_answers = (refl, refl, refl)

three_said : (accepted (said empty 0 4096) ≡ true) × (accepted (said full 4096 1) ≡ false) × (accepted (said full 0 4096) ≡ true)
unfolding window bytes_of dest fetch_says accepted verdict all ascending command_holds holds total held span count_fresh count_held keep lowest highest joined
three_said = (refl, refl, refl)

fill_next : fetch_leaves empty 32768 (length window) (length dest) 0 0 4096 ≡ full
unfolding window bytes_of dest fetch_state fetch_says accepted verdict all ascending command_holds holds total held span count_fresh count_held keep
    lowest highest joined
fill_next = refl

again_next : fetch_leaves full 32768 (length window) (length dest) 0 0 4096 ≡ full
unfolding window bytes_of dest fetch_state fetch_says accepted verdict all ascending command_holds holds total held span count_fresh count_held keep
    lowest highest joined
again_next = refl

module _ (m : Machine) (s : State) (is : m.state ≡ s) (size : length m.store ≡ 32768) where
  answers_so : (a n : ℕ) → answers m (fetch 0 a n dest window) ≡ answer s a n
  answers_so a n = ap₂ (λ (t : State) (k : ℕ). fetch_answers t k (length window) (length dest) 0 a n) is size

  says_so : (a n : ℕ) → says m (fetch 0 a n dest window) ≡ said s a n
  says_so a n = ap₂ (λ (t : State) (k : ℕ). fetch_says t k (length window) (length dest) 0 a n) is size

  next_state : (leaves m fill).state ≡ fetch_leaves s 32768 (length window) (length dest) 0 0 4096
  next_state = ap₂ (λ (t : State) (k : ℕ). fetch_leaves t k (length window) (length dest) 0 0 4096) is size

-- The bytes

-- the window, read address by address, begins with the bytes of the first addresses
window_size : length window ≡ 16384
unfolding window bytes_of span
window_size = refl

window_front : take 4096 window ≡ bytes_of 0 4096
unfolding window bytes_of span
window_front = refl

window_bytes : map (λ x. get_or window x 0) (span 0 4096) ≡ bytes_of 0 4096
window_bytes = map_read (λ x. get_or window x 0) window 0 0 4096 (omega (arith, window_size)) (λ i h. refl) ∙ window_front

-- what is owed where nothing of the span is known, and where all of it is
first_owed : (mem : Memory) → ((x : ℕ) → mem 0 x ≡ none) → owed_by mem (fetched 0 0 4096 window) ≡ bytes_of 0 4096
unfolding owed_by
first_owed mem unknown = ap (λ (f : ℕ → ℕ). map f (span 0 4096)) (fun_ext λ x. rw (unknown x)) ∙ window_bytes

again_owed : (mem : Memory) → ((x : ℕ) → mem 0 x ≡ none) → owed_by (remember mem (fetched 0 0 4096 window)) (fetched 0 0 4096 window) ≡ bytes_of 0 4096
unfolding owed_by remember
again_owed mem unknown =
    ap (λ (f : ℕ → ℕ). map f (span 0 4096))
    (fun_ext λ x. rw (unknown x) (seen (leb 0 x && ltb x (0 + 4096)) (get_or window x 0)))
    ∙ window_bytes
  where
    seen : (t : Bool) (v : ℕ) → recall (or_else (cond t (some v) none) v) ≡ v
    seen true v = refl
    seen false v = refl

-- The situation

opened : Machine
unfolding store
opened = after (start store) (begin 0)

opened_state : opened.state ≡ empty
unfolding opened store begin_state begin_says accepted verdict all ascending command_holds holds total
opened_state = refl

opened_size : length opened.store ≡ 32768
unfolding opened store
opened_size = length_after (start store) (begin 0)

begun : accepted (says (start store) (begin 0)) ≡ true
unfolding store begin_says accepted verdict all ascending command_holds holds total
begun = refl

opened_sound : Sound opened (remember (memory []) (deed_of true (begin 0)))
unfolding opened
opened_sound = sound_after (start store) (memory []) (begin 0) true begun (sound_start store)

abbrev known : Memory
known = remember (memory []) (deed_of true (begin 0))

unknown : (x : ℕ) → known 0 x ≡ none
unfolding remember memory
unknown x = refl

fill_taken : answers opened fill ≡ replied (4096 ∷ 0 ∷ 0 ∷ [])
fill_taken = answers_so opened empty opened_state opened_size 0 4096 ∙ three_answers.0

fill_accepted : accepted (says opened fill) ≡ true
fill_accepted = ap accepted (says_so opened empty opened_state opened_size 0 4096) ∙ three_said.0

filled : Machine
filled = after opened fill

filled_state : filled.state ≡ full
unfolding filled
filled_state = next_state opened empty opened_state opened_size ∙ fill_next

filled_size : length filled.store ≡ 32768
unfolding filled
filled_size = length_after opened fill ∙ opened_size

filled_sound : Sound filled (remember known (deed_of true fill))
unfolding filled accepted
filled_sound = sound_after opened known fill true fill_accepted opened_sound

fill_delivers : delivers opened fill ≡ bytes_of 0 4096
unfolding accepted
fill_delivers = delivers_owed opened known fill true fill_accepted opened_sound ∙ first_owed known unknown

past_taken : answers filled past_full ≡ refused 23
past_taken = answers_so filled full filled_state filled_size 4096 1 ∙ three_answers.1

past_refused : accepted (says filled past_full) ≡ false
past_refused = ap accepted (says_so filled full filled_state filled_size 4096 1) ∙ three_said.1

past_same : after filled past_full ≡ filled
unfolding accepted
past_same = refused_same filled past_full past_refused

past_delivers : delivers filled past_full ≡ []
unfolding accepted owed_by
past_delivers = delivers_owed filled (remember known (deed_of true fill)) past_full false past_refused filled_sound

again_taken : answers filled fill ≡ replied (0 ∷ 4096 ∷ 1 ∷ [])
again_taken = answers_so filled full filled_state filled_size 0 4096 ∙ three_answers.2

again_accepted : accepted (says filled fill) ≡ true
again_accepted = ap accepted (says_so filled full filled_state filled_size 0 4096) ∙ three_said.2

again_delivers : delivers filled fill ≡ bytes_of 0 4096
unfolding accepted
again_delivers = delivers_owed filled (remember known (deed_of true fill)) fill true again_accepted filled_sound ∙ again_owed known unknown

again_state : (after filled fill).state ≡ full
again_state = next_state filled full filled_state filled_size ∙ again_next

abbrev whole_record : Expected (List Record)
whole_record = is (record { start = 0; len = 4096 } ∷ [])

full_records : (s : State) → s ≡ full → as_expected same_records whole_record (records_of s 0) ≡ true
full_records s e = subst (λ (t : State). as_expected same_records whole_record (records_of t 0) ≡ true) (sym e) (unfold as_expected same_records in refl)

no_more : (m : Machine) → passes m [] ≡ true
unfolding passes
no_more m = refl

again_passes : passes filled (fetches 0 4096 0 4096 1 whole_record ∷ []) ≡ true
unfolding fetches
again_passes = step filled _ [] again_taken again_delivers (full_records _ again_state) refl (no_more _)

past_passes : passes filled (turned_away 4096 1 23 whole_record ∷ fetches 0 4096 0 4096 1 whole_record ∷ []) ≡ true
unfolding turned_away
past_passes =
    step filled _ (fetches 0 4096 0 4096 1 whole_record ∷ []) past_taken past_delivers
    (full_records _ (ap (λ (m : Machine). m.state) past_same ∙ filled_state)) refl
    (subst (λ (m : Machine). passes m (fetches 0 4096 0 4096 1 whole_record ∷ []) ≡ true) (sym past_same) again_passes)

fill_passes : passes opened E ≡ true
unfolding E fetches filled as_expected
fill_passes =
    step opened _ (turned_away 4096 1 23 whole_record ∷ fetches 0 4096 0 4096 1 whole_record ∷ [])
    fill_taken fill_delivers refl refl past_passes

opens_passes : (ts : List Step) → passes opened ts ≡ true → passes (start store) (opens ∷ ts) ≡ true
unfolding passes opened opens store
opens_passes ts h = h

pub e_passes : passes (start store) (opens ∷ E) ≡ true
e_passes = opens_passes E fill_passes
