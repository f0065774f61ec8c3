-- How a situation is written down and tested: calls, each with the answer and the delivered bytes that it must give, and with the
-- records of command 0 and the window after it where 01 (the agreed scope; docs/RULES.md has its rules) speaks of them; and frames, each
-- with what reading it must answer.
use Rattle.std.specs.Prelude.{ℕ, List, [], ◌∷◌, Bool, true, false, ◌&&◌, eqb, length}
use Rattle.octets.specs.Lists.{all}
use Rattle.state.specs.declared.Record.{Record}
use Rattle.state.specs.Records.{held, span, addresses, total, place, count_fresh, count_held, keep, lowest, highest, joined, looked_up_to, looked}
use Rattle.state.specs.State.{State, records_of, ascending, command_holds, holds}
use Rattle.state.specs.Verdict.{Reply, refused, replied, accepted, verdict}
use Rattle.cache.specs.Begin.{begin_says, begin_state, begin_store}
use Rattle.cache.specs.Fetch.{fetch_says, fetch_state, fetch_store, fetch_dest}
use Rattle.cache.specs.End.{end_says, end_state, end_store}
use Rattle.cache.specs.HostWrite.{host_says, host_window}
use Rattle.cache.specs.OwnWrite.{own_says, own_state, own_store, own_window}
use Rattle.frames.specs.Layout.{fields_of}
use Rattle.frames.specs.Kinds.{data_size}
use Rattle.frames.specs.Checks.{not_zero, zero_broken}
use Rattle.frames.specs.Read.{fields_say, read_says}
use Rattle.cache.specs.Runs.{Call, begin, fetch, end, host_write, own_write, show, Machine, says, after, state_after, store_after, window_after, delivers}

-- The program that the situations try: the definitions of the calls and of the reader. What the situations are about stands on a line of its own,
-- where a wrong program can be put in its place: then a situation fails.

-- what a fetch answers, delivers and leaves of the state
module _ (s : State) (store_len window_len dest_len c a n : ℕ) where
  abbrev pub fetch_answers : Reply
  fetch_answers = fetch_says s store_len window_len dest_len c a n

  abbrev pub fetch_leaves : State
  fetch_leaves = fetch_state s store_len window_len dest_len c a n

abbrev pub fetch_gives : Machine → (c a n : ℕ) (dest window : List ℕ) → List ℕ
fetch_gives m c a n dest window = delivers m (fetch c a n dest window)

-- the window and the store after an own write
module _ (s : State) (store window : List ℕ) (c a : ℕ) (bytes : List ℕ) where
  abbrev pub own_leaves : List ℕ
  own_leaves = own_window s store window c a bytes

  abbrev pub own_keeps : List ℕ
  own_keeps = own_store s store window c a bytes

-- what reading a frame answers
abbrev pub read_answers : (frame : List ℕ) → Reply
read_answers frame = read_says frame

-- what any call answers, delivers and leaves: the machine, and the window that it was lent
abbrev pub answers : Machine → Call → Reply
answers m (begin c) = says m (begin c)
answers m (fetch c a n dest window) = fetch_answers m.state (length m.store) (length window) (length dest) c a n
answers m (end c) = says m (end c)
answers m (host_write a bytes window) = says m (host_write a bytes window)
answers m (own_write c a bytes window) = says m (own_write c a bytes window)
answers m (show c i) = says m (show c i)

abbrev pub gives : Machine → Call → List ℕ
gives m (begin c) = delivers m (begin c)
gives m (fetch c a n dest window) = fetch_gives m c a n dest window
gives m (end c) = delivers m (end c)
gives m (host_write a bytes window) = delivers m (host_write a bytes window)
gives m (own_write c a bytes window) = delivers m (own_write c a bytes window)
gives m (show c i) = delivers m (show c i)

abbrev pub leaves : Machine → Call → Machine
leaves m (begin c) = after m (begin c)
leaves m (fetch c a n dest window) = record {
  state = fetch_leaves m.state (length m.store) (length window) (length dest) c a n;
  store = store_after m (fetch c a n dest window);
}
leaves m (end c) = after m (end c)
leaves m (host_write a bytes window) = after m (host_write a bytes window)
leaves m (own_write c a bytes window) = record {
  state = state_after m (own_write c a bytes window);
  store = own_keeps m.state m.store window c a bytes;
}
leaves m (show c i) = after m (show c i)

abbrev pub leaves_window : Machine → Call → List ℕ
leaves_window m (begin c) = window_after m (begin c)
leaves_window m (fetch c a n dest window) = window_after m (fetch c a n dest window)
leaves_window m (end c) = window_after m (end c)
leaves_window m (host_write a bytes window) = window_after m (host_write a bytes window)
leaves_window m (own_write c a bytes window) = own_leaves m.state m.store window c a bytes
leaves_window m (show c i) = window_after m (show c i)

-- what must be so after a step, or nothing said of it
pub data Expected (A : Type 0) : Type 0 where
  unsaid : Expected A
  is : A → Expected A

pub record Made : Type 0 where
  pub call : Call
  pub answer : Reply
  pub bytes : List ℕ
  pub records : Expected (List Record)
  pub window : Expected (List ℕ)

pub data Step : Type 0 where
  calls : Made → Step
  reads : (frame : List ℕ) (answer : Reply) → Step

unfoldable pub same_numbers : List ℕ → List ℕ → Bool
same_numbers [] [] = true
same_numbers [] (y ∷ ys) = false
same_numbers (x ∷ xs) [] = false
same_numbers (x ∷ xs) (y ∷ ys) = eqb x y && same_numbers xs ys

unfoldable pub same_answer : Reply → Reply → Bool
unfolding same_numbers
same_answer (refused m) (refused n) = eqb m n
same_answer (refused m) (replied ns) = false
same_answer (replied ms) (refused n) = false
same_answer (replied ms) (replied ns) = same_numbers ms ns

unfoldable pub same_records : List Record → List Record → Bool
same_records [] [] = true
same_records [] (s ∷ ss) = false
same_records (r ∷ rs) [] = false
same_records (r ∷ rs) (s ∷ ss) = eqb r.start s.start && eqb r.len s.len && same_records rs ss

unfoldable pub as_expected : {A : Type 0} → (A → A → Bool) → Expected A → A → Bool
as_expected same unsaid x = true
as_expected same (is y) x = same y x

-- does each step give what it must, the machine handed on from one to the next?
unfoldable pub passes : Machine → List Step → Bool
unfolding same_numbers same_answer same_records as_expected read_says fields_say fields_of data_size not_zero zero_broken host_says host_window own_says
    own_state own_store own_window begin_says begin_state begin_store end_says end_state end_store fetch_says fetch_state fetch_store fetch_dest accepted verdict
    all ascending command_holds holds total held span count_fresh count_held keep lowest highest joined addresses place looked_up_to looked
passes m [] = true
passes m (reads frame answer ∷ ts) = same_answer answer (read_answers frame) && passes m ts
passes m (calls t ∷ ts) =
    let next = leaves m t.call in
    same_answer t.answer (answers m t.call) && same_numbers t.bytes (gives m t.call)
    && as_expected same_records t.records (records_of next.state 0) && as_expected same_numbers t.window (leaves_window m t.call) && passes next ts
