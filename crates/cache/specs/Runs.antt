-- A list of calls, run one after the other (01, the agreed scope, "Two runs of one list"; docs/RULES.md has its rules).
use Rattle.std.specs.Prelude.{ℕ, List, [], ◌∷◌, cond, length, take}
use Rattle.state.specs.State.{State, fresh_state}
use Rattle.state.specs.Words.{state_of}
use Rattle.state.specs.Verdict.{Reply, accepted}
use Rattle.cache.specs.Begin.{begin_says, begin_state, begin_store}
use Rattle.cache.specs.Fetch.{fetch_says, fetch_state, fetch_store, fetch_dest}
use Rattle.cache.specs.End.{end_says, end_state, end_store}
use Rattle.cache.specs.HostWrite.{host_says, host_window}
use Rattle.cache.specs.OwnWrite.{own_says, own_state, own_store, own_window}
use Rattle.cache.specs.Show.{show_says}

-- 01's place in a list: a call with all that it is given. Its window is an argument like the others, so that it may hold anything,
-- what an earlier call left in it or not.
pub data Call : Type 0 where
  begin : (c : ℕ) → Call
  fetch : (c a n : ℕ) (dest window : List ℕ) → Call
  end : (c : ℕ) → Call
  host_write : (a : ℕ) (bytes window : List ℕ) → Call
  own_write : (c a : ℕ) (bytes window : List ℕ) → Call
  show : (c i : ℕ) → Call

-- what is handed on from call to call
pub record Machine : Type 0 where
  pub state : State
  pub store : List ℕ

-- what the first call gets: the fresh state, and a store of which nothing is asked
abbrev pub start : List ℕ → Machine
start store = record { state = fresh_state; store = store }

-- every state and store that a call can be given: any words, and any bytes
abbrev pub given : (words store : List ℕ) → Machine
given words store = record { state = state_of words; store = store }

-- 01's answer
abbrev pub says : Machine → Call → Reply
says m (begin c) = begin_says m.state (length m.store) c
says m (fetch c a n dest window) = fetch_says m.state (length m.store) (length window) (length dest) c a n
says m (end c) = end_says m.state (length m.store) c
says m (host_write a bytes window) = host_says (length window) a (length bytes)
says m (own_write c a bytes window) = own_says m.state (length m.store) (length window) c a (length bytes)
says m (show c i) = show_says m.state c i

-- what a call leaves; a host write and a show hand on what they got
abbrev pub state_after : Machine → Call → State
state_after m (begin c) = begin_state m.state (length m.store) c
state_after m (fetch c a n dest window) = fetch_state m.state (length m.store) (length window) (length dest) c a n
state_after m (end c) = end_state m.state (length m.store) c
state_after m (host_write a bytes window) = m.state
state_after m (own_write c a bytes window) = own_state m.state (length m.store) (length window) c a (length bytes)
state_after m (show c i) = m.state

abbrev pub store_after : Machine → Call → List ℕ
store_after m (begin c) = begin_store m.state m.store c
store_after m (fetch c a n dest window) = fetch_store m.state m.store window dest c a n
store_after m (end c) = end_store m.state m.store c
store_after m (host_write a bytes window) = m.store
store_after m (own_write c a bytes window) = own_store m.state m.store window c a bytes
store_after m (show c i) = m.store

abbrev pub after : Machine → Call → Machine
after m p = record { state = state_after m p; store = store_after m p }

-- the destination and the window lent to a call, and each after it; where none is lent, no bytes
abbrev pub dest_given : Call → List ℕ
dest_given (begin c) = []
dest_given (fetch c a n dest window) = dest
dest_given (end c) = []
dest_given (host_write a bytes window) = []
dest_given (own_write c a bytes window) = []
dest_given (show c i) = []

abbrev pub dest_after : Machine → Call → List ℕ
dest_after m (begin c) = []
dest_after m (fetch c a n dest window) = fetch_dest m.state m.store window dest c a n
dest_after m (end c) = []
dest_after m (host_write a bytes window) = []
dest_after m (own_write c a bytes window) = []
dest_after m (show c i) = []

abbrev pub window_given : Call → List ℕ
window_given (begin c) = []
window_given (fetch c a n dest window) = window
window_given (end c) = []
window_given (host_write a bytes window) = window
window_given (own_write c a bytes window) = window
window_given (show c i) = []

abbrev pub window_after : Machine → Call → List ℕ
window_after m (begin c) = []
window_after m (fetch c a n dest window) = window
window_after m (end c) = []
window_after m (host_write a bytes window) = host_window window a bytes
window_after m (own_write c a bytes window) = own_window m.state m.store window c a bytes
window_after m (show c i) = []

-- how many bytes a call asks to be delivered
abbrev pub wanted : Call → ℕ
wanted (begin c) = 0
wanted (fetch c a n dest window) = n
wanted (end c) = 0
wanted (host_write a bytes window) = 0
wanted (own_write c a bytes window) = 0
wanted (show c i) = 0

-- 01's delivered bytes: the front of the destination after an accepted fetch, as much of it as was asked for
abbrev pub delivers : Machine → Call → List ℕ
delivers m p = cond (accepted (says m p)) (take (wanted p) (dest_after m p)) []

-- what f gives at each place of a list
unfoldable pub along : {A : Type 0} → (Machine → Call → A) → Machine → List Call → List A
along f m [] = []
along f m (p ∷ ps) = f m p ∷ along f (after m p) ps

-- the machine after a whole list
unfoldable pub ran : Machine → List Call → Machine
ran m [] = m
ran m (p ∷ ps) = ran (after m p) ps
