-- The six calls as C makes them: each is the call's own equation, with its reply in C's form; and the table that ties each to the call of
-- its name in lists of calls, of which the claims speak.
use Rattle.std.specs.Prelude.{ℕ, ◌≡◌, List, false, length}
use Rattle.state.specs.Words.{state_of}
use Rattle.state.specs.Verdict.{accepted}
use Rattle.cache.specs.Begin.{begin_says, begin_state, begin_store}
use Rattle.cache.specs.Fetch.{fetch_says, fetch_state, fetch_store, fetch_dest}
use Rattle.cache.specs.End.{end_says, end_state, end_store}
use Rattle.cache.specs.HostWrite.{host_says, host_window}
use Rattle.cache.specs.OwnWrite.{own_says, own_state, own_store, own_window}
use Rattle.cache.specs.Show.{show_says}
use Rattle.cache.specs.Runs.{begin, fetch, end, host_write, own_write, show, Machine, given, says, after, dest_after, window_after}
use Rattle.replies.specs.declared.calls.Begun.{Begun}
use Rattle.replies.specs.declared.calls.Ended.{Ended}
use Rattle.replies.specs.declared.calls.Fetched.{Fetched}
use Rattle.replies.specs.declared.calls.Written.{Written}
use Rattle.replies.specs.declared.calls.Shown.{Shown}
use Rattle.replies.specs.Replies.{begun_of, ended_of, fetched_of, written_of, shown_of}

pub record Begins (words store : List ℕ) (c : ℕ) (r : Begun) (words' store' : List ℕ) : Type 0 where
  pub answer : r ≡ begun_of (begin_says (state_of words) (length store) c)
  pub state : state_of words' ≡ begin_state (state_of words) (length store) c
  pub kept : accepted (begin_says (state_of words) (length store) c) ≡ false → words' ≡ words
  pub bytes : store' ≡ begin_store (state_of words) store c

pub record Ends (words store : List ℕ) (c : ℕ) (r : Ended) (words' store' : List ℕ) : Type 0 where
  pub answer : r ≡ ended_of (end_says (state_of words) (length store) c)
  pub state : state_of words' ≡ end_state (state_of words) (length store) c
  pub kept : accepted (end_says (state_of words) (length store) c) ≡ false → words' ≡ words
  pub bytes : store' ≡ end_store (state_of words) store c

pub record Fetches (words store window dest : List ℕ) (c a n : ℕ) (r : Fetched) (words' store' dest' : List ℕ) : Type 0 where
  pub answer : r ≡ fetched_of (fetch_says (state_of words) (length store) (length window) (length dest) c a n)
  pub state : state_of words' ≡ fetch_state (state_of words) (length store) (length window) (length dest) c a n
  pub kept : accepted (fetch_says (state_of words) (length store) (length window) (length dest) c a n) ≡ false → words' ≡ words
  pub bytes : store' ≡ fetch_store (state_of words) store window dest c a n
  pub delivered : dest' ≡ fetch_dest (state_of words) store window dest c a n

-- neither state nor store is lent
pub record HostWrites (window : List ℕ) (a : ℕ) (bytes : List ℕ) (r : Written) (window' : List ℕ) : Type 0 where
  pub answer : r ≡ written_of (host_says (length window) a (length bytes))
  pub host : window' ≡ host_window window a bytes

pub record OwnWrites (words store window : List ℕ) (c a : ℕ) (bytes : List ℕ) (r : Written) (words' store' window' : List ℕ) : Type 0 where
  pub answer : r ≡ written_of (own_says (state_of words) (length store) (length window) c a (length bytes))
  pub state : state_of words' ≡ own_state (state_of words) (length store) (length window) c a (length bytes)
  pub kept : accepted (own_says (state_of words) (length store) (length window) c a (length bytes)) ≡ false → words' ≡ words
  pub stored : store' ≡ own_store (state_of words) store window c a bytes
  pub host : window' ≡ own_window (state_of words) store window c a bytes

-- the state alone is lent, and not to be written
pub record Shows (words : List ℕ) (c i : ℕ) (r : Shown) : Type 0 where
  pub answer : r ≡ shown_of (show_says (state_of words) c i)

module _ (words store : List ℕ) where
  abbrev m : Machine
  m = given words store

  -- Each call of the code answers what `says` says of its call, and leaves what the lists of calls hand on: state and store as `after`, a
  -- fetch's destination as `dest_after` and a write's window as `window_after`.
  pub record Tied : Type 0 where
    pub begins : {c : ℕ} {r : Begun} {words' store' : List ℕ} → Begins words store c r words' store'
        → (r ≡ begun_of (says m (begin c))) × (given words' store' ≡ after m (begin c))
    pub fetches : {c a n : ℕ} {window dest : List ℕ} {r : Fetched} {words' store' dest' : List ℕ}
        → Fetches words store window dest c a n r words' store' dest'
        → (r ≡ fetched_of (says m (fetch c a n dest window))) × (given words' store' ≡ after m (fetch c a n dest window))
        × (dest' ≡ dest_after m (fetch c a n dest window))
    pub ends : {c : ℕ} {r : Ended} {words' store' : List ℕ} → Ends words store c r words' store'
        → (r ≡ ended_of (says m (end c))) × (given words' store' ≡ after m (end c))
    pub host_writes : {a : ℕ} {bytes window : List ℕ} {r : Written} {window' : List ℕ} → HostWrites window a bytes r window'
        → (r ≡ written_of (says m (host_write a bytes window))) × (m ≡ after m (host_write a bytes window))
        × (window' ≡ window_after m (host_write a bytes window))
    pub own_writes : {c a : ℕ} {bytes window : List ℕ} {r : Written} {words' store' window' : List ℕ}
        → OwnWrites words store window c a bytes r words' store' window'
        → (r ≡ written_of (says m (own_write c a bytes window))) × (given words' store' ≡ after m (own_write c a bytes window))
        × (window' ≡ window_after m (own_write c a bytes window))
    pub shows : {c i : ℕ} {r : Shown} → Shows words c i r → (r ≡ shown_of (says m (show c i))) × (m ≡ after m (show c i))

abbrev pub CallsTied : Type 0
CallsTied = (words store : List ℕ) → Tied words store
