-- A span comes to be held, as the code does it for a fetch and for an own write: what is asked, and what it leaves of words and store.
use Rattle.std.specs.Prelude.{ℕ, ◌+◌, ◌≤◌, ◌<◌, ◌≡◌, List, true, length, Result, Ok, Err}
use Rattle.state.specs.Limits.{command_limit, record_limit, held_limit, transfer_limit, window_limit, store_size, state_words}
use Rattle.state.specs.Records.{place, total, fresh, joined, looked}
use Rattle.state.specs.State.{records_of, is_open, open_with, with_command, holds}
use Rattle.state.specs.Words.{state_of}
use Rattle.store.specs.Store.{location, packed, from, sees}
use Rattle.state.specs.declared.refusal.Refusal.{Refusal}
use Rattle.state.specs.declared.refusal.Refusal.TheVariants.{TooManyBytes, TooManyRecords}
use Rattle.holding.specs.declared.Holding.{Holding}

-- what the checks up to 21 have seen to, and that the source of the bytes, whose first has the address `base`, has the span
pub record MayHold (words : List ℕ) (store_len c a n base source_len : ℕ) : Type 0 where
  pub sized : length words ≡ state_words
  pub size : store_len ≡ store_size
  pub command : c < command_limit
  pub whole : holds (state_of words) ≡ true
  pub opened : is_open (state_of words) c ≡ true
  pub some : 0 < n
  pub short : n ≤ transfer_limit
  pub inside : a + n ≤ window_limit
  pub starts : base ≤ a
  pub ends : a + n ≤ base + source_len

-- there is room: how many addresses were not held, where the first one stands, how many records were looked at, and the bytes packed as the
-- command sees them with that source
pub record Held (words store : List ℕ) (c a n base : ℕ) (source : List ℕ) (new at look : ℕ) (words' store' : List ℕ) : Type 0 where
  pub bytes : total (records_of (state_of words) c) + fresh (records_of (state_of words) c) a n ≤ held_limit
  pub records : length (joined (records_of (state_of words) c) a n) ≤ record_limit
  pub counted : new ≡ fresh (records_of (state_of words) c) a n
  pub stands : at ≡ place (joined (records_of (state_of words) c) a n) a
  pub looks : look ≡ looked (records_of (state_of words) c) a n
  pub state : state_of words' ≡ with_command (state_of words) c (open_with (joined (records_of (state_of words) c) a n))
  pub stored :
      store'
      ≡ packed store c (joined (records_of (state_of words) c) a n) (sees (records_of (state_of words) c) (location (state_of words) c) store (from base source))

-- 23: too many bytes, and nothing has changed
pub record BytesFull (words store : List ℕ) (c a n : ℕ) (words' store' : List ℕ) : Type 0 where
  pub many : held_limit < total (records_of (state_of words) c) + fresh (records_of (state_of words) c) a n
  pub same_words : words' ≡ words
  pub same_store : store' ≡ store

-- 24: too many records, and nothing has changed
pub record RecordsFull (words store : List ℕ) (c a n : ℕ) (words' store' : List ℕ) : Type 0 where
  pub bytes : total (records_of (state_of words) c) + fresh (records_of (state_of words) c) a n ≤ held_limit
  pub many : record_limit < length (joined (records_of (state_of words) c) a n)
  pub same_words : words' ≡ words
  pub same_store : store' ≡ store

-- 23 and 24 are the only refusals
abbrev pub Holds : (words store : List ℕ) (c a n base : ℕ) (source : List ℕ) → Result Holding Refusal → (words' store' : List ℕ) → Type 0
Holds words store c a n base source (Ok h) words' store' = Held words store c a n base source h.fresh h.place h.looked words' store'
Holds words store c a n base source (Err TooManyBytes) words' store' = BytesFull words store c a n words' store'
Holds words store c a n base source (Err TooManyRecords) words' store' = RecordsFull words store c a n words' store'
Holds words store c a n base source (Err _) words' store' = ⊥
