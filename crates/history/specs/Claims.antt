-- The claims about whole lists of calls, refused ones included, from the fresh state and a store of any bytes and any length; and
-- at the end those about one call, whatever state and store it is given. Demands are those of docs/EVIDENCE.md, and 01 is the agreed
-- scope and 02 the agreed changes (docs/RULES.md has their rules, and says what Midas is).
use Rattle.std.specs.Prelude.{ℕ, ◌+◌, ◌-◌, ◌<◌, ◌≡◌, List, [], ◌∷◌, map, Bool, true, false, not, ◌&&◌, ◌↔◌, ◌≢◌, eqb, length, get_or, take, drop, replicate}
use Rattle.octets.specs.Lists.{all, part}
use Rattle.state.specs.Limits.{held_limit}
use Rattle.state.specs.Records.{in_span, addresses, total}
use Rattle.state.specs.Runs.{runs}
use Rattle.state.specs.State.{holds, has_shape, command_of, records_of, is_open}
use Rattle.state.specs.Verdict.{refused, replied, accepted}
use Rattle.cache.specs.Claims.{Unchanged}
use Rattle.store.specs.Store.{part_start, location, packed_bytes, from}
use Rattle.cache.specs.Runs.{Call, begin, fetch, end, host_write, own_write, show, Machine, start, along, ran, says, state_after, store_after, after}
use Rattle.cache.specs.Runs.{given, dest_after, window_after, delivers}
use Rattle.history.specs.Journal.{Event, event, journal, told, backwards, Deed, began, fetched, wrote, ended, other, deed}
use Rattle.history.specs.Firsts.{Memory, memory, value_since, held_since, firsts, recall, owed}
use Rattle.history.specs.Counts.{counts_replied, counts_owed, bytes_replied, sum_owed}
use Rattle.history.specs.Stores.{store_owed}

-- Demand 2. The delivery rule: the bytes delivered at each call are those that the command last wrote since its begin, and elsewhere those that
-- its first fetches saw.
abbrev pub DeliveryRule : Type 0
DeliveryRule = (store : List ℕ) (ps : List Call) → along delivers (start store) ps ≡ told owed [] (journal store ps)

-- Fresh is the number of first fetches at each accepted fetch, and replayed that of the addresses fetched or written before; the third number is
-- how many are looked at of the runs of all addresses fetched or written before. An accepted own write replies its number of bytes, and that of its
-- addresses neither fetched nor written before.
abbrev pub CountsTie : Type 0
CountsTie = (store : List ℕ) (ps : List Call) → told counts_replied [] (journal store ps) ≡ told counts_owed [] (journal store ps)

-- The byte number of each accepted end is all that the command's accepted fetches were replied as fresh since its begin, and its own writes as
-- not held before, added up.
abbrev pub EndSum : Type 0
EndSum = (store : List ℕ) (ps : List Call) → told bytes_replied [] (journal store ps) ≡ told sum_owed [] (journal store ps)

-- What the memory has is what the search back through the calls finds: the value last written, else the one first fetched.
abbrev pub MemorySearch : Type 0
MemorySearch = (past : List Event) (c x : ℕ) → memory past c x ≡ value_since past c x

-- Records, F-1's rule told from the calls: after every list the records of an open command are the longest unbroken runs of the addresses
-- that it has fetched or written since its begin.
abbrev pub RecordsTold : Type 0
RecordsTold =
    (store : List ℕ) (ps : List Call) (c : ℕ) → is_open (ran (start store) ps).state c ≡ true
    → records_of (ran (start store) ps).state c ≡ runs (held_since (backwards [] (journal store ps)) c)

-- Stored bytes: after every list the front of an open command's part has, for each address of its records, the value last written there, else
-- the one first fetched, packed in the order of the addresses.
abbrev pub memory_after : List ℕ → List Call → Memory
memory_after store ps = memory (backwards [] (journal store ps))

pub record Holding (store : List ℕ) (ps : List Call) (c : ℕ) : Type 0 where
  pub within : (k : ℕ) → k < total (records_of (ran (start store) ps).state c)
      → location (ran (start store) ps).state c k < length (ran (start store) ps).store
  pub bytes :
      packed_bytes (ran (start store) ps).state (ran (start store) ps).store c (total (records_of (ran (start store) ps).state c))
      ≡ map (λ x. recall (memory_after store ps c x)) (addresses (records_of (ran (start store) ps).state c))

abbrev pub StoredBytes : Type 0
StoredBytes = (store : List ℕ) (ps : List Call) (c : ℕ) → is_open (ran (start store) ps).state c ≡ true → Holding store ps c

-- The whole store: after every list it is, byte for byte, what the store at the start and the calls say. A part never begun is as it was
-- given, that of an open command has its held bytes and then zeros, and that of an ended one is zero.
abbrev pub StoreTold : Type 0
StoreTold = (store : List ℕ) (ps : List Call) → (ran (start store) ps).store ≡ store_owed store (backwards [] (journal store ps))

-- Midas' invariant: where a command fetches an address twice, and nothing between the two renews the address for it, both deliver
-- the same value there. What renews it is an accepted begin of the command, at every address, and an accepted own write of the command
-- there; a write elsewhere does not. (An end between them does not matter: the other fetch is accepted only after another begin.)
abbrev pub renews : (c x : ℕ) → Deed → Bool
renews c x (began d) = eqb c d
renews c x (fetched d a n window) = false
renews c x (wrote d a bytes) = eqb c d && in_span a (length bytes) x
renews c x (ended d) = false
renews c x other = false

module _ (store : List ℕ) (before : List Call) (c a n : ℕ) (dest window : List ℕ) (between : List Call) (a' n' : ℕ) (dest' window' : List ℕ) where
  abbrev pub one_fetch : Call
  one_fetch = fetch c a n dest window

  abbrev pub other_fetch : Call
  other_fetch = fetch c a' n' dest' window'

  abbrev pub before_one : Machine
  before_one = ran (start store) before

  abbrev pub before_other : Machine
  before_other = ran (after before_one one_fetch) between

  abbrev pub SameValue : Type 0
  SameValue =
      (x : ℕ) → in_span a n x ≡ true → in_span a' n' x ≡ true
      → accepted (says before_one one_fetch) ≡ true → accepted (says before_other other_fetch) ≡ true
      → all (λ e. not (renews c x (deed e))) (along event (after before_one one_fetch) between) ≡ true
      → get_or (delivers before_one one_fetch) (x - a) 0 ≡ get_or (delivers before_other other_fetch) (x - a') 0

abbrev pub SameValueRule : Type 0
SameValueRule =
    (store : List ℕ) (before : List Call) (c a n : ℕ) (dest window : List ℕ) (between : List Call) (a' n' : ℕ) (dest' window' : List ℕ)
    → SameValue store before c a n dest window between a' n' dest' window'

-- And the value that an own write gives: where a command writes an address and then fetches it, and nothing between the two renews the address
-- for it, the fetch delivers the written byte there.
module _ (store : List ℕ) (before : List Call) (c a : ℕ) (bytes window : List ℕ) (between : List Call) (a' n' : ℕ) (dest' window' : List ℕ) where
  abbrev pub the_write : Call
  the_write = own_write c a bytes window

  abbrev pub the_fetch : Call
  the_fetch = fetch c a' n' dest' window'

  abbrev pub before_write : Machine
  before_write = ran (start store) before

  abbrev pub before_fetch : Machine
  before_fetch = ran (after before_write the_write) between

  abbrev pub WrittenValue : Type 0
  WrittenValue =
      (x : ℕ) → in_span a (length bytes) x ≡ true → in_span a' n' x ≡ true
      → accepted (says before_write the_write) ≡ true → accepted (says before_fetch the_fetch) ≡ true
      → all (λ e. not (renews c x (deed e))) (along event (after before_write the_write) between) ≡ true
      → get_or (delivers before_fetch the_fetch) (x - a') 0 ≡ from a bytes x

abbrev pub WrittenValueRule : Type 0
WrittenValueRule =
    (store : List ℕ) (before : List Call) (c a : ℕ) (bytes window : List ℕ) (between : List Call) (a' n' : ℕ) (dest' window' : List ℕ)
    → WrittenValue store before c a bytes window between a' n' dest' window'

-- Demand 3, the equal-runs rule. What two runs have in common is all that is given but the bytes of windows and of host writes;
-- of these it is the length.
abbrev pub blank : List ℕ → List ℕ
blank bytes = replicate (length bytes) 0

unfoldable pub common : Call → Call
common (begin c) = begin c
common (fetch c a n dest window) = fetch c a n dest (blank window)
common (end c) = end c
common (host_write a bytes window) = host_write a (blank bytes) (blank window)
common (own_write c a bytes window) = own_write c a bytes (blank window)
common (show c i) = show c i

-- Answers and states are equal after every call in either case. Answers and delivered bytes are equal exactly when the first
-- fetches agree, and then the whole stores are equal after every call. A fetch of a byte that the command holds through an own write is no
-- first fetch, so of such a byte nothing is asked.
pub record EqualRuns (store : List ℕ) (ps qs : List Call) : Type 0 where
  pub answers : along says (start store) ps ≡ along says (start store) qs
  pub states : along state_after (start store) ps ≡ along state_after (start store) qs
  pub exactly :
      ((along says (start store) ps ≡ along says (start store) qs) × (along delivers (start store) ps ≡ along delivers (start store) qs))
      ↔ (told firsts [] (journal store ps) ≡ told firsts [] (journal store qs))
  pub stores :
      told firsts [] (journal store ps) ≡ told firsts [] (journal store qs)
      → along store_after (start store) ps ≡ along store_after (start store) qs

abbrev pub EqualRunsRule : Type 0
EqualRunsRule = (store : List ℕ) (ps qs : List Call) → map common ps ≡ map common qs → EqualRuns store ps qs

-- The same for more pairs of runs: of a destination, too, the length alone need be common. So what stood in a destination before a fetch
-- shows in no answer, no state, no delivered byte and no store.
abbrev pub blank_dest : Call → Call
blank_dest (begin c) = begin c
blank_dest (fetch c a n dest window) = fetch c a n (blank dest) window
blank_dest (end c) = end c
blank_dest (host_write a bytes window) = host_write a bytes window
blank_dest (own_write c a bytes window) = own_write c a bytes window
blank_dest (show c i) = show c i

abbrev pub common_lengths : Call → Call
common_lengths p = blank_dest (common p)

abbrev pub EqualRunsLengths : Type 0
EqualRunsLengths = (store : List ℕ) (ps qs : List Call) → map common_lengths ps ≡ map common_lengths qs → EqualRuns store ps qs

-- After every list the state holds together, in the shape that words give a state, and so the answer 20 is never given.
abbrev pub AlwaysHolds : Type 0
AlwaysHolds =
    (store : List ℕ) (ps : List Call) → (holds (ran (start store) ps).state ≡ true) × (has_shape (ran (start store) ps).state ≡ true)

abbrev pub NeverBroken : Type 0
NeverBroken = (store : List ℕ) (ps : List Call) (p : Call) → says (ran (start store) ps) p ≢ refused 20

-- 01's rule that a call leaves the other commands alone, whatever state and store it is given. A begin, a fetch, an own write and an end may
-- change the command that they name; a host write and a show change none.
abbrev pub may_change : Call → ℕ → Bool
may_change (begin c) d = eqb c d
may_change (fetch c a n dest window) d = eqb c d
may_change (end c) d = eqb c d
may_change (host_write a bytes window) d = false
may_change (own_write c a bytes window) d = eqb c d
may_change (show c i) d = false

abbrev pub part_in : Machine → ℕ → List ℕ
part_in m c = part m.store (part_start c) held_limit

pub record Alone (m : Machine) (p : Call) (d : ℕ) : Type 0 where
  pub command : command_of (after m p).state d ≡ command_of m.state d
  pub bytes : part_in (after m p) d ≡ part_in m d

abbrev pub Isolation : Type 0
Isolation = (m : Machine) (p : Call) (d : ℕ) → may_change p d ≡ false → Alone m p d

-- 01's rule on length 0, with F-6: it changes nothing and replies 0, 0 and 0
pub record Empty (m : Machine) (c a : ℕ) (dest window : List ℕ) : Type 0 where
  pub unchanged : Unchanged m (fetch c a 0 dest window)
  pub reply : accepted (says m (fetch c a 0 dest window)) ≡ true → says m (fetch c a 0 dest window) ≡ replied (0 ∷ 0 ∷ 0 ∷ [])

abbrev pub EmptyFetch : Type 0
EmptyFetch = (words store : List ℕ) (c a : ℕ) (dest window : List ℕ) → Empty (given words store) c a dest window

-- and the same of an own write of no bytes: it writes nothing, holds nothing, and replies 0 and 0
pub record EmptyWritten (m : Machine) (c a : ℕ) (window : List ℕ) : Type 0 where
  pub unchanged : Unchanged m (own_write c a [] window)
  pub reply : accepted (says m (own_write c a [] window)) ≡ true → says m (own_write c a [] window) ≡ replied (0 ∷ 0 ∷ [])

abbrev pub EmptyWrite : Type 0
EmptyWrite = (words store : List ℕ) (c a : ℕ) (window : List ℕ) → EmptyWritten (given words store) c a window

-- 01's rule on what a fetch leaves untouched, of an own write too: the store before the command's part and from the new held count on
pub record StoreBeyond (m : Machine) (p : Call) (c : ℕ) : Type 0 where
  pub before : take (part_start c) (store_after m p) ≡ take (part_start c) m.store
  pub behind :
      drop (part_start c + total (records_of (state_after m p) c)) (store_after m p)
      ≡ drop (part_start c + total (records_of (state_after m p) c)) m.store

-- and past the span the destination
pub record Beyond (m : Machine) (c a n : ℕ) (dest window : List ℕ) : Type 0 where
  pub destination : drop n (dest_after m (fetch c a n dest window)) ≡ drop n dest
  pub store : StoreBeyond m (fetch c a n dest window) c

-- and of an own write the window before the span and past it
pub record BeyondWritten (m : Machine) (c a : ℕ) (bytes window : List ℕ) : Type 0 where
  pub below : take a (window_after m (own_write c a bytes window)) ≡ take a window
  pub above : drop (a + length bytes) (window_after m (own_write c a bytes window)) ≡ drop (a + length bytes) window
  pub store : StoreBeyond m (own_write c a bytes window) c

pub record Untouched (m : Machine) : Type 0 where
  pub fetched : (c a n : ℕ) (dest window : List ℕ) → Beyond m c a n dest window
  pub written : (c a : ℕ) (bytes window : List ℕ) → BeyondWritten m c a bytes window

abbrev pub BeyondUnchanged : Type 0
BeyondUnchanged = (words store : List ℕ) → Untouched (given words store)
