-- The marked walks (requests F-5 and F-6 of 02, the agreed changes; docs/RULES.md has their rules). Each starts with command 0 open and no records,
-- unless it says otherwise, and is lent a scratch of 128 bytes, 18 places for addresses and 17 for lengths.
use Rattle.std.specs.Prelude.{ℕ, ◌+◌, ◌-◌, ◌*◌, ◌/◌, ◌%◌, ◌^◌, ◌≡◌, List, [], ◌∷◌, ◌++◌, map, true, false, length, replicate}
use Rattle.octets.specs.Lists.{all}
use Rattle.state.specs.declared.Record.{Record}
use Rattle.state.specs.Records.{span}
use Rattle.state.specs.State.{State, fresh_state, open_with, with_command}
use Rattle.state.specs.Verdict.{refused, replied}
use Rattle.cache.specs.Begin.{begin_says, begin_state, begin_store}
use Rattle.cache.specs.OwnWrite.{own_says, own_state, own_store}
use Rattle.cache.specs.Runs.{begin, own_write, Machine, start, ran}
use Rattle.prp.specs.Pages.{Walk, scratch_least}
use Rattle.prp.specs.Walk.{walk_after}
use Rattle.markedwalks.specs.Marks.{Marked, passes}

-- the bytes of a list of entries, eight each, from the least byte on
unfoldable pub entry_of : ℕ → List ℕ
unfolding span
entry_of x = map (λ k. (x / 256 ^ k) % 256) (span 0 8)

unfoldable pub entries_of : List ℕ → List ℕ
unfolding entry_of
entries_of [] = []
entries_of (x ∷ xs) = entry_of x ++ entries_of xs

-- the number behind the largest address of 64 bits
abbrev pub top : ℕ
top = 2 ^ 64

-- a window of one page with these entries at its front and those at its end
unfoldable pub framed : (front back : List ℕ) → List ℕ
unfolding entries_of
framed front back = entries_of front ++ replicate (4096 - 8 * (length front + length back)) 0 ++ entries_of back

-- 01's a+n
abbrev ◌∔◌ : ℕ → ℕ → Record
a ∔ n = record { start = a; len = n }

infix 80 ◌∔◌
-- a store, of which nothing is asked but its size
unfoldable pub store : List ℕ
store = replicate 32768 5

-- command 0 open, with no records; and with these
unfoldable pub opened : Machine
unfolding store ran begin_says begin_state begin_store
opened = ran (start store) (begin 0 ∷ [])

unfoldable pub holding : List Record → Machine
unfolding store
holding rs = record { state = with_command fresh_state 0 (open_with rs); store = store }

-- command 0's walk
abbrev pub walk_of : (prp1 prp2 transfer : ℕ) (window : List ℕ) → Walk
walk_of prp1 prp2 transfer window = record {
  command = 0;
  prp1 = prp1;
  prp2 = prp2;
  transfer = transfer;
  least = scratch_least;
  scratch = replicate 128 7;
  address_list = replicate 18 9;
  length_list = replicate 17 8;
  window = window;
}

-- a walk that gives these spans after its list fetches looked at so many records, one that is refused once PRP1 is judged, and one that is refused
-- before
module _ (m : Machine) (w : Walk) where
  abbrev pub gives : (addresses lengths : List ℕ) (looked : ℕ) → List Record → Marked
  gives addresses lengths looked rs = record {
    before = m;
    walk = w;
    answer = replied (length addresses ∷ looked ∷ []);
    addresses = addresses;
    lengths = lengths;
    records = rs;
    zeroed = true;
  }

  abbrev pub gets : ℕ → List Record → Marked
  gets n rs = record { before = m; walk = w; answer = refused n; addresses = []; lengths = []; records = rs; zeroed = true }

  abbrev pub gets_early : ℕ → Marked
  gets_early n = record { before = m; walk = w; answer = refused n; addresses = []; lengths = []; records = []; zeroed = false }

-- No page behind the first, so that PRP2 may be anything: here it is odd. A whole page; one byte; from inside the page to its end; the last four bytes
-- below 2^64.
unfoldable pub one_page : List Marked
unfolding opened
one_page =
    gives opened (walk_of 4096 3 4096 []) (4096 ∷ []) (4096 ∷ []) 0 []
    ∷ gives opened (walk_of 4096 3 1 []) (4096 ∷ []) (1 ∷ []) 0 []
    ∷ gives opened (walk_of 4100 3 4092 []) (4100 ∷ []) (4092 ∷ []) 0 []
    ∷ gives opened (walk_of (top - 4) 3 4 []) ((top - 4) ∷ []) (4 ∷ []) 0 []
    ∷ []

-- One page behind the first, PRP2. One byte more than a page, on the next page, which is not merged; two whole pages, the second of which is 0; one
-- byte more than the page of a PRP1 inside it.
unfoldable pub two_pages : List Marked
unfolding opened
two_pages =
    gives opened (walk_of 4096 8192 4097 []) (4096 ∷ 8192 ∷ []) (4096 ∷ 1 ∷ []) 0 []
    ∷ gives opened (walk_of 4096 0 8192 []) (4096 ∷ 0 ∷ []) (4096 ∷ 4096 ∷ []) 0 []
    ∷ gives opened (walk_of 4100 20480 4093 []) (4100 ∷ 20480 ∷ []) (4092 ∷ 1 ∷ []) 0 []
    ∷ []

-- a window that ends with the list of two entries at 8
unfoldable pub list_window : List ℕ
unfolding entries_of
list_window = entries_of (0 ∷ 20480 ∷ (top - 4096) ∷ [])

-- n pages, from page 2 on
unfoldable pub pages_of : ℕ → List ℕ
unfolding span
pages_of n = map (λ k. 4096 * k) (span 2 n)

-- More pages, by a list. One that ends with the window; the longest transfer with the fewest spans and with the most; 9 for a list that ends an entry
-- behind the window, and where the sum of address and length has more than 64 bits.
unfoldable pub one_list : List Marked
unfolding opened list_window entries_of pages_of
one_list =
    gives opened (walk_of 4096 8 12288 list_window) (4096 ∷ 20480 ∷ (top - 4096) ∷ []) (4096 ∷ 4096 ∷ 4096 ∷ []) 0 (8 ∔ 16 ∷ [])
    ∷ gives opened (walk_of 4096 0 65536 (entries_of (pages_of 15))) (4096 ∷ pages_of 15) (replicate 16 4096) 0 (0 ∔ 120 ∷ [])
    ∷ gives opened (walk_of 4092 0 65536 (entries_of (pages_of 16))) (4092 ∷ pages_of 16) (4 ∷ replicate 15 4096 ++ 4092 ∷ []) 0 (0 ∔ 128 ∷ [])
    ∷ gets opened (walk_of 4096 16 12288 list_window) 9 []
    ∷ gets opened (walk_of 4096 (top - 8) 12288 list_window) 9 []
    ∷ []

-- An onward entry, where a list goes on. It is the only one that fits, and the next list has two entries, or the most; it stands behind a page's
-- entry; it stands at the end of another page than the first, and points to that page's front; just as many are needed as fit, and there is none.
unfoldable pub two_lists : List Marked
unfolding opened framed pages_of
two_lists =
    gives opened (walk_of 4096 4088 12288 (framed (20480 ∷ 24576 ∷ []) (0 ∷ []))) (4096 ∷ 20480 ∷ 24576 ∷ []) (4096 ∷ 4096 ∷ 4096 ∷ [])
    1 (0 ∔ 16 ∷ 4088 ∔ 8 ∷ [])
    ∷ gives opened (walk_of 4092 4088 65536 (framed (pages_of 16) (0 ∷ []))) (4092 ∷ pages_of 16) (4 ∷ replicate 15 4096 ++ 4092 ∷ [])
    1 (0 ∔ 128 ∷ 4088 ∔ 8 ∷ [])
    ∷ gives opened (walk_of 4096 4080 16384 (framed (20480 ∷ 24576 ∷ []) (28672 ∷ 0 ∷ []))) (4096 ∷ 28672 ∷ 20480 ∷ 24576 ∷ [])
    (4096 ∷ 4096 ∷ 4096 ∷ 4096 ∷ []) 1 (0 ∔ 16 ∷ 4080 ∔ 16 ∷ [])
    ∷ gives opened (walk_of 4096 8184 12288 (replicate 4096 0 ++ framed (20480 ∷ 24576 ∷ []) (4096 ∷ []))) (4096 ∷ 20480 ∷ 24576 ∷ [])
    (4096 ∷ 4096 ∷ 4096 ∷ []) 1 (4096 ∔ 16 ∷ 8184 ∔ 8 ∷ [])
    ∷ gives opened (walk_of 4096 4080 12288 (framed [] (20480 ∷ 24576 ∷ []))) (4096 ∷ 20480 ∷ 24576 ∷ []) (4096 ∷ 4096 ∷ 4096 ∷ []) 0 (4080 ∔ 16 ∷ [])
    ∷ []

-- 32, for each kind of entry: PRP1, by 1, by 2, and with the largest address; PRP2 as a page, by 8, and as a list, by 4; the first entry of a list and
-- the last.
unfoldable pub wrong_multiples : List Marked
unfolding opened list_window entries_of
wrong_multiples =
    gets opened (walk_of 4097 8 12288 list_window) 32 []
    ∷ gets opened (walk_of 4098 8 12288 list_window) 32 []
    ∷ gets opened (walk_of (top - 1) 3 1 []) 32 []
    ∷ gets opened (walk_of 4096 8200 4097 []) 32 []
    ∷ gets opened (walk_of 4096 12 12288 list_window) 32 []
    ∷ gets opened (walk_of 4096 0 12288 (entries_of (20488 ∷ 24576 ∷ []))) 32 (0 ∔ 16 ∷ [])
    ∷ gets opened (walk_of 4096 0 12288 (entries_of (20480 ∷ 24577 ∷ []))) 32 (0 ∔ 16 ∷ [])
    ∷ []

-- What a refused walk keeps: the records of the list fetches that were accepted by then. A wrong onward entry, and a wrong entry before it: the second
-- list is not fetched; the second list leaves the window; a wrong entry in it.
unfoldable pub records_kept : List Marked
unfolding opened framed
records_kept =
    gets opened (walk_of 4096 4088 12288 (framed (20480 ∷ 24576 ∷ []) (8 ∷ []))) 32 (4088 ∔ 8 ∷ [])
    ∷ gets opened (walk_of 4096 4080 16384 (framed (20480 ∷ 24576 ∷ []) (28673 ∷ 0 ∷ []))) 32 (4080 ∔ 16 ∷ [])
    ∷ gets opened (walk_of 4096 4088 12288 (framed (20480 ∷ 24576 ∷ []) (4096 ∷ []))) 9 (4088 ∔ 8 ∷ [])
    ∷ gets opened (walk_of 4096 4088 12288 (framed (20480 ∷ 24577 ∷ []) (0 ∷ []))) 32 (0 ∔ 16 ∷ 4088 ∔ 8 ∷ [])
    ∷ []

-- The same where the second list makes too many bytes, and too many records: command 0 holds 4,080 bytes, or 63 of them apart from each other.
unfoldable pub apart : List Record
unfolding span
apart = map (λ k. (100 + 2 * k) ∔ 1) (span 0 63)

unfoldable pub limits_met : List Marked
unfolding holding framed apart entries_of
limits_met =
    gets (holding (0 ∔ 4080 ∷ [])) (walk_of 4096 4088 12288 (framed [] (4096 ∷ []) ++ entries_of (20480 ∷ 24576 ∷ []))) 23 (0 ∔ 4080 ∷ 4088 ∔ 8 ∷ [])
    ∷ gets (holding apart) (walk_of 4096 4088 12288 (framed (20480 ∷ 24576 ∷ []) (0 ∷ []))) 24 (apart ++ 4088 ∔ 8 ∷ [])
    ∷ []

-- a walk of one page, with as much lent to it as is said here
abbrev pub lent : (prp1 command transfer scratch addresses lengths window : ℕ) → Walk
lent prp1 command transfer scratch addresses lengths window = record {
  command = command;
  prp1 = prp1;
  prp2 = 3;
  transfer = transfer;
  least = scratch_least;
  scratch = replicate scratch 7;
  address_list = replicate addresses 9;
  length_list = replicate lengths 8;
  window = replicate window 0;
}

-- a state in which command 1 has a record of no bytes
unfoldable pub broken : State
broken = with_command fresh_state 1 (open_with (5 ∔ 0 ∷ []))

-- The order of the numbers, up to PRP1's 32. All that can be wrong is, and one thing after the other is put right; and 21 before PRP1 and PRP2 where
-- there is a list.
unfoldable pub in_order : List Marked
unfolding broken store opened list_window
in_order =
    let m : Machine = record { state = broken; store = [] } in
    gets_early m (lent 4097 8 0 127 16 16 65537) 31
    ∷ gets_early m (lent 4097 8 65537 127 16 16 65537) 31
    ∷ gets_early m (lent 4097 8 1 127 17 17 65537) 10
    ∷ gets_early m (lent 4097 8 1 128 16 17 65537) 10
    ∷ gets_early m (lent 4097 8 1 128 17 16 65537) 10
    ∷ gets_early m (lent 4097 8 1 128 17 17 65537) 6
    ∷ gets_early m (lent 4097 0 1 128 17 17 65537) 7
    ∷ gets_early m (lent 4097 0 1 128 17 17 65536) 8
    ∷ gets_early (record { state = broken; store = store }) (lent 4097 0 1 128 17 17 0) 20
    ∷ gets_early (start store) (lent 4097 0 1 128 17 17 0) 21
    ∷ gets_early (start store) (walk_of 4097 12 12288 list_window) 21
    ∷ gets opened (lent 4097 0 1 128 17 17 0) 32 []
    ∷ gives opened (lent 4096 0 1 128 17 17 0) (4096 ∷ []) (1 ∷ []) 0 []
    ∷ []

-- A scratch of 200 bytes: as it was where the walk is refused before PRP1, and else zero in all its bytes.
unfoldable pub long_scratch : List Marked
unfolding store opened
long_scratch =
    gets_early (start store) (lent 4096 0 1 200 17 17 0) 21
    ∷ gets opened (lent 4097 0 1 200 17 17 0) 32 []
    ∷ gives opened (lent 4096 0 1 200 17 17 0) (4096 ∷ []) (1 ∷ []) 0 []
    ∷ []

-- Entries that the command holds are replayed: from a walk after which the window changed, and from its own write.
unfoldable pub replayed : List Marked
unfolding opened list_window entries_of ran own_says own_state own_store
replayed =
    gives (walk_after opened (walk_of 4096 8 12288 list_window)) (walk_of 4096 8 12288 (replicate 24 1)) (4096 ∷ 20480 ∷ (top - 4096) ∷ [])
    (4096 ∷ 4096 ∷ 4096 ∷ []) 1 (8 ∔ 16 ∷ [])
    ∷ gives (ran opened (own_write 0 0 (entries_of (20480 ∷ 24576 ∷ [])) (replicate 16 1) ∷ [])) (walk_of 4096 0 12288 (replicate 16 1))
    (4096 ∷ 20480 ∷ 24576 ∷ []) (4096 ∷ 4096 ∷ 4096 ∷ []) 1 (0 ∔ 16 ∷ [])
    ∷ []

-- F-6's number. Of four records a list's fetch looks at three: one below it, one that starts where it ends, which it passes and joins, and the next,
-- which ends the search. Of two lists the first looks at both records there are, and the second, which lies below them, at the first of them; or it
-- lies above them, and looks at both and at the one that the first list left.
unfoldable pub records_looked : List Marked
unfolding holding list_window framed entries_of
records_looked =
    gives (holding (0 ∔ 1 ∷ 24 ∔ 1 ∷ 26 ∔ 1 ∷ 40 ∔ 1 ∷ [])) (walk_of 4096 8 12288 list_window) (4096 ∷ 20480 ∷ (top - 4096) ∷ [])
    (4096 ∷ 4096 ∷ 4096 ∷ []) 3 (0 ∔ 1 ∷ 8 ∔ 17 ∷ 26 ∔ 1 ∷ 40 ∔ 1 ∷ [])
    ∷ gives (holding (2000 ∔ 1 ∷ 4000 ∔ 1 ∷ [])) (walk_of 4096 4088 12288 (framed (20480 ∷ 24576 ∷ []) (0 ∷ []))) (4096 ∷ 20480 ∷ 24576 ∷ [])
    (4096 ∷ 4096 ∷ 4096 ∷ []) (2 + 1) (0 ∔ 16 ∷ 2000 ∔ 1 ∷ 4000 ∔ 1 ∷ 4088 ∔ 8 ∷ [])
    ∷ gives (holding (2000 ∔ 1 ∷ 4000 ∔ 1 ∷ [])) (walk_of 4096 4088 12288 (framed [] (4096 ∷ []) ++ entries_of (20480 ∷ 24576 ∷ [])))
    (4096 ∷ 20480 ∷ 24576 ∷ []) (4096 ∷ 4096 ∷ 4096 ∷ []) (2 + 3) (2000 ∔ 1 ∷ 4000 ∔ 1 ∷ 4088 ∔ 24 ∷ [])
    ∷ []

-- all of them
unfoldable pub marked : List Marked
unfolding one_page two_pages one_list two_lists wrong_multiples records_kept limits_met in_order long_scratch replayed records_looked
marked =
    one_page ++ two_pages ++ one_list ++ two_lists ++ wrong_multiples ++ records_kept ++ limits_met ++ in_order ++ long_scratch ++ replayed ++ records_looked

-- every marked walk comes to what it must
abbrev pub MarkedWalks : Type 0
MarkedWalks = all passes marked ≡ true
