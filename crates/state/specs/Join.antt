-- The search for the records that meet a span, and the records that it leaves, as the code computes them. The claims `SearchFinds` and
-- `SearchJoins` say what they are for records that ascend: just the records that share a byte with the span or touch it are found, and what
-- is left is `joined`.
use Rattle.std.specs.Prelude.{ℕ, suc, ◌+◌, ◌-◌, ◌%◌, ◌≤◌, ◌<◌, min, max, ◌≡◌, List, [], ◌∷◌, ◌++◌, map, true, false, cond, ltb, eqb, length, take, drop, get_or}
use Rattle.state.specs.declared.Record.{Record}
use Rattle.state.specs.declared.Meeting.{Meeting}
use Rattle.state.specs.Limits.{record_limit, held_limit, window_limit}
use Rattle.state.specs.Records.{past, held, span, addresses, total, place, fresh, joined, looked_up_to, looked}
use Rattle.state.specs.State.{CommandState, no_record, open_with, records_in, ascending, command_holds}
use Rattle.state.specs.Cut.{Cut}

-- a record that lies before the span, and one that meets it and widens the union
abbrev pub moved : Record → Meeting → Meeting
moved r m = record { first = m.first + 1; last = m.last + 1; low = m.low; high = m.high; below = m.below + r.len; held = m.held }

abbrev pub widened : Record → Meeting → Meeting
widened r m =
    record { first = m.first; last = m.last + 1; low = min r.start m.low; high = max (past r) m.high; below = m.below; held = m.held + r.len }

-- a record that starts at or before the span's end is one of the two
unfoldable pub passed : ℕ → Record → Meeting → Meeting
passed a r m = cond (ltb (past r) a) (moved r m) (widened r m)

-- the search stops at the first record that starts above the span's end
unfoldable pub searched : (a e : ℕ) → List Record → Meeting → Meeting
searched a e [] m = m
searched a e (r ∷ rs) m = elim (ltb e r.start) [ true ↦ m | false ↦ searched a e rs (passed a r m) ]

-- nothing looked at yet
abbrev pub unmet : (a e : ℕ) → Meeting
unmet a e = record { first = 0; last = 0; low = a; high = e; below = 0; held = 0 }

unfoldable pub meeting : List Record → (a e : ℕ) → Meeting
meeting rs a e = searched a e rs (unmet a e)

-- The entries of a command after the union has taken the place of the records that were met. Numbers are taken modulo 65,536, as
-- a field of 16 bits holds them.
abbrev pub union_of : Meeting → Record
union_of m = record { start = m.low % 65536; len = (m.high - m.low) % 65536 }

unfoldable pub entry_after : List Record → Meeting → ℕ → Record
entry_after entries m k =
    cond (ltb k m.first) (get_or entries k no_record)
    (cond (eqb k m.first) (union_of m) (get_or entries (m.last + (k - suc m.first)) no_record))

-- The entry up to which entries change: where the union takes the place of one record the others keep theirs, and elsewhere the unused
-- ones do, but for the first of them.
unfoldable pub changed_up_to : (used : ℕ) → Meeting → ℕ
changed_up_to used m = cond (eqb m.last (m.first + 1)) m.last (min (used + 1) record_limit)

unfoldable pub spliced : CommandState → Meeting → CommandState
spliced p m =
    let used = length (records_in p) in
    let end = changed_up_to used m in
    record {
      opened = p.opened;
      count = m.first + 1 + (used - m.last);
      records = take end (map (entry_after p.records m) (span 0 record_limit)) ++ drop end p.records;
    }

-- what joining a span gives: how it met the records, how many of them the search looked at, how many of its bytes are fresh, where its first
-- address stands among the packed bytes, and the command with the records joined
pub record Join : Type 0 where
  pub meeting : Meeting
  pub looked : ℕ
  pub fresh : ℕ
  pub place : ℕ
  pub command : CommandState

unfoldable pub join : CommandState → (a e : ℕ) → Join
join p a e =
    let m = meeting (records_in p) a e in
    record {
      meeting = m;
      looked = looked_up_to e (records_in p);
      fresh = m.high - m.low - m.held;
      place = m.below + min (a - m.low) window_limit;
      command = spliced p m;
    }

-- the records with the union in the place of those that were met
abbrev pub replaced : List Record → Meeting → List Record
replaced rs m = take m.first rs ++ record { start = m.low; len = m.high - m.low } ∷ drop m.last rs

-- Where there is room for the span: the command is open and holds together, and the span ends where addresses do, its fresh bytes
-- leave the total within bounds, and so do the joined records their number.
pub record Room (p : CommandState) (a n : ℕ) : Type 0 where
  pub opened : p.opened ≡ true
  pub whole : command_holds p ≡ true
  pub fits : a + n ≤ window_limit
  pub bytes : total (records_in p) + fresh (records_in p) a n ≤ held_limit
  pub few : length (joined (records_in p) a n) ≤ record_limit

-- What join gives of a command that holds together, by which 23 and 24 are judged: how many bytes the records up to the last that
-- is met hold, the fresh count of 01 (the agreed scope; docs/RULES.md has its rules), and the number of records after joining; and F-6's number
-- of records looked at.
pub record Judged (p : CommandState) (a n : ℕ) (r : Join) : Type 0 where
  pub bytes : r.meeting.below + r.meeting.held ≡ total (take r.meeting.last (records_in p))
  pub fresh : r.fresh ≡ fresh (records_in p) a n
  pub count : r.command.count ≡ length (joined (records_in p) a n)
  pub looked : r.looked ≡ looked (records_in p) a n

-- And where there is room: the records joined, the place of the span's first address among the packed bytes, and how the records lay
-- to the one that was joined.
pub record Joined (p : CommandState) (a n : ℕ) (r : Join) : Type 0 where
  pub records : r.command ≡ open_with (joined (records_in p) a n)
  pub place : r.place ≡ place (joined (records_in p) a n) a
  pub cut : Cut (records_in p) r.meeting r.fresh a (a + n)
  pub replaces : joined (records_in p) a n ≡ replaced (records_in p) r.meeting

-- What 23 and 24 are judged by is what 01 says, for every command that holds together and every span of a byte or more.
abbrev pub JoinJudged : Type 0
JoinJudged = (p : CommandState) (a n : ℕ) → 0 < n → command_holds p ≡ true → Judged p a n (join p a (a + n))

-- Where there is room for a span of a byte or more, what join gives is the joining rule, in a command with all its entries.
abbrev pub JoinJoined : Type 0
JoinJoined = (p : CommandState) (a n : ℕ) → 0 < n → length p.records ≡ record_limit → Room p a n → Joined p a n (join p a (a + n))

-- The packed bytes of the joined records, where f gives the byte of an address: those of the records before the union, then those of its own
-- addresses, then those of the records behind it.
abbrev pub PackedReplaced : Type 0
PackedReplaced =
    (f : ℕ → ℕ) (rs : List Record) (m : Meeting)
    → map f (addresses (replaced rs m))
    ≡ map f (addresses (take m.first rs)) ++ (map f (span m.low (m.high - m.low)) ++ map f (addresses (drop m.last rs)))

-- Where a buffer has from k on the byte of each held address at its place, it has from k on the bytes of the first i records.
abbrev pub PackedFront : Type 0
PackedFront =
    (f : ℕ → ℕ) (l : List ℕ) (k : ℕ) (rs : List Record)
    → ascending 0 rs ≡ true → k + total rs ≤ length l → ((x : ℕ) → held rs x ≡ true → f x ≡ get_or l (k + place rs x) 0)
    → (i : ℕ) → map f (addresses (take i rs)) ≡ take (total (take i rs)) (drop k l)

-- Where a buffer has from k on the byte of each held address at its place, the bytes of the records behind the first i stand right behind
-- theirs.
abbrev pub PackedBackFrom : Type 0
PackedBackFrom =
    (f : ℕ → ℕ) (l : List ℕ) (k : ℕ) (rs : List Record)
    → ascending 0 rs ≡ true → k + total rs ≤ length l → ((x : ℕ) → held rs x ≡ true → f x ≡ get_or l (k + place rs x) 0)
    → (i : ℕ) → map f (addresses (drop i rs)) ≡ take (total (drop i rs)) (drop (total (take i rs)) (drop k l))
