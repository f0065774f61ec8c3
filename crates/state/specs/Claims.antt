-- The claims about records: what sharing and touching are, what joining a span gives, what the search finds, how many records it looks at, and
-- where held bytes stand (01, the agreed scope, with requests F-1 and F-6 of 02, the agreed changes; docs/RULES.md has their rules).
use Rattle.std.specs.Prelude.{ℕ, suc, ◌+◌, ◌-◌, ◌≤◌, ◌<◌, min, ◌≡◌, List, ◌∷◌, ◌++◌, Bool, true, false, ◌||◌, ◌↔◌, length, take, drop, get_or}
use Rattle.state.specs.declared.Record.{Record}
use Rattle.state.specs.declared.Meeting.{Meeting}
use Rattle.state.specs.Limits.{window_limit}
use Rattle.state.specs.Records.{past, in_span, held, addresses, total, place, fresh, replayed, keep, shares, touches}
use Rattle.state.specs.Records.{meets, earlier, later, lowest, highest, union, joined, looked, starting_up_to}
use Rattle.state.specs.State.{State, records_of, ascending, holds}
use Rattle.state.specs.Runs.{runs}
use Rattle.state.specs.Join.{meeting, replaced}

-- 01's two counts of a span, each counted by itself, make up its length.
abbrev pub CountsFill : Type 0
CountsFill = (rs : List Record) (a n : ℕ) → fresh rs a n + replayed rs a n ≡ n

-- 01's sharing of a byte: a record and a span, each of a byte or more, share one by the test exactly if some address lies in both.
abbrev pub SharesByte : Type 0
SharesByte =
    (a n : ℕ) (r : Record) → 0 < n → 0 < r.len
    → (shares a n r ≡ true) ↔ ((x : ℕ) × (in_span r.start r.len x ≡ true) × (in_span a n x ≡ true))

-- The one test by which a span meets a record is F-1's two: they share a byte, or touch. (`joined` asks it of a span of a byte or more.)
abbrev pub MeetsWords : Type 0
MeetsWords = (a n : ℕ) (r : Record) → meets a n r ≡ (shares a n r || touches a n r)

-- F-1: of records that keep to the rules each ends before the next one starts and does not touch it, so that the address behind it is in
-- neither.
abbrev pub RecordsApart : Type 0
RecordsApart =
    (lo : ℕ) (before : List Record) (one next : Record) (behind : List Record)
    → ascending lo (before ++ one ∷ next ∷ behind) ≡ true → past one < next.start

-- F-1: a state in which a command has two records that touch does not hold together.
abbrev pub TouchingBroken : Type 0
TouchingBroken =
    (s : State) (c : ℕ) (before : List Record) (one next : Record) (behind : List Record)
    → records_of s c ≡ before ++ one ∷ next ∷ behind → past one ≡ next.start → holds s ≡ false

-- `runs` is what its name says. Of the addresses below 65,536 it has those that pass the test and no other; none of its records is empty; and
-- between each and the next lies an address that is in none, and so does not pass, for `ascending` asks for it. So none can be longer.
pub record AreRuns (test : ℕ → Bool) : Type 0 where
  pub same : (x : ℕ) → x < window_limit → held (runs test) x ≡ test x
  pub parted : ascending 0 (runs test) ≡ true

abbrev pub RunsAreRuns : Type 0
RunsAreRuns = (test : ℕ → Bool) → AreRuns test

-- Records that keep to the rules are the longest runs of the addresses that they hold.
abbrev pub RecordsRuns : Type 0
RecordsRuns = (rs : List Record) → ascending 0 rs ≡ true → rs ≡ runs (held rs)

-- SafeFetch's defragmentation, as an equation of addresses: the record that takes the place of those that a span meets covers the span and
-- these records, and no other address.
abbrev pub UnionCovers : Type 0
UnionCovers =
    (rs : List Record) (a n x : ℕ)
    → in_span (union a n (keep (meets a n) rs)).start (union a n (keep (meets a n) rs)).len x ≡ (in_span a n x || held (keep (meets a n) rs) x)

-- An address is held after a span is joined exactly if it was held before, or lies in the span.
abbrev pub HeldJoined : Type 0
HeldJoined = (rs : List Record) (a n x : ℕ) → held (joined rs a n) x ≡ (held rs x || in_span a n x)

-- Joined records keep to the rules if the records did.
abbrev pub AscendingJoined : Type 0
AscendingJoined = (rs : List Record) (a n : ℕ) → ascending 0 rs ≡ true → a + n ≤ window_limit → ascending 0 (joined rs a n) ≡ true

-- Joined records hold as many bytes more as the span has fresh ones.
abbrev pub TotalJoined : Type 0
TotalJoined = (rs : List Record) (a n : ℕ) → ascending 0 rs ≡ true → total (joined rs a n) ≡ total rs + fresh rs a n

-- The joining rule of 01 with F-1, told from addresses alone: records that keep to the rules become, once a span is joined, the longest runs
-- of the addresses that they held or that lie in the span. (A span of length 0 has no address, so that they stay as they were.)
abbrev pub JoinedRuns : Type 0
JoinedRuns =
    (rs : List Record) (a n : ℕ) → ascending 0 rs ≡ true → a + n ≤ window_limit
    → joined rs a n ≡ runs (λ x. held rs x || in_span a n x)

-- F-1: a span from the end of one record to the start of the next touches both, and makes one record of the two; the others stay.
abbrev pub GapFilled : Type 0
GapFilled =
    (before : List Record) (one next : Record) (behind : List Record) (n : ℕ)
    → ascending 0 (before ++ one ∷ next ∷ behind) ≡ true → past one + n ≡ next.start
    → joined (before ++ one ∷ next ∷ behind) (past one) n ≡ before ++ record { start = one.start; len = past next - one.start } ∷ behind

-- What the search finds of records that keep to the rules. The records up to `first` are those that end before the span, the ones from there
-- up to `last` are just those that it meets, and the rest are those that start behind it. `low` and `high` are the ends of the union; `below`
-- and `held` are how many bytes the records before the span hold, and those that it meets.
pub record Finds (rs : List Record) (a n : ℕ) (m : Meeting) : Type 0 where
  pub order : m.first ≤ m.last
  pub most : m.last ≤ length rs
  pub before : take m.first rs ≡ earlier a rs
  pub met : take (m.last - m.first) (drop m.first rs) ≡ keep (meets a n) rs
  pub behind : drop m.last rs ≡ later (a + n) rs
  pub low : m.low ≡ lowest a (keep (meets a n) rs)
  pub high : m.high ≡ highest (a + n) (keep (meets a n) rs)
  pub below : m.below ≡ total (earlier a rs)
  pub held : m.held ≡ total (keep (meets a n) rs)

abbrev pub SearchFinds : Type 0
SearchFinds = (rs : List Record) (a n : ℕ) → ascending 0 rs ≡ true → Finds rs a n (meeting rs a (a + n))

-- What the search finds is what `joined` is made of: the union takes the place of the records that are met, and as many of the span's bytes
-- are fresh as the union has more than these held.
abbrev pub SearchJoins : Type 0
SearchJoins =
    (rs : List Record) (a n : ℕ) → ascending 0 rs ≡ true → 0 < n
    → let m = meeting rs a (a + n) in (joined rs a n ≡ replaced rs m) × (fresh rs a n + m.held ≡ m.high - m.low)

-- F-6's bound, of any records: a fetch looks at no more than one beyond those that start at or below the end of its span.
abbrev pub LookedBound : Type 0
LookedBound = (rs : List Record) (a n : ℕ) → looked rs a n ≤ suc (starting_up_to (a + n) rs)

-- Of records that keep to the rules the number itself: a fetch of a byte or more looks at all that start at or below the end of its span, and at
-- the next one if there is one; a fetch of no bytes looks at none.
pub record Looks (rs : List Record) (a n : ℕ) : Type 0 where
  pub some : 0 < n → looked rs a n ≡ min (suc (starting_up_to (a + n) rs)) (length rs)
  pub none : n ≡ 0 → looked rs a n ≡ 0

abbrev pub LookedExactly : Type 0
LookedExactly = (rs : List Record) (a n : ℕ) → ascending 0 rs ≡ true → Looks rs a n

-- A held address has a place among the held bytes, and stands there: of the addresses in the order in which their bytes are packed, it is the
-- one at the number that `place` gives. So a byte is read where it was put.
abbrev pub HeldPlace : Type 0
HeldPlace =
    (rs : List Record) (x d : ℕ) → ascending 0 rs ≡ true → held rs x ≡ true
    → (place rs x < total rs) × (get_or (addresses rs) (place rs x) d ≡ x)

-- The place of an address in a record is what the records before that one hold, and how far the address lies from the record's start.
abbrev pub PlaceMiddle : Type 0
PlaceMiddle =
    (lo : ℕ) (before : List Record) (own : Record) (behind : List Record) (x : ℕ)
    → ascending lo (before ++ own ∷ behind) ≡ true → own.start ≤ x → x < past own
    → place (before ++ own ∷ behind) x ≡ total before + (x - own.start)
