-- The claims about the byte map's calls, whatever map they are given (requests F-2 and F-3 of 02, the agreed changes; docs/RULES.md has their
-- rules).
use Rattle.std.specs.Prelude.{ℕ, ◌+◌, ◌-◌, ◌≤◌, ◌<◌, ◌≡◌, List, [], ◌∷◌, Bool, true, false, not, ◌&&◌, ◌↔◌, ◌≢◌, length, take, drop, get_or}
use Rattle.octets.specs.Lists.{all, part}
use Rattle.state.specs.Limits.{record_limit, transfer_limit}
use Rattle.state.specs.Records.{in_span}
use Rattle.state.specs.Verdict.{refused, accepted, keeps_to, Check, numbers}
use Rattle.bits.specs.Bits.{map_limit}
use Rattle.bytemap.specs.Map.{Map, is_open, is_held, runs_of, holds}
use Rattle.bytemap.specs.Begin.{begin_checks}
use Rattle.bytemap.specs.Fetch.{fetch_checks}
use Rattle.bytemap.specs.End.{end_checks}
use Rattle.bytemap.specs.OwnWrite.{own_checks}
use Rattle.bytemap.specs.Runs.{Call, begin, fetch, end, own_write, says, after, dest_given, dest_after, window_given, window_after}
use Rattle.bytemap.specs.Runs.{delivers, along, ran}

-- the numbers that each call can give, in the order in which they are judged: 30 stands where the record engine has 7, and 6, 8 and 23 are in
-- no list
abbrev pub of_call : Call → List ℕ
of_call begin = 20 ∷ 22 ∷ []
of_call (fetch a n dest window) = 4 ∷ 30 ∷ 9 ∷ 10 ∷ 20 ∷ 21 ∷ 24 ∷ []
of_call end = 20 ∷ 21 ∷ []
of_call (own_write a bytes window) = 4 ∷ 30 ∷ 9 ∷ 20 ∷ 21 ∷ 24 ∷ []

-- the checks of each call
abbrev pub checks_of : Map → Call → List Check
checks_of m begin = begin_checks m
checks_of m (fetch a n dest window) = fetch_checks m (length window) (length dest) a n
checks_of m end = end_checks m
checks_of m (own_write a bytes window) = own_checks m (length window) a (length bytes)

-- The lists of numbers of F-2, and F-3's of an own write: a refused call is refused with a number of its list, and the checks stand in the
-- order of that list.
pub record Listed (m : Map) (p : Call) : Type 0 where
  pub order : numbers (checks_of m p) ≡ of_call p
  pub given : keeps_to (of_call p) (says m p) ≡ true

abbrev pub MapRefusals : Type 0
MapRefusals = (m : Map) (p : Call) → Listed m p

-- 01's rule on refusals: a refused call leaves map, destination and window as they were.
pub record Unchanged (m : Map) (p : Call) : Type 0 where
  pub map : after m p ≡ m
  pub dest : dest_after m p ≡ dest_given p
  pub window : window_after m p ≡ window_given p

abbrev pub MapUnchanged : Type 0
MapUnchanged = (m : Map) (p : Call) → accepted (says m p) ≡ false → Unchanged m p

-- F-2's three ways in which a map does not hold together: it is closed and a bit is set; an address that is not held has a value that is not
-- zero; or there are more than 64 runs. All addresses count, whatever window is lent, and an open map as a closed one.
pub record Broken (m : Map) : Type 0 where
  pub bit_left : (x : ℕ) → is_open m ≡ false → is_held m x ≡ true → holds m ≡ false
  pub value_left : (x : ℕ) → x < map_limit → is_held m x ≡ false → get_or m.values x 0 ≢ 0 → holds m ≡ false
  pub many_runs : record_limit < length (runs_of m) → holds m ≡ false

abbrev pub MapBroken : Type 0
MapBroken = (m : Map) → Broken m

-- 30 is given exactly to a window longer than 4,096 bytes, where 4 does not apply: whether or not the span ends behind the window, the
-- destination has room, or the map holds together. So it is for a fetch and for an own write.
pub record Thirty (m : Map) : Type 0 where
  pub fetched :
      (a n : ℕ) (dest window : List ℕ)
      → (says m (fetch a n dest window) ≡ refused 30) ↔ ((n ≤ transfer_limit) × (map_limit < length window))
  pub written :
      (a : ℕ) (bytes window : List ℕ)
      → (says m (own_write a bytes window) ≡ refused 30) ↔ ((length bytes ≤ transfer_limit) × (map_limit < length window))

abbrev pub ThirtyGiven : Type 0
ThirtyGiven = (m : Map) → Thirty m

-- The bytes that an accepted own write is given stand in the window from their first address on; before them and past them it is as it was.
pub record Landed (m : Map) (a : ℕ) (bytes window : List ℕ) : Type 0 where
  pub there : part (window_after m (own_write a bytes window)) a (length bytes) ≡ bytes
  pub below : take a (window_after m (own_write a bytes window)) ≡ take a window
  pub above : drop (a + length bytes) (window_after m (own_write a bytes window)) ≡ drop (a + length bytes) window

abbrev pub MapWindowWritten : Type 0
MapWindowWritten = (m : Map) (a : ℕ) (bytes window : List ℕ) → accepted (says m (own_write a bytes window)) ≡ true → Landed m a bytes window

-- does this call end the command, or write at address x?
abbrev pub renews_here : (x : ℕ) → Map → Call → Bool
renews_here x m begin = false
renews_here x m (fetch a n dest window) = false
renews_here x m end = accepted (says m end)
renews_here x m (own_write a bytes window) = in_span a (length bytes) x && accepted (says m (own_write a bytes window))

-- no call of a list does
abbrev pub Kept : (x : ℕ) → Map → List Call → Type 0
Kept x m ps = all not (along (renews_here x) m ps) ≡ true

-- The order's question, of the byte map: is the count that was checked the count that is used? Where two fetches of an address are accepted, and
-- between them no end and no own write there, both deliver the same byte there, whatever the windows have become and whatever map was lent at
-- first, so long as it has its 4,096 values. (A begin between them is refused, since the command is open.)
abbrev pub MapSameByte : Type 0
MapSameByte =
    (m : Map) (a n : ℕ) (dest window : List ℕ) (between : List Call) (a' n' : ℕ) (dest' window' : List ℕ) (x : ℕ) →
    let one = fetch a n dest window in
    let other = fetch a' n' dest' window' in
    let later = ran (after m one) between in
    length m.values ≡ map_limit → in_span a n x ≡ true → in_span a' n' x ≡ true
    → accepted (says m one) ≡ true → Kept x (after m one) between → accepted (says later other) ≡ true
    → get_or (delivers m one) (x - a) 0 ≡ get_or (delivers later other) (x - a') 0

-- A command sees its own writes (F-3): where an own write and a later fetch of an address are accepted, and between them no end and no other own
-- write there, the fetch delivers the written byte there, whatever was held before and whatever the windows have become.
abbrev pub MapWrittenByte : Type 0
MapWrittenByte =
    (m : Map) (a : ℕ) (bytes window : List ℕ) (between : List Call) (a' n' : ℕ) (dest' window' : List ℕ) (x : ℕ) →
    let write = own_write a bytes window in
    let read = fetch a' n' dest' window' in
    let later = ran (after m write) between in
    length m.values ≡ map_limit → in_span a (length bytes) x ≡ true → in_span a' n' x ≡ true
    → accepted (says m write) ≡ true → Kept x (after m write) between → accepted (says later read) ≡ true
    → get_or (delivers later read) (x - a') 0 ≡ get_or bytes (x - a) 0
