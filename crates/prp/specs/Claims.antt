-- The claims about one page walk, whatever state and store it is given (requests F-5 and F-6 of 02, the agreed changes; docs/RULES.md has their
-- rules).
use Rattle.std.specs.Prelude.{ℕ, suc, ◌+◌, ◌%◌, ◌<◌, ◌≤◌, ◌≡◌, List, [], ◌∷◌, map, true, false, cond, ◌↔◌, length, take, drop, get_or, replicate}
use Rattle.state.specs.Verdict.{replied, accepted, looked_in, keeps_to}
use Rattle.cache.specs.Runs.{Call, Machine, says, after, along, ran}
use Rattle.prp.specs.Pages.{Walk, page_size, spans_most, touched, needed, length_in}
use Rattle.prp.specs.Entries.{judged}
use Rattle.prp.specs.Walk.{walk_checks, walk_says, walk_fetches, walk_after, walk_scratch, walk_addresses, walk_lengths}

-- The spans of an accepted walk, as its two lists have them.
unfoldable pub sum : List ℕ → ℕ
sum [] = 0
sum (n ∷ ns) = n + sum ns

module _ (m : Machine) (w : Walk) where
  abbrev pub address_at : ℕ → ℕ
  address_at i = get_or (walk_addresses m w) i 0

  abbrev pub length_at : ℕ → ℕ
  length_at i = get_or (walk_lengths m w) i 0

  pub record Spans : Type 0 where
    -- the reply is their number, 1 to 17: one for each page in which bytes of the transfer lie; and how many records its list fetches replied that
    -- they looked at, added up (F-6)
    pub reply : walk_says m w ≡ replied (touched w ∷ sum (map looked_in (along says m (walk_fetches m w))) ∷ [])
    pub some : 0 < touched w
    pub room : touched w ≤ spans_most
    pub pages : (i : ℕ) → (i < touched w) ↔ (0 < length_in w i)
    -- the first starts at PRP1, a multiple of 4, and the others with their pages
    pub first : address_at 0 ≡ w.prp1
    pub first_multiple : w.prp1 % 4 ≡ 0
    pub starts : (i : ℕ) → 0 < i → i < touched w → address_at i % page_size ≡ 0
    -- none is empty, none leaves its page, and all but the last end with their pages
    pub full : (i : ℕ) → i < touched w → 0 < length_at i
    pub inside : (i : ℕ) → i < touched w → address_at i % page_size + length_at i ≤ page_size
    pub ends : (i : ℕ) → suc i < touched w → address_at i % page_size + length_at i ≡ page_size
    -- together they are as long as the transfer
    pub sums : sum (take (touched w) (walk_lengths m w)) ≡ w.transfer
    -- the places behind them stay
    pub addresses_behind : drop (touched w) (walk_addresses m w) ≡ drop (touched w) w.address_list
    pub lengths_behind : drop (touched w) (walk_lengths m w) ≡ drop (touched w) w.length_list

abbrev pub WalkSpans : Type 0
WalkSpans = (m : Machine) (w : Walk) → accepted (walk_says m w) ≡ true → Spans m w

-- A refused walk leaves both lists as they were.
pub record ListsUnchanged (m : Machine) (w : Walk) : Type 0 where
  pub addresses : walk_addresses m w ≡ w.address_list
  pub lengths : walk_lengths m w ≡ w.length_list

abbrev pub RefusedWalk : Type 0
RefusedWalk = (m : Machine) (w : Walk) → accepted (walk_says m w) ≡ false → ListsUnchanged m w

-- Refused before PRP1 is judged, a walk changes nothing at all, and its number is that of the first check that applies, whether there is a list or
-- not; otherwise, accepted or refused, its whole scratch is zero at return.
pub record NothingChanged (m : Machine) (w : Walk) : Type 0 where
  pub answer : walk_says m w ≡ judged (walk_checks m w)
  pub lists : ListsUnchanged m w
  pub machine : walk_after m w ≡ m
  pub scratch : walk_scratch m w ≡ w.scratch

abbrev pub RefusedEarly : Type 0
RefusedEarly = (m : Machine) (w : Walk) → accepted (judged (walk_checks m w)) ≡ false → NothingChanged m w

abbrev pub ScratchZero : Type 0
ScratchZero =
    (m : Machine) (w : Walk) → accepted (judged (walk_checks m w)) ≡ true → walk_scratch m w ≡ replicate (length w.scratch) 0

-- What a walk leaves of state and store, accepted or refused, is what those of its list fetches leave that were accepted.
unfoldable pub accepted_of : Machine → List Call → List Call
accepted_of m [] = []
accepted_of m (p ∷ ps) = cond (accepted (says m p)) (p ∷ accepted_of (after m p) ps) (accepted_of m ps)

abbrev pub KeepsAccepted : Type 0
KeepsAccepted = (m : Machine) (w : Walk) → walk_after m w ≡ ran m (accepted_of m (walk_fetches m w))

-- Where the transfer fits into its first page PRP2 is not looked at: with any other the walk does the same.
abbrev pub with_prp2 : ℕ → Walk → Walk
with_prp2 x w = record {
  command = w.command;
  prp1 = w.prp1;
  prp2 = x;
  transfer = w.transfer;
  least = w.least;
  scratch = w.scratch;
  address_list = w.address_list;
  length_list = w.length_list;
  window = w.window;
}

pub record SameWalk (m : Machine) (w v : Walk) : Type 0 where
  pub answer : walk_says m w ≡ walk_says m v
  pub fetches : walk_fetches m w ≡ walk_fetches m v
  pub addresses : walk_addresses m w ≡ walk_addresses m v
  pub lengths : walk_lengths m w ≡ walk_lengths m v
  pub scratch : walk_scratch m w ≡ walk_scratch m v

abbrev pub SecondUnread : Type 0
SecondUnread = (m : Machine) (w : Walk) (x : ℕ) → needed w ≡ 0 → SameWalk m w (with_prp2 x w)

-- The numbers that a walk can give. (They stand in the order of the checks, which is `answer_by`'s to say.)
abbrev pub WalkNumbers : Type 0
WalkNumbers = (m : Machine) (w : Walk) → keeps_to (31 ∷ 10 ∷ 6 ∷ 7 ∷ 8 ∷ 20 ∷ 21 ∷ 32 ∷ 9 ∷ 23 ∷ 24 ∷ []) (walk_says m w) ≡ true
