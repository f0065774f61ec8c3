-- Where no entry is needed behind PRP1, PRP2 is not looked at.
use Prim.Native.Nat.{ℕ}
use mathlib.Core.Path.{◌≡◌, refl, sym, ◌∙◌}
use mathlib.Core.List.{List, []}
use Rattle.state.specs.Verdict.{replied, Check, verdict}
use Rattle.cache.specs.Runs.{Machine}
use Rattle.prp.specs.Pages.{Walk, needed, span_lengths}
use Rattle.prp.specs.Walk.{Asks, behind_says, page_entries, looked_behind, answer_by, fetches_by, asks_of}
use Rattle.prp.specs.Walk.{walk_says, walk_fetches, walk_scratch, walk_addresses, walk_lengths}
use Rattle.prp.specs.Claims.{with_prp2, SecondUnread}

module _ (asks : Asks) (w : Walk) (none : needed w ≡ 0) where
  -- nothing is said of PRP2, no entry stands behind PRP1, no record is looked at, and no list is fetched
  nothing_said : behind_says asks w ≡ replied []
  unfolding verdict
  nothing_said = rw (none, behind_says) (rw none)

  no_entries : page_entries asks w ≡ []
  unfolding page_entries
  no_entries = rw (none, page_entries) (rw none)

  none_looked : looked_behind asks w ≡ 0
  unfolding looked_behind
  none_looked = rw (none, looked_behind)

  no_fetches : (checks : List Check) → fetches_by asks w checks ≡ []
  unfolding fetches_by
  no_fetches checks = rw none

-- so nothing of the walk differs with another PRP2
module _ (m : Machine) (w : Walk) (x : ℕ) (none : needed w ≡ 0) where
  same_answer_lem : walk_says m w ≡ walk_says m (with_prp2 x w)
  unfolding walk_says answer_by
  same_answer_lem =
      rw (
        nothing_said (asks_of m) w none,
        nothing_said (asks_of m) (with_prp2 x w) none,
        none_looked (asks_of m) w none,
        none_looked (asks_of m) (with_prp2 x w) none,
      )

  same_fetches : walk_fetches m w ≡ walk_fetches m (with_prp2 x w)
  unfolding walk_fetches
  same_fetches = no_fetches (asks_of m) w none _ ∙ sym (no_fetches (asks_of m) (with_prp2 x w) none _)

  same_addresses : walk_addresses m w ≡ walk_addresses m (with_prp2 x w)
  unfolding walk_addresses
  same_addresses = rw (same_answer_lem, no_entries (asks_of m) w none, no_entries (asks_of m) (with_prp2 x w) none)

  same_lengths : walk_lengths m w ≡ walk_lengths m (with_prp2 x w)
  unfolding walk_lengths span_lengths
  same_lengths = rw same_answer_lem

pub second_unread : SecondUnread
unfolding walk_scratch
second_unread m w x none = record {
  answer = same_answer_lem m w x none;
  fetches = same_fetches m w x none;
  addresses = same_addresses m w x none;
  lengths = same_lengths m w x none;
  scratch = refl;
}
