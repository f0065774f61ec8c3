-- The entries behind PRP1 where there is no list, those of a list of one page, and those of a list of two; and how many records the list fetches
-- looked at.
use Prim.Native.Nat.{◌+◌, ◌-◌}
use native.Mathlib.Nat.{add-zero}
use mathlib.Core.Path.{◌≡◌}
use mathlib.Core.List.{[], ◌∷◌, ◌++◌}
use mathlib.Core.Bool.{true, false}
use lib.ListN.{take}
use Rattle.prp.specs.Pages.{Walk, needed, with_list, fit, chained}
use Rattle.state.specs.Verdict.{looked_in}
use Rattle.prp.specs.Walk.{Asks, got_one, got_two, entries_one, entries_two, page_entries, looked_in_lists, looked_behind}

module _ (asks : Asks) (w : Walk) where
  pub entries_none : with_list w ≡ false → page_entries asks w ≡ take (needed w) (w.prp2 ∷ [])
  unfolding page_entries
  entries_none e = rw (e, page_entries)

  pub looked_none : with_list w ≡ false → looked_behind asks w ≡ 0
  unfolding looked_behind
  looked_none e = rw (e, looked_behind)

  -- in the lists
  pub lists_one : chained w ≡ false → looked_in_lists asks w ≡ looked_in (got_one asks w).answer
  lists_one e = rw e (add-zero (looked_in (got_one asks w).answer))

  pub lists_two : chained w ≡ true → looked_in_lists asks w ≡ looked_in (got_one asks w).answer + looked_in (got_two asks w).answer
  lists_two e = rw e

  module _ (listed : with_list w ≡ true) where
    pub looked_lists : looked_behind asks w ≡ looked_in_lists asks w
    unfolding looked_behind
    looked_lists = rw (listed, looked_behind)

    pub entries_one_lem : chained w ≡ false → page_entries asks w ≡ entries_one asks w
    unfolding page_entries
    entries_one_lem e = rw (listed, e, page_entries)

    pub entries_two_lem : chained w ≡ true → page_entries asks w ≡ take (fit w - 1) (entries_one asks w) ++ entries_two asks w
    unfolding page_entries
    entries_two_lem e = rw (listed, e, page_entries)
