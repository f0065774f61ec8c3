-- The list fetches that a walk makes, and the three kinds of accepted walks: one reads no list, one reads one list page, and one reads two.
use mathlib.Core.Path.{◌≡◌, refl, ap₂, ◌∙◌}
use mathlib.Core.List.{List, [], ◌∷◌}
use mathlib.Core.Bool.{Bool, true, false, cond, ◌&&◌}
use Rattle.octets.specs.Lists.{all}
use Rattle.octets.proofs.Lists.{both, and_left}
use Rattle.state.specs.Verdict.{replied, accepted, Check}
use Rattle.cache.specs.Runs.{Call}
use Rattle.prp.specs.Pages.{Walk, touched, with_list, chained, first_count, second_count}
use Rattle.prp.specs.Entries.{judged, wrong_multiple, ◌then◌, page_says}
use Rattle.prp.specs.Walk.{Asks, list_one, list_two, got_one, got_two, lists_say, behind_says, looked_behind, answer_by, makes_one, makes_two, fetches_by}
use Rattle.prp.proofs.Answers.{then_first, then_second, then_goes_on}
use Rattle.prp.proofs.Said.{made_one}

pub data Listing (asks : Asks) (w : Walk) (checks : List Check) : Type 0 where
  no_list : with_list w ≡ false → fetches_by asks w checks ≡ [] → Listing asks w checks
  one_page : with_list w ≡ true → chained w ≡ false → fetches_by asks w checks ≡ list_one asks w ∷ [] → Listing asks w checks
  two_pages : with_list w ≡ true → chained w ≡ true → fetches_by asks w checks ≡ list_one asks w ∷ list_two asks w ∷ [] → Listing asks w checks

module _ (asks : Asks) (w : Walk) (checks : List Check) where
  -- the list fetches that are made, by which of them are
  abbrev fetches_if : Bool → Bool → List Call
  fetches_if b d = cond b (list_one asks w ∷ elim d [ true ↦ list_two asks w ∷ [] | false ↦ [] ]) []

  pub fetches_made : (b d : Bool) → makes_one asks w checks ≡ b → makes_two asks w checks ≡ d → fetches_by asks w checks ≡ fetches_if b d
  unfolding fetches_by
  fetches_made b d one two = ap₂ fetches_if one two

  -- no second one without the first
  pub first_made : makes_two asks w checks ≡ true → makes_one asks w checks ≡ true
  first_made h = and_left (makes_one asks w checks) (chained w) (and_left (makes_one asks w checks && chained w) _ h)

  -- what holds of both holds of those that are made
  pub fetches_all : (p : Call → Bool) → p (list_one asks w) ≡ true → p (list_two asks w) ≡ true → all p (fetches_by asks w checks) ≡ true
  unfolding fetches_by all
  fetches_all p one two = go (makes_one asks w checks) (makes_two asks w checks)
    where
      go : (b d : Bool) → all p (fetches_if b d) ≡ true
      go true true = both one (both two refl)
      go true false = both one refl
      go false d = refl

  -- a walk whose parts are all accepted is
  pub all_taken : accepted (judged checks) ≡ true → accepted (judged (wrong_multiple 4 w.prp1 ∷ [])) ≡ true → accepted (behind_says asks w) ≡ true
      → answer_by asks w checks ≡ replied (touched w ∷ looked_behind asks w ∷ [])
  unfolding answer_by
  all_taken fine fine1 fine2 =
      then_goes_on _ (judged checks) fine ∙ then_goes_on _ (judged (wrong_multiple 4 w.prp1 ∷ [])) fine1 ∙ then_goes_on _ (behind_says asks w) fine2

  -- an accepted walk, part by part
  module _ (taken : accepted (answer_by asks w checks) ≡ true) where
    pub checks_taken : accepted (judged checks) ≡ true
    unfolding answer_by
    checks_taken = then_first _ (judged checks) taken

    past_checks :
        accepted (judged (wrong_multiple 4 w.prp1 ∷ []) then behind_says asks w then replied (touched w ∷ looked_behind asks w ∷ [])) ≡ true
    unfolding answer_by
    past_checks = then_second _ (judged checks) taken

    pub first_taken : accepted (judged (wrong_multiple 4 w.prp1 ∷ [])) ≡ true
    first_taken = then_first _ (judged (wrong_multiple 4 w.prp1 ∷ [])) past_checks

    pub behind_taken : accepted (behind_says asks w) ≡ true
    behind_taken = then_first _ (behind_says asks w) (then_second _ (judged (wrong_multiple 4 w.prp1 ∷ [])) past_checks)

    module _ (listed : with_list w ≡ true) where
      lists_taken : accepted (lists_say asks w) ≡ true
      lists_taken = rw (listed, behind_says) at behind_taken

      pub second_taken : accepted (judged (wrong_multiple 8 w.prp2 ∷ [])) ≡ true
      second_taken = then_first _ (judged (wrong_multiple 8 w.prp2 ∷ [])) lists_taken

      pub makes_one_lem : makes_one asks w checks ≡ true
      makes_one_lem = made_one asks w checks listed checks_taken first_taken second_taken

      pages_taken : accepted (page_says (first_count w) (got_one asks w)
          then elim (chained w) [ true ↦ page_says (second_count w) (got_two asks w) | false ↦ replied [] ]) ≡ true
      pages_taken = then_second _ (judged (wrong_multiple 8 w.prp2 ∷ [])) lists_taken

      pub page_one : accepted (page_says (first_count w) (got_one asks w)) ≡ true
      page_one = then_first _ (page_says (first_count w) (got_one asks w)) pages_taken

      -- both list fetches are accepted
      pub got_one_lem : accepted (got_one asks w).answer ≡ true
      got_one_lem = then_first _ (got_one asks w).answer page_one

      module _ (more : chained w ≡ true) where
        pub makes_two_lem : makes_two asks w checks ≡ true
        makes_two_lem = both (both makes_one_lem more) page_one

        pub page_two : accepted (page_says (second_count w) (got_two asks w)) ≡ true
        page_two = rw more at (then_second _ (page_says (first_count w) (got_one asks w)) pages_taken)

        pub got_two_lem : accepted (got_two asks w).answer ≡ true
        got_two_lem = then_first _ (got_two asks w).answer page_two

      listing_of : (b : Bool) → chained w ≡ b → Listing asks w checks
      listing_of false e = one_page listed e (fetches_made true false makes_one_lem (rw (makes_one_lem, e)))
      listing_of true e = two_pages listed e (fetches_made true true makes_one_lem (makes_two_lem e))

    pub listing : Listing asks w checks
    listing = go (with_list w) refl
      where
        go : (b : Bool) → with_list w ≡ b → Listing asks w checks
        go true e = listing_of e (chained w) refl
        go false e = no_list e (fetches_made false _ (rw e) refl)
