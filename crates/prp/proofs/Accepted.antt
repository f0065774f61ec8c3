-- What an accepted walk tells: the transfer and the room are as 02 asks, and the entries behind PRP1 are as many as are needed and all multiples
-- of a page.
use Prim.Native.Nat.{ℕ, zero, suc, ◌-◌, ◌%◌, ◌<◌, ◌≤◌}
use native.Mathlib.Omega.{arith}
use mathlib.Core.Path.{◌≡◌, refl, ap, sym, ◌∙◌}
use mathlib.Core.List.{List, [], ◌∷◌, map}
use mathlib.Core.Bool.{Bool, true, false, false≢true, ◌||◌}
use lib.Dec.{ltb, eqb}
use lib.ListN.{length, take, length-append, length-take}
use borrow.Author.Tests.{ltb-true, ltb-false, eqb-true, eqb-false, eq-eqb}
use Rattle.octets.specs.Lists.{all}
use Rattle.octets.proofs.Lists.{both}
use Rattle.state.specs.Verdict.{replied, accepted, looked_in, Check}
use Rattle.state.proofs.Verdict.{none_applies}
use Rattle.cache.specs.Runs.{Machine, says, along, ran}
use Rattle.prp.specs.Pages.{Walk, page_size, spans_most, transfer_most, touched, needed, fit, first_count, second_count}
use Rattle.prp.specs.Entries.{Got, entries_in, wrong_multiple, judged, page_says}
use Rattle.prp.specs.Walk.{Asks, got_one, got_two, entries_one, behind_says, page_entries, looked_behind, answer_by, fetches_by, asks_of, walk_checks}
use Rattle.prp.specs.Walk.{walk_says, walk_fetches}
use Rattle.prp.specs.Claims.{sum}
use Rattle.prp.proofs.Answers.{then_second}
use Rattle.prp.proofs.Pages.{fit_some, two_pages_lem, one_page_lem}
use Rattle.prp.proofs.Reading.{length_entries}
use Rattle.prp.proofs.Listed.{entries_none, entries_one_lem, entries_two_lem, looked_none, looked_lists, lists_one, lists_two}
use Rattle.prp.proofs.Listing.{Listing, no_list, one_page, two_pages, listing, all_taken}
use Rattle.prp.proofs.Listing.{checks_taken, first_taken, behind_taken, second_taken, page_one, page_two}
use Rattle.prp.proofs.Entries.{aligned, entries_aligned, entry_judged, aligned_take, aligned_append}

-- as many entries as are needed, each a multiple of a page
pub record Pages (n : ℕ) (entries : List ℕ) : Type 0 where
  pub many : length entries ≡ n
  pub whole : aligned entries ≡ true

page_aligned : (k : ℕ) (got : Got) → accepted (page_says k got) ≡ true → aligned (entries_in k got.bytes) ≡ true
page_aligned k got e = entries_aligned (entries_in k got.bytes) (then_second _ got.answer e)

module _ (asks : Asks) (w : Walk) where
  -- PRP2 as a page, or not looked at
  by_second : (n : ℕ) → n ≤ 1 → (t : Bool) → eqb n 0 ≡ t
      → accepted (judged (elim t [ true ↦ [] | false ↦ wrong_multiple page_size w.prp2 ∷ [] ])) ≡ true → Pages n (take n (w.prp2 ∷ []))
  unfolding all
  by_second zero few t is e = record { many = refl; whole = refl }
  by_second (suc zero) few true is e = absurd (omega (arith, eqb-true))
  by_second (suc zero) few false is e = record { many = refl; whole = both (eq-eqb _ _ (entry_judged page_size w.prp2 e)) refl }
  by_second (suc (suc n)) few t is e = absurd (omega arith)

  -- without a list, in one list page, or in two
  entries_behind_lem : (checks : List Check) → accepted (answer_by asks w checks) ≡ true → Pages (needed w) (page_entries asks w)
  entries_behind_lem checks taken = go (listing asks w checks taken)
    where
      go : Listing asks w checks → Pages (needed w) (page_entries asks w)
      go (no_list e none) =
          rw (entries_none asks w e)
          (by_second (needed w) (ltb-false _ _ e) (eqb (needed w) 0) refl (rw (e, behind_says) at (behind_taken asks w checks taken)))
      go (one_page e fits made) =
          rw (entries_one_lem asks w e fits)
          (record {
            many = length_entries (first_count w) _ ∙ one_page_lem (needed w) (fit w) (ltb-false _ _ fits);
            whole = page_aligned (first_count w) (got_one asks w) (page_one asks w checks taken e);
          })
      go (two_pages e more made) =
          let some = fit_some w.prp2 (entry_judged 8 w.prp2 (second_taken asks w checks taken e)) in
          let first = page_aligned (first_count w) (got_one asks w) (page_one asks w checks taken e) in
          let second = page_aligned (second_count w) (got_two asks w) (page_two asks w checks taken e more) in
          rw (entries_two_lem asks w e more)
          (record {
            many = simp (length-append, length-take, length_entries) (two_pages_lem (needed w) (fit w) some (ltb-true _ _ more));
            whole = aligned_append _ _ (aligned_take (fit w - 1) (entries_one asks w) first) second;
          })

-- neither of two tests holds
or_left : (a b : Bool) → (a || b) ≡ false → a ≡ false
or_left true b e = e
or_left false b e = refl

or_right : (a b : Bool) → (a || b) ≡ false → b ≡ false
or_right true b e = absurd (false≢true (sym e))
or_right false b e = e

-- what the checks before PRP1 tell of the transfer and of the room
pub record Admitted (w : Walk) : Type 0 where
  pub some : 0 < w.transfer
  pub short : w.transfer ≤ transfer_most
  pub scratch_room : w.least ≤ length w.scratch
  pub address_room : spans_most ≤ length w.address_list
  pub length_room : spans_most ≤ length w.length_list

pub record Walked (m : Machine) (w : Walk) : Type 0 where
  pub admits : Admitted w
  pub first : w.prp1 % 4 ≡ 0
  pub entries : Pages (needed w) (page_entries (asks_of m) w)
  pub reply : walk_says m w ≡ replied (touched w ∷ sum (map looked_in (along says m (walk_fetches m w))) ∷ [])

module _ (m : Machine) (w : Walk) where
  pub admitted : accepted (judged (walk_checks m w)) ≡ true → Admitted w
  admitted e =
      let h = none_applies _ _ e in
      let room = h.1.0 in
      let scratch_short = ltb (length w.scratch) w.least in
      record {
        some = omega (arith, eqb-false w.transfer 0 (or_left (eqb w.transfer 0) _ h.0));
        short = ltb-false _ _ (or_right (eqb w.transfer 0) _ h.0);
        scratch_room = ltb-false _ _ (or_left scratch_short _ (or_left _ (ltb (length w.length_list) spans_most) room));
        address_room = ltb-false _ _ (or_right scratch_short _ (or_left _ (ltb (length w.length_list) spans_most) room));
        length_room = ltb-false _ _ (or_right (scratch_short || ltb (length w.address_list) spans_most) _ room);
      }

  -- what the list fetches looked at, each where the one before it left the machine
  looked_sum : accepted (walk_says m w) ≡ true → looked_behind (asks_of m) w ≡ sum (map looked_in (along says m (walk_fetches m w)))
  unfolding walk_says walk_fetches along ran sum
  looked_sum e = go (listing (asks_of m) w (walk_checks m w) e)
    where
      go : Listing (asks_of m) w (walk_checks m w)
          → looked_behind (asks_of m) w ≡ sum (map looked_in (along says m (fetches_by (asks_of m) w (walk_checks m w))))
      go (no_list e none) = rw none (looked_none (asks_of m) w e)
      go (one_page e fits made) = rw made (looked_lists (asks_of m) w e ∙ lists_one (asks_of m) w fits ∙ omega arith)
      go (two_pages e more made) = rw made (looked_lists (asks_of m) w e ∙ lists_two (asks_of m) w more ∙ omega arith)

  pub walked : accepted (walk_says m w) ≡ true → Walked m w
  unfolding walk_says answer_by
  walked e =
      let asks = asks_of m in
      let checks = walk_checks m w in
      record {
        admits = admitted (checks_taken asks w checks e);
        first = entry_judged 4 w.prp1 (first_taken asks w checks e);
        entries = entries_behind_lem asks w checks e;
        reply =
            all_taken asks w checks (checks_taken asks w checks e) (first_taken asks w checks e) (behind_taken asks w checks e)
            ∙ ap (λ (k : ℕ). replied (touched w ∷ k ∷ [])) (looked_sum e);
      }
