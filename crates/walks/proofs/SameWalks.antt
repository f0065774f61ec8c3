-- Two walks that differ in the bytes of their windows alone, at one machine and with one memory: where their first fetches agree they do the same.
use Prim.Native.Nat.{ℕ, ◌+◌, ◌-◌}
use mathlib.Core.Path.{◌≡◌, refl, ap, ap₂, subst, sym, ◌∙◌}
use mathlib.Core.List.{List, [], ◌∷◌, ◌++◌, flat_map}
use mathlib.Core.Bool.{Bool, true, false, false≢true, ◌&&◌}
use lib.ListN.{length, take, get_or}
use Rattle.octets.proofs.Lists.{both}
use Rattle.state.specs.Verdict.{Reply, replied, accepted, looked_in, Check}
use Rattle.cache.specs.Runs.{Call, Machine, says, after, delivers, along, ran}
use Rattle.history.specs.Journal.{Event, event, told}
use Rattle.history.specs.Firsts.{First, memory, firsts}
use Rattle.history.proofs.Sound.{Sound, sound_after}
use Rattle.history.proofs.Alike.{Alike, fetches}
use Rattle.prp.specs.Pages.{Walk, touched, with_list, fit, chained, first_count, second_count}
use Rattle.prp.specs.Entries.{Got, wrong_multiple, judged, ◌then◌, entries_in, list_fetch, page_says}
use Rattle.prp.specs.Walk.{Asks, asks_of, list_one, list_two, got_one, got_two, behind_says, answer_by, page_entries, looked_behind, makes_one, makes_two}
use Rattle.prp.specs.Walk.{fetches_by, walk_checks}
use Rattle.prp.proofs.Answers.{then_same}
use Rattle.prp.proofs.Said.{made_one}
use Rattle.prp.proofs.Listed.{entries_none, entries_one_lem, entries_two_lem, looked_none, looked_lists, lists_one, lists_two}
use Rattle.prp.proofs.Listing.{Listing, no_list, one_page, two_pages, listing, fetches_made, first_made, all_taken, makes_one_lem, makes_two_lem}
use Rattle.walks.specs.Places.{gathered}
use Rattle.walks.specs.Claims.{agree}
use Rattle.walks.proofs.Agreeing.{agree_front, agree_rest}
use Rattle.walks.proofs.SameCalls.{SameCall, same_call, SameRun, same_none, same_next}

-- a walk with other bytes in its scratch and its window
abbrev pub with_bytes : Walk → (scratch window : List ℕ) → Walk
with_bytes w scratch window = record {
  command = w.command;
  prp1 = w.prp1;
  prp2 = w.prp2;
  transfer = w.transfer;
  least = w.least;
  scratch = scratch;
  address_list = w.address_list;
  length_list = w.length_list;
  window = window;
}

-- Where the list fetches that are made get the same, the answer is the same, and so are of an accepted walk the entries, and the records looked at.
module _ (asks : Asks) (w : Walk) (scratch window : List ℕ) (checks : List Check)
    (one : makes_one asks w checks ≡ true → got_one asks w ≡ got_one asks (with_bytes w scratch window))
    (two : makes_two asks w checks ≡ true → got_two asks w ≡ got_two asks (with_bytes w scratch window)) where
  abbrev v : Walk
  v = with_bytes w scratch window

  pages_same : makes_one asks w checks ≡ true
      → (page_says (first_count w) (got_one asks w) then elim (chained w) [ true ↦ page_says (second_count w) (got_two asks w) | false ↦ replied [] ])
      ≡ (page_says (first_count w) (got_one asks v) then elim (chained w) [ true ↦ page_says (second_count w) (got_two asks v) | false ↦ replied [] ])
  pages_same made =
      then_same (page_says (first_count w) (got_one asks w)) _ _ (λ page. go page (chained w) refl)
      ∙ ap (λ (g : Got). page_says (first_count w) g then elim (chained w) [ true ↦ page_says (second_count w) (got_two asks v) | false ↦ replied [] ]) (one made)
    where
      go : accepted (page_says (first_count w) (got_one asks w)) ≡ true → (b : Bool) → chained w ≡ b
          → ◌≡◌ {A = Reply} (elim b [ true ↦ page_says (second_count w) (got_two asks w) | false ↦ replied [] ])
          (elim b [ true ↦ page_says (second_count w) (got_two asks v) | false ↦ replied [] ])
      go page true e = ap (page_says (second_count w)) (two (both (both made e) page))
      go page false e = refl

  looked_same : accepted (answer_by asks w checks) ≡ true → looked_behind asks w ≡ looked_behind asks v
  looked_same taken = go (listing asks w checks taken)
    where
      go : Listing asks w checks → looked_behind asks w ≡ looked_behind asks v
      go (no_list e none) = looked_none asks w e ∙ sym (looked_none asks v e)
      go (one_page e u made) =
          looked_lists asks w e ∙ lists_one asks w u ∙ ap (λ (g : Got). looked_in g.answer) (one (makes_one_lem asks w checks taken e))
          ∙ sym (looked_lists asks v e ∙ lists_one asks v u)
      go (two_pages e u made) =
          looked_lists asks w e ∙ lists_two asks w u
          ∙ ap₂ (λ g h. looked_in g.answer + looked_in h.answer) (one (makes_one_lem asks w checks taken e)) (two (makes_two_lem asks w checks taken e u))
          ∙ sym (looked_lists asks v e ∙ lists_two asks v u)

  pub answer_same : answer_by asks w checks ≡ answer_by asks v checks
  unfolding answer_by accepted
  answer_same =
      then_same (judged checks) _ _ λ fine.
      then_same (judged (wrong_multiple 4 w.prp1 ∷ [])) _ _ λ fine1.
      then_same (behind_says asks w) _ _ (λ fine2.
      ap (λ (k : ℕ). replied (touched w ∷ k ∷ [])) (looked_same (ap accepted (all_taken asks w checks fine fine1 fine2))))
      ∙ ap (λ (r : Reply). r then replied (touched w ∷ looked_behind asks v ∷ [])) (go fine fine1 (with_list w) refl)
    where
      go : accepted (judged checks) ≡ true → accepted (judged (wrong_multiple 4 w.prp1 ∷ [])) ≡ true → (b : Bool) → with_list w ≡ b
          → behind_says asks w ≡ behind_says asks v
      go fine fine1 true e =
          rw (e, behind_says) (then_same (judged (wrong_multiple 8 w.prp2 ∷ [])) _ _ λ fine2. pages_same (made_one asks w checks e fine fine1 fine2))
      go fine fine1 false e = rw (e, behind_says)

  pub entries_same : accepted (answer_by asks w checks) ≡ true → page_entries asks w ≡ page_entries asks v
  entries_same taken = go (listing asks w checks taken)
    where
      go : Listing asks w checks → page_entries asks w ≡ page_entries asks v
      go (no_list e none) = entries_none asks w e ∙ sym (entries_none asks v e)
      go (one_page e u made) =
          entries_one_lem asks w e u ∙ ap (λ (g : Got). entries_in (first_count w) g.bytes) (one (makes_one_lem asks w checks taken e))
          ∙ sym (entries_one_lem asks v e u)
      go (two_pages e u made) =
          entries_two_lem asks w e u
          ∙ ap₂ (λ g h. take (fit w - 1) (entries_in (first_count w) g.bytes) ++ entries_in (second_count w) h.bytes)
          (one (makes_one_lem asks w checks taken e)) (two (makes_two_lem asks w checks taken e u))
          ∙ sym (entries_two_lem asks v e u)

-- at one machine
module _ (m : Machine) (w : Walk) (scratch window : List ℕ) (room : length w.scratch ≡ length scratch) (size : length w.window ≡ length window) where
  abbrev w' : Walk
  w' = with_bytes w scratch window

  abbrev asks : Asks
  asks = asks_of m

  abbrev checks : List Check
  checks = walk_checks m w

  pub checks_same : walk_checks m w' ≡ checks
  checks_same = rw (room, size)

  -- what the list fetches that the two make have in common
  pub record Pair (past past' : List Event) : Type 0 where
    pub one : makes_one asks w checks ≡ true → got_one asks w ≡ got_one asks w'
    pub two : makes_two asks w checks ≡ true → got_two asks w ≡ got_two asks w'
    pub run : SameRun m past past' (fetches_by asks w checks) (fetches_by asks w' checks)

  module _ (past past' : List Event) (known : memory past ≡ memory past') (S : Sound m (memory past))
      (agreed : agree (gathered (told firsts past (along event m (fetches_by asks w checks))))
      (gathered (told firsts past' (along event m (fetches_by asks w' checks)))) ≡ true) where
    abbrev first : Call
    first = list_one asks w

    abbrev first' : Call
    first' = list_one asks w'

    abbrev more : Walk → List Call
    more u = elim (makes_two asks u checks) [ true ↦ list_two asks u ∷ [] | false ↦ [] ]

    none_made : makes_one asks w checks ≡ false → Pair past past'
    none_made e = record {
      one = λ h. absurd (false≢true (sym e ∙ h));
      two = λ h. absurd (false≢true (sym e ∙ first_made asks w checks h));
      run = rw (fetches_made asks w checks false _ e refl, fetches_made asks w' checks false _ e refl) (same_none m past past' known);
    }

    module _ (made : makes_one asks w checks ≡ true) where
      fetches_first : fetches_by asks w checks ≡ first ∷ more w
      fetches_first = fetches_made asks w checks true _ made refl

      fetches_first' : fetches_by asks w' checks ≡ first' ∷ more w'
      fetches_first' = fetches_made asks w' checks true _ made refl

      abbrev firsts_of : List Event → Machine → List Call → List First
      firsts_of before k ps = gathered (told firsts before (along event k ps))

      agreed_all : agree (firsts past (event m first) ++ firsts_of (event m first ∷ past) (after m first) (more w))
          (firsts past' (event m first') ++ firsts_of (event m first' ∷ past') (after m first') (more w')) ≡ true
      unfolding told along flat_map
      agreed_all =
          sym (ap₂ (λ fs gs. agree fs gs) (ap (firsts_of past m) fetches_first) (ap (firsts_of past' m) fetches_first')) ∙ agreed

      step_one : SameCall m past past' first first'
      step_one =
          same_call m past past' first first' known S (fetches refl size)
          (agree_front (firsts past (event m first)) _ (firsts past' (event m first')) _ agreed_all)

      got_one_same : got_one asks w ≡ got_one asks w'
      unfolding ran
      got_one_same i = record { answer = step_one.answer i; bytes = step_one.delivered i }

      two_alike : makes_two asks w checks ≡ makes_two asks w' checks
      two_alike = ap (λ (g : Got). (makes_one asks w checks && chained w) && accepted (page_says (first_count w) g)) got_one_same

      one_made : makes_two asks w checks ≡ false → Pair past past'
      one_made e = record {
        one = λ _. got_one_same;
        two = λ h. absurd (false≢true (sym e ∙ h));
        run =
            rw (fetches_made asks w checks true false made e, fetches_made asks w' checks true false made (sym two_alike ∙ e))
            (same_next m past past' first first' [] [] step_one
            (same_none (after m first) (event m first ∷ past) (event m first' ∷ past') step_one.remembered));
      }

      module _ (made2 : makes_two asks w checks ≡ true) where
        abbrev second : Call
        second = list_two asks w

        abbrev second' : Call
        second' = list_two asks w'

        alike_two : Alike second second'
        alike_two =
            subst (λ (a : ℕ). Alike second (list_fetch w.command a (second_count w) window))
            (ap (λ (g : Got). get_or (entries_in (first_count w) g.bytes) (fit w - 1) 0) got_one_same) (fetches refl size)

        agreed_two :
            agree (firsts (event m first ∷ past) (event (after m first) second)) (firsts (event m first' ∷ past') (event (after m first) second')) ≡ true
        unfolding told along flat_map
        agreed_two =
            let P = event m first ∷ past in
            let P' = event m first' ∷ past' in
            let here : more w ≡ second ∷ [] = ap (λ (b : Bool). elim b [ true ↦ second ∷ [] | false ↦ [] ]) made2 in
            let there : more w' ≡ second' ∷ [] = ap (λ (b : Bool). elim b [ true ↦ second' ∷ [] | false ↦ [] ]) (sym two_alike ∙ made2) in
            let rest = agree_rest (firsts past (event m first)) (firsts_of P (after m first) (more w))
            (firsts past' (event m first')) (firsts_of P' (after m first') (more w')) agreed_all in
            let both_made : agree (firsts_of P (after m first) (second ∷ [])) (firsts_of P' (after m first) (second' ∷ [])) ≡ true =
            sym (ap₂ (λ fs gs. agree fs gs) (ap (firsts_of P (after m first)) here) (ap₂ (firsts_of P') (sym step_one.leaves) there)) ∙ rest in
            agree_front (firsts P (event (after m first) second)) [] (firsts P' (event (after m first) second')) [] both_made

        step_two : SameCall (after m first) (event m first ∷ past) (event m first' ∷ past') second second'
        unfolding memory
        step_two =
            same_call (after m first) (event m first ∷ past) (event m first' ∷ past') second second' step_one.remembered
            (sound_after m (memory past) first (accepted (says m first)) refl S) alike_two agreed_two

        got_two_same : got_two asks w ≡ got_two asks w'
        unfolding ran
        got_two_same =
            let answers = step_two.answer ∙ ap (λ (j : Machine). says j second') step_one.leaves in
            let bytes = step_two.delivered ∙ ap (λ (j : Machine). delivers j second') step_one.leaves in
            λ i. record { answer = answers i; bytes = bytes i }

        two_made : Pair past past'
        two_made = record {
          one = λ _. got_one_same;
          two = λ _. got_two_same;
          run =
              rw (fetches_made asks w checks true true made made2, fetches_made asks w' checks true true made (sym two_alike ∙ made2))
              (same_next m past past' first first' (second ∷ []) (second' ∷ []) step_one
              (same_next (after m first) (event m first ∷ past) (event m first' ∷ past') second second' [] [] step_two
              (same_none (after (after m first) second) _ _ step_two.remembered)));
        }

    pub pair : Pair past past'
    pair = go (makes_one asks w checks) refl (makes_two asks w checks) refl
      where
        go : (b : Bool) → makes_one asks w checks ≡ b → (d : Bool) → makes_two asks w checks ≡ d → Pair past past'
        go false e d f = none_made e
        go true e false f = one_made e f
        go true e true f = two_made e f
