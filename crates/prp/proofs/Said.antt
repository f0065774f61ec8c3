-- What a walk answers: a reply, 32, or what its checks or the list fetches that it makes are answered with.
use Prim.Native.Nat.{ℕ}
use mathlib.Core.Path.{◌≡◌, refl, ap, ◌∙◌}
use mathlib.Core.List.{List, [], ◌∷◌, map}
use mathlib.Core.Bool.{Bool, true, false, cond}
use lib.Dec.{eqb}
use Rattle.octets.specs.Lists.{all}
use Rattle.octets.proofs.Lists.{both}
use Rattle.state.specs.Verdict.{Reply, refused, replied, accepted, Check}
use Rattle.state.proofs.Verdict.{verdict_passes}
use Rattle.prp.specs.Pages.{Walk, page_size, needed, with_list, chained, first_count, second_count, touched}
use Rattle.prp.specs.Entries.{Got, is_multiple, wrong_multiple, judged, ◌then◌, entries_in, page_says}
use Rattle.prp.specs.Walk.{Asks, got_one, got_two, lists_say, behind_says, looked_behind, answer_by, makes_one, makes_two}
use Rattle.prp.proofs.Answers.{then_goes_on}
use Rattle.prp.proofs.Entries.{judged_all}

module _ (asks : Asks) (w : Walk) where
  -- what is said behind PRP1, with a list or without
  abbrev pub said_if : Bool → Reply
  said_if list = elim list [
    | true ↦ lists_say asks w
    | false ↦ judged (elim (eqb (needed w) 0) [ true ↦ [] | false ↦ wrong_multiple page_size w.prp2 ∷ [] ])
  ]

  -- the first list fetch is made where PRP2 points to a list and nothing is wrong before it
  pub made_one : (checks : List Check) → with_list w ≡ true → accepted (judged checks) ≡ true
      → accepted (judged (wrong_multiple 4 w.prp1 ∷ [])) ≡ true → accepted (judged (wrong_multiple 8 w.prp2 ∷ [])) ≡ true
      → makes_one asks w checks ≡ true
  made_one checks listed fine fine1 fine2 =
      both listed
      (ap accepted (then_goes_on _ (judged checks) fine ∙ verdict_passes (wrong_multiple 8 w.prp2 ∷ []) _ _ (wrong_multiple 4 w.prp1 ∷ []) fine1) ∙ fine2)

-- What holds of every reply and of 32 holds of a walk's answer, if it holds of what its checks say and of the answers to the list fetches it makes.
module _ (Q : Reply → Type 0) (gives : (ns : List ℕ) → Q (replied ns)) (misaligned : Q (refused 32)) where
  then_said : (r s : Reply) → Q r → (accepted r ≡ true → Q s) → Q (r then s)
  unfolding accepted
  then_said (refused k) s h next = h
  then_said (replied ns) s h next = next refl

  judged_said : (k : ℕ) (xs : List ℕ) → Q (judged (map (wrong_multiple k) xs))
  judged_said k xs = rw (judged_all k xs) (go (all (is_multiple k) xs))
    where
      go : (b : Bool) → Q (cond b (replied []) (refused 32))
      go true = gives []
      go false = misaligned

  page_said : (k : ℕ) (got : Got) → Q got.answer → Q (page_says k got)
  page_said k got h = then_said got.answer _ h (λ _. judged_said page_size (entries_in k got.bytes))

  module _ (asks : Asks) (w : Walk) (checks : List Check) (first : Q (judged checks))
      (one : makes_one asks w checks ≡ true → Q (got_one asks w).answer) (two : makes_two asks w checks ≡ true → Q (got_two asks w).answer) where
    module _ (fine : accepted (judged checks) ≡ true) (fine1 : accepted (judged (wrong_multiple 4 w.prp1 ∷ [])) ≡ true) where
      lists_said : with_list w ≡ true → Q (lists_say asks w)
      lists_said listed =
          then_said (judged (wrong_multiple 8 w.prp2 ∷ [])) _ (judged_said 8 (w.prp2 ∷ [])) λ fine2.
          let made = made_one asks w checks listed fine fine1 fine2 in
          then_said (page_says (first_count w) (got_one asks w)) _ (page_said (first_count w) (got_one asks w) (one made)) λ page.
          go made page (chained w) refl
        where
          go : makes_one asks w checks ≡ true → accepted (page_says (first_count w) (got_one asks w)) ≡ true → (b : Bool) → chained w ≡ b
              → Q (elim b [ true ↦ page_says (second_count w) (got_two asks w) | false ↦ replied [] ])
          go made page true e = page_said (second_count w) (got_two asks w) (two (both (both made e) page))
          go made page false e = gives []

      behind_said : Q (behind_says asks w)
      behind_said = go (with_list w) refl
        where
          alone : (b : Bool) → Q (judged (elim b [ true ↦ [] | false ↦ wrong_multiple page_size w.prp2 ∷ [] ]))
          alone true = judged_said page_size []
          alone false = judged_said page_size (w.prp2 ∷ [])

          go : (b : Bool) → with_list w ≡ b → Q (said_if asks w b)
          go true e = lists_said e
          go false e = alone (eqb (needed w) 0)

    pub walk_said : Q (answer_by asks w checks)
    unfolding answer_by
    walk_said =
        then_said (judged checks) _ first λ fine.
        then_said (judged (wrong_multiple 4 w.prp1 ∷ [])) _ (judged_said 4 (w.prp1 ∷ [])) λ fine1.
        then_said (behind_says asks w) _ (behind_said fine fine1) λ _. gives (touched w ∷ looked_behind asks w ∷ [])
