-- The walk as a whole: refused before PRP1 is judged, or what its entries and its spans come to.
use Prim.Native.Nat.{ℕ}
use mathlib.Core.Path.{◌≡◌, refl, ap, sym, ◌∙◌}
use mathlib.Core.List.{List, [], ◌∷◌}
use mathlib.Core.Bool.{Bool, true, false, cond, not, ◌&&◌}
use Rattle.std.specs.Prelude.{Result, Err}
use lib.ListN.{length, replicate}
use Rattle.octets.specs.Lists.{overwrite}
use Rattle.state.specs.declared.refusal.Refusal.{Refusal}
use Rattle.state.specs.declared.answer.WalkCounts.{WalkCounts}
use Rattle.state.specs.Answers.{walk_reply}
use Rattle.state.specs.Refusals.{number}
use Rattle.state.specs.Verdict.{Reply, refused, replied, accepted, Check, ◌⇒◌, verdict}
use Rattle.cache.specs.Runs.{Call, Machine, given, ran}
use Rattle.prp.specs.Pages.{Walk, touched, needed, span_lengths, with_list, chained, first_count}
use Rattle.prp.specs.Entries.{entries_behind, is_multiple, wrong_multiple, judged, ◌then◌, page_says}
use Rattle.prp.specs.Walk.{Asks, got_one, list_one, list_two, behind_says, page_entries, looked_behind, answer_by, makes_one, fetches_by, asks_of, walk_checks}
use Rattle.prp.specs.Walk.{walk_says, walk_fetches, walk_after, walk_scratch, walk_addresses, walk_lengths}
use Rattle.prp.proofs.Answers.{then_goes_on, then_assoc, then_replies, then_same}
use Rattle.prp.proofs.Refused.{refused_early}
use Rattle.listing.specs.Page.{gathered_reply, looked_by}
use Rattle.lists.specs.Lists.{asked, lists_make}
use Rattle.walk.specs.Parts.{entries_make, Gathers, Concludes}
use Rattle.walk.specs.Walk.{lent, Walks}

-- the list fetches of the whole walk are those of its entries, once the checks are passed

twice_tested : (b s t : Bool) (p : Call) (rest : List Call)
    → cond b (p ∷ elim (b && s && t) [ true ↦ rest | false ↦ [] ]) [] ≡ cond b (p ∷ elim (s && t) [ true ↦ rest | false ↦ [] ]) []
twice_tested true s t p rest = refl
twice_tested false s t p rest = refl

in_turn : (l p q : Bool) (calls : List Call)
    → cond (l && accepted (judged (not p ⇒ 32 ∷ not q ⇒ 32 ∷ []))) calls []
    ≡ cond (accepted (judged (not p ⇒ 32 ∷ [])) && l) (cond (accepted (judged (not q ⇒ 32 ∷ []))) calls []) []
unfolding verdict accepted
in_turn true true true calls = refl
in_turn true true false calls = refl
in_turn true false q calls = refl
in_turn false true q calls = refl
in_turn false false q calls = refl

module _ (asks : Asks) (w : Walk) (checks : List Check) (passed : accepted (judged checks) ≡ true) where
  abbrev second : Bool
  second = accepted (page_says (first_count w) (got_one asks w))

  abbrev calls : List Call
  calls = list_one asks w ∷ elim (chained w && second) [ true ↦ list_two asks w ∷ [] | false ↦ [] ]

  pub made : fetches_by asks w checks ≡ entries_make asks w
  unfolding fetches_by entries_make lists_make
  made =
      twice_tested (makes_one asks w checks) (chained w) second (list_one asks w) (list_two asks w ∷ [])
      ∙ ap (λ (q : Reply). cond (with_list w && accepted q) calls []) (then_goes_on _ (judged checks) passed)
      ∙ in_turn (with_list w) (is_multiple 4 w.prp1) (is_multiple 8 w.prp2) calls

module _ (words store : List ℕ) (c prp1 prp2 transfer : ℕ) (window scratch addresses lengths : List ℕ) where
  abbrev m : Machine
  m = given words store

  abbrev w : Walk
  w = lent c prp1 prp2 transfer window scratch addresses lengths

  abbrev a : Walk
  a = asked c prp1 prp2 transfer window

  pub refused_walk : (why : Refusal) → refused (number why) ≡ judged (walk_checks m w) → Walks words store w (Err why) words store scratch addresses lengths
  unfolding accepted walk_says answer_by
  refused_walk why said =
      let N = refused_early m w (ap accepted (sym said)) in
      record {
        answer =
            ap
            (λ (q : Reply).
            q then judged (wrong_multiple 4 prp1 ∷ []) then behind_says (asks_of m) w then replied (touched w ∷ looked_behind (asks_of m) w ∷ []))
            said;
        machine = sym N.machine;
        scratch = sym N.scratch;
        addresses = sym N.lists.addresses;
        lengths = sym N.lists.lengths;
      }

  module _ (passed : accepted (judged (walk_checks m w)) ≡ true) (g : Result ℕ Refusal) (words' store' scratch' : List ℕ) (sized : length scratch' ≡ length scratch)
      (G : Gathers words store a g words' store' scratch') (r : Result WalkCounts Refusal) (addresses' lengths' : List ℕ)
      (C : Concludes g (asked 0 prp1 prp2 transfer []) scratch' addresses lengths r addresses' lengths') where
    abbrev spans : Reply
    spans = replied (touched w ∷ looked_behind (asks_of m) w ∷ [])

    said : walk_reply r ≡ walk_says m w
    unfolding walk_says answer_by looked_behind
    said =
        C.answer ∙ then_same (gathered_reply g) _ spans (λ e. ap (λ (k : ℕ). replied (touched w ∷ k ∷ [])) (G.looked e))
        ∙ ap (λ (q : Reply). q then spans) G.answer
        ∙ then_assoc (judged (wrong_multiple 4 prp1 ∷ [])) (behind_says (asks_of m) w) spans ∙ sym (then_goes_on _ (judged (walk_checks m w)) passed)

    taken : accepted (gathered_reply g) ≡ accepted (walk_says m w)
    taken = sym (then_replies (gathered_reply g) (touched w ∷ looked_by g ∷ [])) ∙ ap accepted (sym C.answer ∙ said)

    left : given words' store' ≡ walk_after m w
    unfolding walk_fetches entries_make lists_make
    left = G.machine ∙ ap (ran m) (sym (made (asks_of m) w (walk_checks m w) passed))

    zeroed : replicate (length scratch') 0 ≡ walk_scratch m w
    unfolding walk_scratch
    zeroed = rw passed (ap (λ (n : ℕ). replicate n 0) sized)

    starts : addresses' ≡ walk_addresses m w
    unfolding walk_addresses page_entries
    starts = C.starts ∙ go (accepted (gathered_reply g)) refl ∙ ap (λ (b : Bool). cond b put addresses) taken
      where
        put : List ℕ
        put = overwrite addresses 0 (prp1 ∷ page_entries (asks_of m) w)

        go : (b : Bool) → accepted (gathered_reply g) ≡ b
            → cond b (overwrite addresses 0 (prp1 ∷ entries_behind prp2 (needed w) scratch')) addresses ≡ cond b put addresses
        go true e = ap (λ (es : List ℕ). overwrite addresses 0 (prp1 ∷ es)) (G.entries e)
        go false e = refl

    sizes : lengths' ≡ walk_lengths m w
    unfolding walk_lengths span_lengths
    sizes = C.sizes ∙ ap (λ (b : Bool). cond b (overwrite lengths 0 (span_lengths w)) lengths) taken

    pub whole_walk : Walks words store w r words' store' (replicate (length scratch') 0) addresses' lengths'
    whole_walk = record { answer = said; machine = left; scratch = zeroed; addresses = starts; lengths = sizes }
