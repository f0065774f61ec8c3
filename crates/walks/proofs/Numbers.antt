-- The numbers with which a walk is refused: never 20 in a list from the fresh state, and behind the checks 32, 9, 23 and 24 alone.
use Prim.Native.Nat.{ℕ, ◌≤◌, ◌*◌}
use native.Mathlib.Omega.{arith}
use mathlib.Core.Path.{◌≡◌, refl, ap, subst, sym, ◌∙◌}
use mathlib.Core.List.{List, [], ◌∷◌, ◌++◌}
use mathlib.Core.Logic.{◌≢◌}
use mathlib.Core.Bool.{Bool, true, false, not, ◌&&◌, ◌||◌, or-false}
use lib.Dec.{leb, ltb, eqb}
use lib.ListN.{length, replicate, length-replicate}
use borrow.Author.Tests.{le-ltb, not-false}
use Rattle.octets.specs.Lists.{all}
use Rattle.octets.proofs.Lists.{and_left, and_right}
use Rattle.state.specs.Limits.{command_limit, window_limit, store_size}
use Rattle.state.specs.State.{CommandState, holds, has_shape, is_open, open_with}
use Rattle.state.specs.Verdict.{refused, replied, accepted, Check, ◌⇒◌, verdict, contains, keeps_to}
use Rattle.state.proofs.Verdict.{none_applies, given, never_given}
use Rattle.state.proofs.Commands.{command_same, eight}
use Rattle.cache.specs.Fetch.{fetch_says}
use Rattle.cache.specs.Runs.{Call, Machine, start, says, after, ran}
use Rattle.history.proofs.Effects.{grown, found, fetch_after, fetch_taken, packed_fits, length_after}
use Rattle.history.proofs.Invariant.{Whole, whole_replaced, always_holds, never_broken}
use Rattle.prp.specs.Pages.{Walk, chained, first_count, second_count}
use Rattle.prp.specs.Entries.{judged, list_fetch}
use Rattle.prp.specs.Walk.{asks_of, list_one, list_two, onward, got_one, walk_checks, walk_says, makes_one}
use Rattle.prp.proofs.Answers.{then_first}
use Rattle.prp.proofs.Said.{walk_said}
use Rattle.prp.proofs.Accepted.{admitted}
use Rattle.prp.proofs.Numbers.{few_needed}
use Rattle.walks.specs.Places.{Place, plain, walk, went, expanded}
use Rattle.walks.specs.Claims.{PlacesNeverBroken, NumbersBehind}
use Rattle.walks.proofs.Expanded.{ran_append, went_ran}

-- From the fresh state on neither a call nor a list fetch is answered with 20.

module _ (store : List ℕ) (ps : List Place) where
  abbrev m : Machine
  m = went (start store) ps

  asked_never : (before : List Call) (p : Call) → says (ran m before) p ≢ refused 20
  asked_never before p =
      let qs = expanded (start store) ps in
      subst (λ (k : Machine). says k p ≢ refused 20)
      (ran_append (start store) qs before ∙ ap (λ (k : Machine). ran k before) (sym (went_ran (start store) ps))) (never_broken store (qs ++ before) p)

  walk_never : (w : Walk) → walk_says m w ≢ refused 20
  unfolding walk_says all verdict
  walk_never w =
      let whole : holds m.state ≡ true = rw (went_ran (start store) ps) (always_holds store (expanded (start store) ps)).0 in
      walk_said (λ r. r ≢ refused 20) (λ ns. never_given 20 [] ns refl) (never_given 20 (true ⇒ 32 ∷ []) [] refl) (asks_of m) w (walk_checks m w)
      (never_given 20 (walk_checks m w) [] (rw whole)) (λ _. asked_never [] (list_one (asks_of m) w))
      (λ _. asked_never (list_one (asks_of m) w ∷ []) (list_two (asks_of m) w))

pub places_never_broken : PlacesNeverBroken
unfolding ran
places_never_broken store ps (plain p) = asked_never store ps [] p
places_never_broken store ps (walk w) = walk_never store ps w

-- the numbers behind the checks
abbrev behind : List ℕ
behind = 32 ∷ 9 ∷ 23 ∷ 24 ∷ []

-- the number given is one of those of the checks that can apply
keeps_applying :
    (ks : List ℕ) (cs : List Check) (ns : List ℕ) → all (λ c. contains ks c.number || not c.applies) cs ≡ true
    → keeps_to ks (verdict cs (replied ns)) ≡ true
unfolding verdict all keeps_to
keeps_applying ks [] ns h = refl
keeps_applying ks (c ∷ cs) ns h =
    let here = contains ks c.number || not c.applies in
    go c.applies refl (and_left here _ h) (keeps_applying ks cs ns (and_right here _ h))
  where
    go : (b : Bool) → c.applies ≡ b → (contains ks c.number || not c.applies) ≡ true → keeps_to ks (verdict cs (replied ns)) ≡ true
        → keeps_to ks (verdict (c ∷ cs) (replied ns)) ≡ true
    go true e first rest = rw e (sym (or-false (contains ks c.number)) ∙ rw e at first)
    go false e first rest = rw e rest

-- What the checks before PRP1 have seen to, and a list fetch leaves so
record Passed (m : Machine) (w : Walk) : Type 0 where
  command : leb command_limit w.command ≡ false
  window : ltb window_limit (length w.window) ≡ false
  size : eqb (length m.store) store_size ≡ true
  state : Whole m.state
  opened : is_open m.state w.command ≡ true

module _ (m : Machine) (w : Walk) (P : Passed m w) (a k : ℕ) where
  abbrev blanks : ℕ → List ℕ
  blanks n = replicate (8 * n) 0

  abbrev list : Call
  list = list_fetch w.command a k w.window

  -- a list fetch of so few entries gets 9, 23 or 24, or is accepted
  list_keeps : k ≤ 16 → keeps_to behind (says m list) ≡ true
  unfolding fetch_says all contains
  list_keeps few =
      let short = le-ltb 4096 (8 * k) (omega arith) in
      let roomy = le-ltb (length (blanks k)) (8 * k) (omega (arith, length-replicate {A = ℕ} (8 * k) 0)) in
      keeps_applying behind _ _ (rw (short, P.command, P.window, P.size, roomy, P.state.whole, P.opened))

  passed_after : accepted (says m list) ≡ true → Passed (after m list) w
  passed_after e =
      let c = w.command in
      let F = fetch_taken m c a (8 * k) (blanks k) w.window e in
      let here = fetch_after m c a (8 * k) (blanks k) w.window e in
      let fits = packed_fits m c a (8 * k) (found m c w.window) F in
      record {
        command = P.command;
        window = P.window;
        size = rw (length_after m list) P.size;
        state = subst (λ (j : Machine). Whole j.state) (sym here) (whole_replaced fits P.state);
        opened =
            ap (λ (j : Machine). is_open j.state c) here
            ∙ ap (λ (s : CommandState). s.opened)
            (command_same m.state c (open_with (grown m c a (8 * k))) (omega (arith, eight m.state P.state.shape, F.command)));
      }

module _ (m : Machine) (w : Walk) (shape : has_shape m.state ≡ true) (fine : accepted (judged (walk_checks m w)) ≡ true) where
  passed : Passed m w
  passed =
      let c = (none_applies (walk_checks m w) _ fine).1.1 in
      record {
        command = c.0;
        window = c.1.0;
        size = not-false _ c.1.1.0;
        state = record { whole = not-false _ c.1.1.1.0; shape = shape };
        opened = not-false _ c.1.1.1.1.0;
      }

pub numbers_behind : NumbersBehind
unfolding walk_says keeps_to contains ran
numbers_behind m w shape fine =
    let asks = asks_of m in
    let P = passed m w shape fine in
    let few = few_needed w (admitted m w fine) in
    walk_said (λ r. keeps_to behind r ≡ true) (λ ns. refl) refl asks w (walk_checks m w) (rw (given (walk_checks m w) _ fine))
    (λ _. list_keeps m w P w.prp2 (first_count w) (omega arith))
    (λ made.
    list_keeps (after m (list_one asks w)) w
    (passed_after m w P w.prp2 (first_count w) (then_first _ (got_one asks w).answer (and_right (makes_one asks w (walk_checks m w) && chained w) _ made)))
    (onward asks w) (second_count w) (omega arith))
