-- Two alike calls, and two lists of them, at one machine and with one memory: where their first fetches agree they do the same.
use mathlib.Core.Path.{◌≡◌, refl, ap, ap₂, sym, ◌∙◌}
use mathlib.Core.List.{List, [], ◌∷◌, map}
use mathlib.Core.Bool.{true}
use Rattle.state.specs.Verdict.{accepted}
use Rattle.cache.specs.Runs.{Call, Machine, says, after, delivers, along, ran}
use Rattle.history.specs.Journal.{Event, event, backwards, deed_of}
use Rattle.history.specs.Firsts.{memory, firsts, firsts_by}
use Rattle.history.proofs.Sound.{Sound}
use Rattle.history.proofs.Delivery.{delivers_owed}
use Rattle.history.proofs.Alike.{Alike, view, says_alike, state_alike}
use Rattle.history.proofs.EqualRuns.{twin, firsts_carry, accepted_alike, stores_alike}
use Rattle.walks.specs.Claims.{agree}
use Rattle.walks.proofs.Agreeing.{agree_equal}

-- what two calls have in common, with what is known after each
pub record SameCall (m : Machine) (past past' : List Event) (p q : Call) : Type 0 where
  pub answer : says m p ≡ says m q
  pub delivered : delivers m p ≡ delivers m q
  pub leaves : after m p ≡ after m q
  pub remembered : memory (event m p ∷ past) ≡ memory (event m q ∷ past')

pub same_call :
    (m : Machine) (past past' : List Event) (p q : Call) → memory past ≡ memory past' → Sound m (memory past) → Alike p q
    → agree (firsts past (event m p)) (firsts past' (event m q)) ≡ true → SameCall m past past' p q
unfolding memory
same_call m past past' p q known S A agreed =
    let ok = accepted (says m p) in
    let mem = memory past in
    let too : accepted (says m q) ≡ ok = accepted_alike m p q A refl in
    let here : agree (firsts_by mem (deed_of ok p)) (firsts_by mem (deed_of ok q)) ≡ true = rw (too, ← known) at agreed in
    let equal = agree_equal mem (deed_of ok p) (deed_of ok q) (view ok A) here in
    let (carried, owing) = firsts_carry (deed_of ok p) (deed_of ok q) mem (view ok A) equal in
    let states = state_alike (twin {m = m} refl) A in
    let stores = stores_alike mem ok S A refl equal in
    record {
      answer = says_alike (twin refl) A;
      delivered = delivers_owed m mem p ok refl S ∙ owing ∙ sym (delivers_owed m mem q ok too S);
      leaves = λ i. record { state = states i; store = stores i };
      remembered = rw (too, ← known) carried;
    }

-- and two lists of calls
pub record SameRun (m : Machine) (past past' : List Event) (ps qs : List Call) : Type 0 where
  pub answers : map (λ e. e.answer) (along event m ps) ≡ map (λ e. e.answer) (along event m qs)
  pub delivered : along delivers m ps ≡ along delivers m qs
  pub leaves : ran m ps ≡ ran m qs
  pub remembered : memory (backwards past (along event m ps)) ≡ memory (backwards past' (along event m qs))

module _ (m : Machine) (past past' : List Event) where
  pub same_none : memory past ≡ memory past' → SameRun m past past' [] []
  unfolding along ran backwards
  same_none known = record { answers = refl; delivered = refl; leaves = refl; remembered = known }

  pub same_next : (p q : Call) (ps qs : List Call) → SameCall m past past' p q
      → SameRun (after m p) (event m p ∷ past) (event m q ∷ past') ps qs → SameRun m past past' (p ∷ ps) (q ∷ qs)
  unfolding along ran backwards
  same_next p q ps qs C R = record {
    answers = ap₂ ◌∷◌ C.answer (R.answers ∙ ap (λ (j : Machine). map (λ e. e.answer) (along event j qs)) C.leaves);
    delivered = ap₂ ◌∷◌ C.delivered (R.delivered ∙ ap (λ (j : Machine). along delivers j qs) C.leaves);
    leaves = R.leaves ∙ ap (λ (j : Machine). ran j qs) C.leaves;
    remembered = R.remembered ∙ ap (λ (j : Machine). memory (backwards (event m q ∷ past') (along event j qs))) C.leaves;
  }
