-- A list with walks is the list of its calls and list fetches, and a list without walks is the list of its calls.
use Prim.Native.Nat.{ℕ}
use mathlib.Core.Path.{◌≡◌, refl, ap, sym, ◌∙◌}
use mathlib.Core.List.{List, [], ◌∷◌, ◌++◌, flat_map}
use Rattle.cache.specs.Runs.{Call, Machine, start, says, after, delivers, along, ran}
use Rattle.history.specs.Journal.{event}
use Rattle.walks.specs.Places.{Place, plain, walk, calls_at, place_after, throughout, gathered, went, expanded}
use Rattle.walks.specs.Claims.{WalksAreFetches, WithoutWalks}

-- two lists of calls, one behind the other

pub ran_append : (m : Machine) (ps qs : List Call) → ran m (ps ++ qs) ≡ ran (ran m ps) qs
unfolding ran
ran_append m [] qs = refl
ran_append m (p ∷ ps) qs = ran_append (after m p) ps qs

along_append : {A : Type 0} (f : Machine → Call → A) (m : Machine) (ps qs : List Call) → along f m (ps ++ qs) ≡ along f m ps ++ along f (ran m ps) qs
unfolding ran along
along_append f m [] qs = refl
along_append f m (p ∷ ps) qs = ap (λ (rest : List _). f m p ∷ rest) (along_append f (after m p) ps qs)

-- a place leaves what its calls leave

pub after_calls : (m : Machine) (p : Place) → place_after m p ≡ ran m (calls_at m p)
unfolding ran
after_calls m (plain p) = refl
after_calls m (walk w) = refl

-- and so does a list of places

pub went_ran : (m : Machine) (ps : List Place) → went m ps ≡ ran m (expanded m ps)
unfolding went expanded ran
went_ran m [] = refl
went_ran m (p ∷ ps) =
    went_ran (place_after m p) ps
    ∙ ap (λ (k : Machine). ran k (expanded (place_after m p) ps)) (after_calls m p)
    ∙ sym (ran_append m (calls_at m p) (expanded (place_after m p) ps))

-- what is told at each of its calls is told along the list that it comes to

pub gathered_along :
    {A : Type 0} (f : Machine → Call → A) (m : Machine) (ps : List Place)
    → gathered (throughout (λ k p. along f k (calls_at k p)) m ps) ≡ along f m (expanded m ps)
unfolding throughout expanded along flat_map
gathered_along f m [] = refl
gathered_along f m (p ∷ ps) =
    ap (λ (rest : List _). along f m (calls_at m p) ++ rest)
    (gathered_along f (place_after m p) ps ∙ ap (λ (k : Machine). along f k (expanded (place_after m p) ps)) (after_calls m p))
    ∙ sym (along_append f m (calls_at m p) (expanded (place_after m p) ps))

pub walks_are_fetches : WalksAreFetches
walks_are_fetches store ps = record {
  events = gathered_along event (start store) ps;
  delivered = gathered_along delivers (start store) ps;
  leaves = went_ran (start store) ps;
}

pub without_walks : WithoutWalks
unfolding expanded throughout along went ran flat_map
without_walks m [] = record { calls = refl; answers = refl; delivered = refl; leaves = refl }
without_walks m (p ∷ ps) =
    let W = without_walks (after m p) ps in
    record {
      calls = ap (λ (rest : List Call). p ∷ rest) W.calls;
      answers = ap (λ (rest : List _). says m p ∷ rest) W.answers;
      delivered = ap (λ (rest : List (List ℕ)). delivers m p ∷ rest) W.delivered;
      leaves = W.leaves;
    }
