-- The list fetches of walks count as fetches: what is claimed of lists of calls holds of lists with walks.
use mathlib.Core.Path.{◌≡◌, refl, ap, ◌∙◌}
use mathlib.Core.List.{List, [], ◌∷◌, map}
use Rattle.cache.specs.Runs.{Call, Machine, start, after, along}
use Rattle.history.specs.Journal.{event}
use Rattle.history.proofs.Delivery.{delivery_rule}
use Rattle.history.proofs.Counts.{counts_tie, end_sum}
use Rattle.history.proofs.Answers.{answers_told}
use Rattle.history.proofs.Tied.{open_told}
use Rattle.history.proofs.Stored.{records_told, stored_bytes}
use Rattle.history.proofs.Stores.{store_told}
use Rattle.history.proofs.Meet.{counts_meet}
use Rattle.history.proofs.Invariant.{always_holds}
use Rattle.walks.specs.Places.{expanded}
use Rattle.walks.specs.Claims.{WalksCount}
use Rattle.walks.proofs.Expanded.{walks_are_fetches}

map_along : {A B : Type 0} (g : A → B) (f : Machine → Call → A) (m : Machine) (ps : List Call) → map g (along f m ps) ≡ along (λ k p. g (f k p)) m ps
unfolding along
map_along g f m [] = refl
map_along g f m (p ∷ ps) = ap (λ (rest : List _). g (f m p) ∷ rest) (map_along g f (after m p) ps)

pub walks_count : WalksCount
walks_count store ps =
    let E = walks_are_fetches store ps in
    let qs = expanded (start store) ps in
    record {
      delivered = E.delivered ∙ rw E.events (delivery_rule store qs);
      counts = rw E.events (counts_tie store qs);
      sums = rw E.events (end_sum store qs);
      answers = rw E.events (map_along (λ e. e.answer) event (start store) qs ∙ answers_told store qs);
      opened = λ c. rw (E.events, E.leaves) (open_told store qs c);
      records = λ c. rw (E.events, E.leaves) (records_told store qs c);
      meet = λ c. rw E.leaves (counts_meet store qs c);
      held = λ c. rw E.leaves (stored_bytes store qs c);
      stored = rw (E.events, E.leaves) (store_told store qs);
      whole = rw E.leaves (always_holds store qs);
    }
