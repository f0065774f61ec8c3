-- What a refused walk leaves: both lists as they were, nothing changed at all before PRP1 is judged, and of state and store what its accepted list
-- fetches leave.
use mathlib.Core.Path.{◌≡◌, refl}
use mathlib.Core.List.{List, [], ◌∷◌}
use mathlib.Core.Bool.{Bool, true, false, cond, and-false}
use Rattle.state.specs.Verdict.{accepted}
use Rattle.cache.specs.Runs.{Call, Machine, says, after, ran}
use Rattle.cache.proofs.Unchanged.{refused_same}
use Rattle.prp.specs.Pages.{Walk}
use Rattle.prp.specs.Entries.{judged}
use Rattle.prp.specs.Walk.{answer_by, fetches_by, makes_one, asks_of, walk_checks, walk_says, walk_fetches, walk_after, walk_scratch, walk_addresses, walk_lengths}
use Rattle.prp.specs.Claims.{RefusedWalk, RefusedEarly, ScratchZero, accepted_of, KeepsAccepted}
use Rattle.prp.proofs.Answers.{then_refused, then_stops}

pub refused_walk : RefusedWalk
unfolding walk_addresses walk_lengths
refused_walk m w e = record { addresses = rw e; lengths = rw e }

module _ (m : Machine) (w : Walk) (e : accepted (judged (walk_checks m w)) ≡ false) where
  answer_first : walk_says m w ≡ judged (walk_checks m w)
  unfolding walk_says answer_by
  answer_first = then_refused _ (judged (walk_checks m w)) e

  answer_refused : accepted (walk_says m w) ≡ false
  unfolding walk_says answer_by
  answer_refused = then_stops _ (judged (walk_checks m w)) e

  -- no list fetch is made, so state and store are those given
  none_made : makes_one (asks_of m) w (walk_checks m w) ≡ false
  none_made = rw (then_stops _ (judged (walk_checks m w)) e, and-false)

  machine_same : walk_after m w ≡ m
  unfolding walk_fetches fetches_by ran
  machine_same = rw none_made

pub refused_early : RefusedEarly
unfolding walk_scratch
refused_early m w e = record {
  answer = answer_first m w e;
  lists = refused_walk m w (answer_refused m w e);
  machine = machine_same m w e;
  scratch = rw e;
}

pub scratch_zero : ScratchZero
unfolding walk_scratch
scratch_zero m w e = rw e

-- a list of calls leaves what its accepted calls leave
accepted_leave : (m : Machine) (ps : List Call) → ran m ps ≡ ran m (accepted_of m ps)
unfolding ran accepted_of
accepted_leave m [] = refl
accepted_leave m (p ∷ ps) = go (accepted (says m p)) refl (accepted_leave (after m p) ps) (accepted_leave m ps)
  where
    go : (b : Bool) → accepted (says m p) ≡ b → ran (after m p) ps ≡ ran (after m p) (accepted_of (after m p) ps) → ran m ps ≡ ran m (accepted_of m ps)
        → ran (after m p) ps ≡ ran m (cond b (p ∷ accepted_of (after m p) ps) (accepted_of m ps))
    go true e kept left = kept
    go false e kept left = rw (refused_same m p e) left

pub keeps_accepted : KeepsAccepted
keeps_accepted m w = accepted_leave m (walk_fetches m w)
