-- Every walk is answered as the calls before it owe: whatever its list fetches follow, they get what they are owed.
use Prim.Native.Nat.{ℕ}
use mathlib.Core.Path.{◌≡◌, ap, subst, fun_ext, ◌∙◌}
use mathlib.Core.List.{List, [], ◌∷◌}
use mathlib.Core.Bool.{true}
use lib.ListN.{length}
use Rattle.state.specs.State.{holds}
use Rattle.state.specs.Verdict.{Reply, accepted, Check, verdict}
use Rattle.cache.specs.Runs.{Call, Machine, start, says, after, delivers, ran}
use Rattle.history.specs.Journal.{Event}
use Rattle.history.specs.Firsts.{memory, owed}
use Rattle.history.specs.Answers.{answer_owed}
use Rattle.history.proofs.Delivery.{delivers_owed}
use Rattle.history.proofs.Tied.{Tied, tied_start, tied_after, tied_ran}
use Rattle.history.proofs.Answers.{answer_here}
use Rattle.prp.specs.Pages.{Walk}
use Rattle.prp.specs.Entries.{Got, judged}
use Rattle.prp.specs.Walk.{Asks, answer_by, fetches_by, page_entries, asks_of, walk_checks, walk_says, walk_fetches}
use Rattle.walks.specs.Places.{expanded}
use Rattle.walks.specs.Told.{event_owed, past_with, asks_owed, checks_owed, WalkTold, WalksTold}
use Rattle.walks.proofs.Expanded.{walks_are_fetches}

-- of its checks a walk is told what they say, and no more
module _ (asks : Asks) (w : Walk) (cs ds : List Check) (same : judged cs ≡ judged ds) where
  answer_judged : answer_by asks w cs ≡ answer_by asks w ds
  unfolding answer_by
  answer_judged = rw same

  fetches_judged : fetches_by asks w cs ≡ fetches_by asks w ds
  unfolding fetches_by
  fetches_judged = rw same

module _ (store_len : ℕ) where
  -- a call gets what it is owed
  got_owed : (m : Machine) (past : List Event) → Tied store_len m past → (p : Call)
      → ◌≡◌ {A = Got} (record { answer = says m p; bytes = delivers m p })
      (record { answer = answer_owed store_len past p; bytes = owed past (event_owed store_len past p) })
  got_owed m past T p =
      let here = answer_here T p in
      let bytes : delivers m p ≡ owed past (event_owed store_len past p) =
      delivers_owed m (memory past) p (accepted (answer_owed store_len past p)) (ap accepted here) T.sound in
      λ i. record { answer = here i; bytes = bytes i }

  -- and so do the calls behind others
  asks_owed_lem : (m : Machine) (past : List Event) → Tied store_len m past → (before : List Call) (p : Call) → asks_of m before p ≡ asks_owed store_len past before p
  unfolding ran past_with
  asks_owed_lem m past T [] p = got_owed m past T p
  asks_owed_lem m past T (q ∷ before) p =
      asks_owed_lem (after m q) (event_owed store_len past q ∷ past)
      (subst (λ (r : Reply). Tied store_len (after m q) (record { call = q; answer = r } ∷ past)) (answer_here T q) (tied_after store_len m past q T))
      before p

  module _ (m : Machine) (past : List Event) (T : Tied store_len m past) (w : Walk) where
    same_asks : asks_of m ≡ asks_owed store_len past
    same_asks = fun_ext λ before. fun_ext λ p. asks_owed_lem m past T before p

    same_judged : judged (walk_checks m w) ≡ judged (checks_owed store_len past w)
    unfolding verdict
    same_judged = let whole : holds m.state ≡ true = T.sound.state.whole in rw (T.size, whole, T.opened w.command)

    walk_told : WalkTold store_len past m w
    unfolding walk_says walk_fetches
    walk_told =
        let asks = asks_owed store_len past in
        let cs = walk_checks m w in
        let ds = checks_owed store_len past w in
        record {
          answer = ap (λ (f : Asks). answer_by f w cs) same_asks ∙ answer_judged asks w cs ds same_judged;
          fetches = ap (λ (f : Asks). fetches_by f w cs) same_asks ∙ fetches_judged asks w cs ds same_judged;
          entries = ap (λ (f : Asks). page_entries f w) same_asks;
        }

pub walks_told : WalksTold
walks_told store ps w =
    let E = walks_are_fetches store ps in
    walk_told (length store) _ _
    (rw (E.events, E.leaves) (tied_ran (length store) (start store) [] (expanded (start store) ps) (tied_start store))) w
