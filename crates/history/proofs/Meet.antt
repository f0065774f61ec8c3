-- Two counts of what is spare for an open command, and how they meet.
use Prim.Native.Nat.{ℕ, ◌+◌, ◌≤◌, ◌<◌}
use native.Mathlib.Omega.{arith}
use mathlib.Core.Path.{◌≡◌, refl, ap, sym, ◌∙◌}
use mathlib.Core.List.{List, [], ◌∷◌, ◌++◌}
use mathlib.Core.Bool.{Bool, true, false}
use mathlib.Core.Logic.{◌↔◌}
use lib.Dec.{ltb}
use lib.ListN.{length}
use borrow.Author.Tests.{ltb-true, lt-ltb}
use Rattle.octets.specs.Lists.{all}
use Rattle.state.specs.declared.refusal.Refusal.TheVariants.{TooManyBytes}
use Rattle.state.specs.Limits.{held_limit}
use Rattle.state.specs.Records.{looked}
use Rattle.state.specs.Refusals.{number}
use Rattle.state.specs.Verdict.{Reply, refused, replied, Check, verdict, applying}
use Rattle.state.proofs.Verdict.{never_given}
use Rattle.state.proofs.Commands.{kept}
use Rattle.cache.specs.Runs.{fetch, own_write, Machine, start, ran, says}
use Rattle.history.specs.Journal.{Event}
use Rattle.history.specs.Answers.{held_count, replay_count, first_count, runs_of, bytes_full, records_full, lower_checks, lower_write_checks, answer_owed}
use Rattle.history.specs.Answers.{events_of, spare, CountsMeet}
use Rattle.history.proofs.Tied.{Tied, tied_start, tied_ran}
use Rattle.history.proofs.Answers.{total_told, not_applying, answer_here}

-- Where none of the first checks applies, those behind them are judged.
none_pass : (cs ds : List Check) (r : Reply) → applying cs ≡ [] → verdict (cs ++ ds) r ≡ verdict ds r
unfolding applying verdict
none_pass [] ds r e = refl
none_pass (c ∷ cs) ds r e = go c.applies refl (none_pass cs ds r)
  where
    go : (b : Bool) → c.applies ≡ b → (applying cs ≡ [] → verdict (cs ++ ds) r ≡ verdict ds r) → verdict (c ∷ cs ++ ds) r ≡ verdict ds r
    go true h ih = absurd (omega (arith, ap length (rw h at e)))
    go false h ih = rw h (ih (rw h at e))

-- what 23 and 24 and the numbers of a reply come to
module _ (past : List Event) (c a n : ℕ) (numbers : List ℕ) (small : held_count past c ≤ held_limit) where
  abbrev judged : Reply
  judged = verdict (bytes_full past c a n ∷ records_full past c a n ∷ []) (replied numbers)

  full_spare : judged ≡ refused (number TooManyBytes) → spare past c < first_count past c a n
  full_spare e = go (ltb held_limit (held_count past c + first_count past c a n)) refl
    where
      go : (b : Bool) → ltb held_limit (held_count past c + first_count past c a n) ≡ b → spare past c < first_count past c a n
      go true h = omega (arith, ltb-true held_limit (held_count past c + first_count past c a n) h)
      go false h = absurd (never_given 23 (records_full past c a n ∷ []) _ (unfold all in refl) (sym (not_applying 23 _ _) ∙ rw h at e))

  spare_full : spare past c < first_count past c a n → judged ≡ refused (number TooManyBytes)
  unfolding verdict
  spare_full h = rw (lt-ltb held_limit (held_count past c + first_count past c a n) (omega arith))

  -- so it is for a call that is answered with it: 23 exactly if more is not held than is spare
  full_exactly : {says : Reply} → says ≡ judged → (says ≡ refused (number TooManyBytes)) ↔ (spare past c < first_count past c a n)
  full_exactly is = (λ e. full_spare (sym is ∙ e), λ h. is ∙ spare_full h)

-- what a fetch and an own write are answered to which no lower number applies
module _ (store_len : ℕ) (m : Machine) (past : List Event) (T : Tied store_len m past) (c : ℕ) (small : held_count past c ≤ held_limit) where
  fetch_judged :
      (a n : ℕ) (dest window : List ℕ) → applying (lower_checks store_len past c a n (length dest) (length window)) ≡ []
      → says m (fetch c a n dest window) ≡ judged past c a n (first_count past c a n ∷ replay_count past c a n ∷ looked (runs_of past c) a n ∷ []) small
  unfolding answer_owed
  fetch_judged a n dest window none =
      answer_here T (fetch c a n dest window)
      ∙ none_pass (lower_checks store_len past c a n (length dest) (length window)) (bytes_full past c a n ∷ records_full past c a n ∷ []) _ none

  own_judged :
      (a : ℕ) (bytes window : List ℕ) → applying (lower_write_checks store_len past c a (length bytes) (length window)) ≡ []
      → says m (own_write c a bytes window) ≡ judged past c a (length bytes) (length bytes ∷ first_count past c a (length bytes) ∷ []) small
  unfolding answer_owed
  own_judged a bytes window none =
      let n = length bytes in
      answer_here T (own_write c a bytes window)
      ∙ none_pass (lower_write_checks store_len past c a n (length window)) (bytes_full past c a n ∷ records_full past c a n ∷ []) _ none

pub counts_meet : CountsMeet
counts_meet store ps c o =
    let past = events_of store ps in
    let m = ran (start store) ps in
    let T = tied_ran (length store) (start store) [] ps (tied_start store) in
    let bytes = total_told T c o in
    let sum = T.summed.sum c o in
    let small : held_count past c ≤ held_limit = omega (arith, bytes, (kept m.state c T.sound.state.whole).small) in
    record {
      held = bytes;
      handed_out = sym (sum ∙ bytes);
      meet = omega (arith, sum, bytes, small);
      full = λ a n dest window none. full_exactly past c a n _ small (fetch_judged (length store) m past T c small a n dest window none);
      full_write = λ a bytes window none.
          full_exactly past c a (length bytes) _ small (own_judged (length store) m past T c small a bytes window none);
    }
