-- End, as in 01 (the agreed scope; docs/RULES.md has its rules): the command is closed, its part of the store is zeroed, and the reply
-- tells how many records and distinct bytes it held.
use Rattle.std.specs.Prelude.{ℕ, ◌≡◌, List, [], ◌∷◌, false, cond, length, Result}
use Rattle.state.specs.Records.{total}
use Rattle.state.specs.State.{State, records_of, closed, with_command}
use Rattle.state.specs.Words.{state_of}
use Rattle.state.specs.Verdict.{Reply, replied, accepted, Check, verdict}
use Rattle.state.specs.declared.answer.EndCounts.{EndCounts}
use Rattle.state.specs.declared.refusal.Refusal.{Refusal}
use Rattle.state.specs.Answers.{end_reply}
use Rattle.state.specs.Checks.{command_too_high, store_wrong_size, state_broken, command_not_open}
use Rattle.store.specs.Store.{zeroed}

module _ (s : State) (store_len c : ℕ) where
  -- 6, 8, 20, 21
  abbrev pub end_checks : List Check
  end_checks = command_too_high c ∷ store_wrong_size store_len ∷ state_broken s ∷ command_not_open s c ∷ []

  unfoldable pub end_says : Reply
  end_says = let rs = records_of s c in verdict end_checks (replied (length rs ∷ total rs ∷ []))

  unfoldable pub end_state : State
  end_state = cond (accepted end_says) (with_command s c closed) s

unfoldable pub end_store : State → List ℕ → ℕ → List ℕ
end_store s store c = cond (accepted (end_says s (length store) c)) (zeroed store c) store

-- the call: its answer, the state and the store after it; refused, it leaves the very words
pub record Ends (words store : List ℕ) (c : ℕ) (r : Result EndCounts Refusal) (words' store' : List ℕ) : Type 0 where
  pub answer : end_reply r ≡ end_says (state_of words) (length store) c
  pub state : state_of words' ≡ end_state (state_of words) (length store) c
  pub kept : accepted (end_says (state_of words) (length store) c) ≡ false → words' ≡ words
  pub bytes : store' ≡ end_store (state_of words) store c
