-- Begin, as in 01 (the agreed scope; docs/RULES.md has its rules): the command is open and holds nothing, and its part of the store is
-- zeroed.
use Rattle.std.specs.Prelude.{ℕ, ◌≡◌, List, [], ◌∷◌, false, cond, length, Result}
use Rattle.state.specs.State.{State, open_with, with_command}
use Rattle.state.specs.Words.{state_of}
use Rattle.state.specs.Verdict.{Reply, replied, accepted, Check, verdict}
use Rattle.state.specs.declared.refusal.Refusal.{Refusal}
use Rattle.state.specs.Answers.{begin_reply}
use Rattle.state.specs.Checks.{command_too_high, store_wrong_size, state_broken, command_already_open}
use Rattle.store.specs.Store.{zeroed}

module _ (s : State) (store_len c : ℕ) where
  -- 6, 8, 20, 22
  abbrev pub begin_checks : List Check
  begin_checks = command_too_high c ∷ store_wrong_size store_len ∷ state_broken s ∷ command_already_open s c ∷ []

  unfoldable pub begin_says : Reply
  begin_says = verdict begin_checks (replied [])

  unfoldable pub begin_state : State
  begin_state = cond (accepted begin_says) (with_command s c (open_with [])) s

unfoldable pub begin_store : State → List ℕ → ℕ → List ℕ
begin_store s store c = cond (accepted (begin_says s (length store) c)) (zeroed store c) store

-- the call: its answer, the state and the store after it; refused, it leaves the very words
pub record Begins (words store : List ℕ) (c : ℕ) (r : Result Unit Refusal) (words' store' : List ℕ) : Type 0 where
  pub answer : begin_reply r ≡ begin_says (state_of words) (length store) c
  pub state : state_of words' ≡ begin_state (state_of words) (length store) c
  pub kept : accepted (begin_says (state_of words) (length store) c) ≡ false → words' ≡ words
  pub bytes : store' ≡ begin_store (state_of words) store c
