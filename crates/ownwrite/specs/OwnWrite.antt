-- Own write as the code makes it: its answers, and the call as a whole.
use Rattle.std.specs.Prelude.{ℕ, ◌≡◌, List, false, length, Result}
use Rattle.state.specs.Words.{state_of}
use Rattle.state.specs.declared.answer.OwnWriteCounts.{OwnWriteCounts}
use Rattle.state.specs.declared.refusal.Refusal.{Refusal}
use Rattle.state.specs.Answers.{own_write_reply}
use Rattle.state.specs.Verdict.{accepted}
use Rattle.cache.specs.OwnWrite.{own_says, own_state, own_store, own_window}

-- the call: its answer, the state, the store and the window after it; refused, it leaves the very words
pub record OwnWrites (words store window : List ℕ) (c a : ℕ) (bytes : List ℕ) (r : Result OwnWriteCounts Refusal) (words' store' window' : List ℕ) : Type 0 where
  pub answer : own_write_reply r ≡ own_says (state_of words) (length store) (length window) c a (length bytes)
  pub state : state_of words' ≡ own_state (state_of words) (length store) (length window) c a (length bytes)
  pub kept : accepted (own_says (state_of words) (length store) (length window) c a (length bytes)) ≡ false → words' ≡ words
  pub stored : store' ≡ own_store (state_of words) store window c a bytes
  pub host : window' ≡ own_window (state_of words) store window c a bytes
