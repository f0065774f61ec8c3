-- Fetch as the code makes it: its answers, and the call as a whole.
use Rattle.std.specs.Prelude.{ℕ, ◌≡◌, List, false, length, Result}
use Rattle.state.specs.Words.{state_of}
use Rattle.state.specs.declared.answer.FetchCounts.{FetchCounts}
use Rattle.state.specs.declared.refusal.Refusal.{Refusal}
use Rattle.state.specs.Answers.{fetch_reply}
use Rattle.state.specs.Verdict.{accepted}
use Rattle.cache.specs.Fetch.{fetch_says, fetch_state, fetch_store, fetch_dest}

-- the call: its answer, the state, the store and the destination after it; refused, it leaves the very words
pub record Fetches (words store window dest : List ℕ) (c a n : ℕ) (r : Result FetchCounts Refusal) (words' store' dest' : List ℕ) : Type 0 where
  pub answer : fetch_reply r ≡ fetch_says (state_of words) (length store) (length window) (length dest) c a n
  pub state : state_of words' ≡ fetch_state (state_of words) (length store) (length window) (length dest) c a n
  pub kept : accepted (fetch_says (state_of words) (length store) (length window) (length dest) c a n) ≡ false → words' ≡ words
  pub bytes : store' ≡ fetch_store (state_of words) store window dest c a n
  pub delivered : dest' ≡ fetch_dest (state_of words) store window dest c a n
