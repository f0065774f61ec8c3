-- The page walk as the code makes it: the call as a whole.
use Rattle.std.specs.Prelude.{ℕ, ◌≡◌, List, Result}
use Rattle.state.specs.declared.answer.WalkCounts.{WalkCounts}
use Rattle.state.specs.declared.refusal.Refusal.{Refusal}
use Rattle.state.specs.Answers.{walk_reply}
use Rattle.cache.specs.Runs.{given}
use Rattle.prp.specs.Pages.{Walk, scratch_least}
use Rattle.prp.specs.Walk.{walk_says, walk_after, walk_scratch, walk_addresses, walk_lengths}

-- the walk with all that it is lent
abbrev pub lent : (c prp1 prp2 transfer : ℕ) (window scratch addresses lengths : List ℕ) → Walk
lent c prp1 prp2 transfer window scratch addresses lengths = record {
  command = c;
  prp1 = prp1;
  prp2 = prp2;
  transfer = transfer;
  least = scratch_least;
  scratch = scratch;
  address_list = addresses;
  length_list = lengths;
  window = window;
}

-- the call: its answer, and the state and every buffer after it, refused or not
pub record Walks (words store : List ℕ) (w : Walk) (r : Result WalkCounts Refusal) (words' store' scratch' addresses' lengths' : List ℕ) : Type 0 where
  pub answer : walk_reply r ≡ walk_says (given words store) w
  pub machine : given words' store' ≡ walk_after (given words store) w
  pub scratch : scratch' ≡ walk_scratch (given words store) w
  pub addresses : addresses' ≡ walk_addresses (given words store) w
  pub lengths : lengths' ≡ walk_lengths (given words store) w
