-- The page walk as C makes it: the call's own equations, with its reply in C's form. `given`, `walk_says` and the others are those that the claims
-- about walks speak of.
use Rattle.std.specs.Prelude.{◌≡◌, List, ℕ}
use Rattle.cache.specs.Runs.{given}
use Rattle.prp.specs.Pages.{Walk}
use Rattle.prp.specs.Walk.{walk_says, walk_after, walk_scratch, walk_addresses, walk_lengths}
use Rattle.replies.specs.declared.calls.Walked.{Walked}
use Rattle.replies.specs.Replies.{walked_of}

pub record Walks (words store : List ℕ) (w : Walk) (r : Walked) (words' store' scratch' addresses' lengths' : List ℕ) : Type 0 where
  pub answer : r ≡ walked_of (walk_says (given words store) w)
  pub machine : given words' store' ≡ walk_after (given words store) w
  pub scratch : scratch' ≡ walk_scratch (given words store) w
  pub addresses : addresses' ≡ walk_addresses (given words store) w
  pub lengths : lengths' ≡ walk_lengths (given words store) w
