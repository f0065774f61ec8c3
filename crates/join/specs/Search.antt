-- What the search of a command's records gives.
use Rattle.std.specs.Prelude.{ℕ, ◌≡◌, List}
use Rattle.state.specs.declared.Record.{Record}
use Rattle.state.specs.Limits.{record_limit}
use Rattle.state.specs.Records.{looked_up_to}
use Rattle.state.specs.Join.{meeting}
use Rattle.join.specs.declared.search.Searched.{Searched}
use Rattle.join.specs.Bounds.{Counted}

-- the records that the span from a up to e meets, in numbers that stay small, and how many were looked at (request F-6 of 02, the agreed changes;
-- docs/RULES.md has its rule)
pub record Searches (rs : List Record) (a e : ℕ) (r : Searched) : Type 0 where
  pub met : r.met ≡ meeting rs a e
  pub small : Counted r.met record_limit
  pub looked : r.looked ≡ looked_up_to e rs
