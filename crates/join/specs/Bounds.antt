-- How large the numbers of a search get, so that no sum of the code wraps.
use Rattle.std.specs.Prelude.{ℕ, ◌+◌, ◌*◌, ◌≤◌, ◌≡◌}
use Rattle.state.specs.declared.Record.{Record}
use Rattle.state.specs.declared.Meeting.{Meeting}
use Rattle.state.specs.Join.{passed}

-- after k records
pub record Counted (m : Meeting) (k : ℕ) : Type 0 where
  pub first : m.first ≤ m.last
  pub last : m.last ≤ k
  pub below : m.below ≤ 65536 * k
  pub held : m.held ≤ 65536 * k

-- one record more
pub record Passed (m : Meeting) (r : Record) (a : ℕ) (n : Meeting) : Type 0 where
  pub is : n ≡ passed a r m
  pub first : n.first ≤ m.first + 1
  pub order : m.first ≤ m.last → n.first ≤ n.last
  pub last : n.last ≡ m.last + 1
  pub below : n.below ≤ m.below + 65536
  pub held : n.held ≤ m.held + 65536
