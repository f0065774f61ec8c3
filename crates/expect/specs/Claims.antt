-- The claim on where an expectation stands.
use Rattle.std.specs.Prelude.{ℕ, ◌≤◌, List, length}
use Rattle.expect.specs.declared.Span.{Span}
use Rattle.expect.specs.Expect.{expected}

-- a part of a line of n bytes
pub record Inside (part : Span) (n : ℕ) : Type 0 where
  pub ordered : part.start ≤ part.end
  pub within : part.end ≤ n

-- the expectation of a line is a part of it
abbrev pub ExpectedInside : Type 0
ExpectedInside = (line : List ℕ) → Inside (expected line) (length line)
