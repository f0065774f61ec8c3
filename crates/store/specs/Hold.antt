-- How a span comes to be held, told of one command's part of the store. For the code behind fetch and own write; the
-- calls themselves are told of the whole store.
use Rattle.std.specs.Prelude.{ℕ, ◌+◌, ◌-◌, ◌≤◌, List, map, length}
use Rattle.octets.specs.Lists.{overwrite}
use Rattle.state.specs.declared.Record.{Record}
use Rattle.state.specs.declared.Meeting.{Meeting}
use Rattle.state.specs.Limits.{record_limit}
use Rattle.state.specs.Records.{span, addresses, total}
use Rattle.state.specs.State.{CommandState, records_in}
use Rattle.state.specs.Cut.{Cut}
use Rattle.state.specs.Join.{replaced}
use Rattle.store.specs.Store.{from, sees}

-- a byte as the command sees it, of its part alone
abbrev pub sees_in : List Record → (part : List ℕ) → (base : ℕ) → (source : List ℕ) → ℕ → ℕ
sees_in rs part base source x = sees rs (λ k. k) part (from base source) x

-- what is needed to hold a span: the joined record cuts the records, its fresh bytes are in the source, and there is room for them
pub record Fits (p : CommandState) (m : Meeting) (fresh part_len base source_len : ℕ) : Type 0 where
  pub cut : Cut (records_in p) m fresh base (base + source_len)
  pub few : length (records_in p) ≤ record_limit
  pub room : total (records_in p) + fresh ≤ part_len

-- the bytes of the joined record put in their place
abbrev pub filled : List Record → Meeting → (part : List ℕ) → (base : ℕ) → (source : List ℕ) → List ℕ
filled rs m part base source = overwrite part m.below (map (sees_in rs part base source) (span m.low (m.high - m.low)))

-- the bytes of all records after the join put in their place
abbrev pub repacked : List Record → Meeting → (part : List ℕ) → (base : ℕ) → (source : List ℕ) → List ℕ
repacked rs m part base source = overwrite part 0 (map (sees_in rs part base source) (addresses (replaced rs m)))
