-- How the records of a command lie to the record that a span is joined into. For the code that makes room for it among the packed
-- bytes.
use Rattle.std.specs.Prelude.{ℕ, ◌+◌, ◌-◌, ◌≤◌, ◌<◌, ◌≡◌, List, true, false, length, take, drop}
use Rattle.state.specs.declared.Record.{Record}
use Rattle.state.specs.declared.Meeting.{Meeting}
use Rattle.state.specs.Records.{held, total, place, highest}
use Rattle.state.specs.State.{ascending}

-- an address that lies across no record: the first q records end there or before, and the others start there or behind
pub record Parted (rs : List Record) (q x : ℕ) : Type 0 where
  pub before : highest 0 (take q rs) ≤ x
  pub behind : ascending x (drop q rs) ≡ true

-- The place of an address that lies across no record is what the records before it hold.
abbrev pub PartedPlace : Type 0
PartedPlace = (rs : List Record) (q x : ℕ) → Parted rs q x → place rs x ≡ total (take q rs)

-- Between two addresses that lie across no record and have the same records before them, nothing is held.
abbrev pub PartedFree : Type 0
PartedFree = (rs : List Record) (q lo hi : ℕ) → Parted rs q lo → Parted rs q hi → (x : ℕ) → lo ≤ x → x < hi → held rs x ≡ false

-- The joined record reaches from one such address to another. All records that lie between them are met, and what is not held
-- between them lies in the span from a up to e.
pub record Cut (rs : List Record) (m : Meeting) (fresh a e : ℕ) : Type 0 where
  pub up : ascending 0 rs ≡ true
  pub order : m.first ≤ m.last
  pub most : m.last ≤ length rs
  pub wide : m.low ≤ m.high
  pub lower : Parted rs m.first m.low
  pub upper : Parted rs m.last m.high
  pub below : m.below ≡ total (take m.first rs)
  pub bytes : m.below + m.held ≡ total (take m.last rs)
  pub counts : fresh + m.held ≡ m.high - m.low
  pub inside : (x : ℕ) → m.low ≤ x → x < m.high → held rs x ≡ false → (a ≤ x) × (x < e)
