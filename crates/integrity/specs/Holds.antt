-- What the parts of the check give.
use Rattle.std.specs.Prelude.{◌≡◌, ℕ, suc, ◌+◌, ◌*◌, ◌≤◌, Bool, ◌&&◌, nat_le, nat_lt}
use Rattle.state.specs.declared.Record.{Record}
use Rattle.state.specs.Records.{past}
use Rattle.integrity.specs.declared.Walk.{Walk}

-- a number that stands for no fault: its highest bit of 32 is not set
abbrev pub is_faultless : ℕ → Bool
is_faultless n = nat_lt n 2147483648

-- how large the numbers of a walk get, so that no sum of the code wraps
pub record Walking (w : Walk) (k : ℕ) : Type 0 where
  pub low : w.low ≤ 131072
  pub sum : w.sum ≤ 65536 * k

-- one record more: no fault if there was none and it starts at the lowest address where it may or behind it, and is not empty
pub record Walked (w : Walk) (r : Record) (n : Walk) : Type 0 where
  pub faults : is_faultless n.faults ≡ (is_faultless w.faults && (nat_le w.low r.start && nat_lt 0 r.len))
  pub low : n.low ≡ suc (past r)
  pub sum : n.sum ≡ w.sum + r.len
  pub least : n.low ≤ 131072
  pub most : n.sum ≤ w.sum + 65536
