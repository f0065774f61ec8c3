-- The data are no longer than the length field says.
use Prim.Native.Nat.{ℕ, ◌≤◌}
use native.Mathlib.Omega.{arith}
use mathlib.Core.Bool.{Bool, true, false, cond}
use Rattle.kinds.specs.Table.{kind_of}
use Rattle.frames.specs.Kinds.{data_size}

pub data_at_most : (kind size : ℕ) → data_size kind size ≤ size
unfolding data_size
data_at_most kind size = go (kind_of kind).has_data
  where
    go : (b : Bool) → cond b size 0 ≤ size
    go true = omega arith
    go false = omega arith
