-- A difference below zero wraps round to a number with its highest bit set.
use Rattle.std.proofs.Common.{◌≡◌, ℕ, ◌+◌, ◌-◌, ◌%◌, ◌<◌, ◌≤◌, Bool, true, false, ◌&&◌, leb, refl, ◌∙◌, ap₂, arith, le-ltb, lt-ltb, leb-false, leb-true}
use Rattle.integrity.specs.Holds.{is_faultless}
use Rattle.integrity.proofs.Chain.{or_faultless}
use Rattle.integrity.proofs.fault.Goals as goal

less_faultless : (a b : ℕ) → a < 65536 → b ≤ 131072 → is_faultless ((a + (4294967296 - b)) % 4294967296) ≡ leb b a
less_faultless a b low small = go (leb b a) refl
  where
    go : (t : Bool) → leb b a ≡ t → is_faultless ((a + (4294967296 - b)) % 4294967296) ≡ t
    go true e = lt-ltb ((a + (4294967296 - b)) % 4294967296) 2147483648 (omega (arith, leb-true b a e))
    go false e = le-ltb ((a + (4294967296 - b)) % 4294967296) 2147483648 (omega (arith, leb-false b a e))

pub returns : goal.returns
returns c =
    let a = c.args in
    or_faultless ((a.start + (4294967296 - a.low)) % 4294967296) ((a.len + 4294967295) % 4294967296)
    ∙ ap₂ ◌&&◌ (less_faultless a.start a.low (omega arith) (omega arith)) (less_faultless a.len 1 (omega arith) (omega arith))
