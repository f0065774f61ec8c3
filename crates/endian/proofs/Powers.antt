-- How many numbers some bytes can stand for.
use Prim.Native.Nat.{ℕ, zero, suc, ◌*◌, ◌≤◌}
use native.Mathlib.Omega.{arith}

-- 256 to the power of k
unfoldable pub power : ℕ → ℕ
power zero = 1
power (suc k) = 256 * power k

pub power_grows : (k n : ℕ) → k ≤ n → power k ≤ power n
unfolding power
power_grows zero zero h = omega arith
power_grows (suc k) zero h = absurd (omega arith)
power_grows zero (suc n) h = omega (arith, power_grows zero n (omega arith))
power_grows (suc k) (suc n) h = omega (arith, power_grows k n (omega arith))
