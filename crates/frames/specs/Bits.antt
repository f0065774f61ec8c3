-- Values side by side in one number, the first in the most significant bits, at any widths (01, the agreed scope,
-- "Step frames": fields packed; docs/RULES.md has its rules).
use Rattle.std.specs.Prelude.{ℕ, ◌+◌, ◌*◌, ◌/◌, ◌%◌, ◌^◌, List, [], ◌∷◌, Bool, true, false, ◌&&◌, ltb}

-- how many bits the widths take together
abbrev pub bits : List ℕ → ℕ
bits [] = 0
bits (w ∷ ws) = w + bits ws

-- the number in which each value stands right above those after it; values that have no width are left out
abbrev pub pack : (widths values : List ℕ) → ℕ
pack [] vs = 0
pack (w ∷ ws) [] = 0
pack (w ∷ ws) (v ∷ vs) = v * 2 ^ bits ws + pack ws vs

-- the values that stand in a number
abbrev pub unpack : (widths : List ℕ) → ℕ → List ℕ
unpack [] n = []
unpack (w ∷ ws) n = n / 2 ^ bits ws ∷ unpack ws (n % 2 ^ bits ws)

-- is there a value for each width, and does it fit?
unfoldable pub fit : (widths values : List ℕ) → Bool
fit [] [] = true
fit [] (v ∷ vs) = false
fit (w ∷ ws) [] = false
fit (w ∷ ws) (v ∷ vs) = ltb v (2 ^ w) && fit ws vs
