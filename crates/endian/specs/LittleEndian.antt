-- Numbers as bytes, the least byte first.
use Rattle.std.specs.Prelude.{ℕ, ◌+◌, ◌*◌, List, [], ◌∷◌}

-- the number that these bytes stand for, however many they are
unfoldable pub least_first : List ℕ → ℕ
least_first [] = 0
least_first (b ∷ bytes) = b + 256 * least_first bytes
