-- The bytes of hexadecimal digits: how many there are, and which stands where.
use Prim.Native.Nat.{ℕ, zero, suc, ◌+◌, ◌*◌, ◌/◌, ◌<◌}
use native.Mathlib.Omega.{arith}
use mathlib.Core.Path.{◌≡◌, refl, ap, sym, ◌∙◌}
use mathlib.Core.List.{List, [], ◌∷◌}
use lib.ListN.{length, take, get_or}
use lib.Seq.{take-nil}
use Rattle.octets.specs.Lists.{overwrite}
use Rattle.octets.proofs.Overwrite.{overwrite_none}
use Rattle.scan.specs.Values.{bytes_of, pair_value}

pub bytes_length : (word : List ℕ) → length (bytes_of word) ≡ length word / 2
unfolding bytes_of
bytes_length [] = omega arith
bytes_length (x ∷ []) = omega arith
bytes_length (x ∷ y ∷ word) = omega (arith, bytes_length word)

pub bytes_at : (word : List ℕ) (i : ℕ) → i < length word / 2 → get_or (bytes_of word) i 0 ≡ pair_value (get_or word (2 * i) 0) (get_or word (2 * i + 1) 0)
unfolding bytes_of
bytes_at [] i h = absurd (omega arith)
bytes_at (x ∷ []) i h = absurd (omega arith)
bytes_at (x ∷ y ∷ word) zero h = refl
bytes_at (x ∷ y ∷ word) (suc i) h =
    let odd : 2 * suc i + 1 ≡ suc (suc (2 * i + 1)) = omega arith in
    let even : 2 * suc i ≡ suc (suc (2 * i)) = omega arith in rw (odd, even) (bytes_at word i (omega arith))

-- no bytes leave a buffer as it is
pub nothing_put : (buffer : List ℕ) → buffer ≡ overwrite buffer 0 (take (length buffer) [])
nothing_put buffer = sym (ap (overwrite buffer 0) (take-nil (length buffer)) ∙ overwrite_none buffer 0)
