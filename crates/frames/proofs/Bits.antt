-- Packing and unpacking undo each other, whatever the widths.
use Prim.Native.Nat.{ℕ, ◌+◌, ◌*◌, ◌/◌, ◌%◌, ◌^◌, ◌<◌}
use native.Mathlib.Omega.{arith}
use native.Mathlib.Nat.{mod-lt, suc-mul, mul-le-mul_right}
use mathlib.Core.Path.{◌≡◌, refl}
use mathlib.Core.List.{List, [], ◌∷◌}
use mathlib.Core.Bool.{true, false≢true}
use lib.Dec.{ltb}
use lib.Pow.{pow_pos, pow-add, high, low, split, shr_lt}
use borrow.Author.Tests.{ltb-true, lt-ltb}
use Rattle.octets.proofs.Lists.{and_left, and_right, both}
use Rattle.frames.specs.Bits.{bits, pack, unpack, fit}

below : (j k hi : ℕ) {lo : ℕ} → hi < 2 ^ j → lo < 2 ^ k → hi * 2 ^ k + lo < 2 ^ (j + k)
below j k hi h l = omega (arith, suc-mul hi (2 ^ k), mul-le-mul_right (2 ^ k) h, pow-add 2 j k)

pub pack_below : (ws vs : List ℕ) → fit ws vs ≡ true → pack ws vs < 2 ^ bits ws
unfolding fit
pack_below [] vs e = omega arith
pack_below (w ∷ ws) [] e = absurd (false≢true e)
pack_below (w ∷ ws) (v ∷ vs) e =
    below w (bits ws) v (ltb-true v (2 ^ w) (and_left (ltb v (2 ^ w)) (fit ws vs) e)) (pack_below ws vs (and_right (ltb v (2 ^ w)) (fit ws vs) e))

pub unpack_pack : (ws vs : List ℕ) → fit ws vs ≡ true → unpack ws (pack ws vs) ≡ vs
unfolding fit
unpack_pack [] [] e = refl
unpack_pack [] (v ∷ vs) e = absurd (false≢true e)
unpack_pack (w ∷ ws) [] e = absurd (false≢true e)
unpack_pack (w ∷ ws) (v ∷ vs) e =
    let rest = and_right (ltb v (2 ^ w)) (fit ws vs) e in
    let small = pack_below ws vs rest in
    rw (high v (bits ws) small, low v (bits ws) small, unpack_pack ws vs rest)

pub pack_unpack : (ws : List ℕ) (n : ℕ) → n < 2 ^ bits ws → pack ws (unpack ws n) ≡ n
pack_unpack [] n h = omega arith
pack_unpack (w ∷ ws) n h = rw (pack_unpack ws (n % 2 ^ bits ws) (mod-lt n (pow_pos (bits ws)))) (split n (bits ws))

pub unpack_fit : (ws : List ℕ) (n : ℕ) → n < 2 ^ bits ws → fit ws (unpack ws n) ≡ true
unfolding fit
unpack_fit [] n h = refl
unpack_fit (w ∷ ws) n h =
    both (lt-ltb (n / 2 ^ bits ws) (2 ^ w) (shr_lt w (bits ws) h)) (unpack_fit ws (n % 2 ^ bits ws) (mod-lt n (pow_pos (bits ws))))
