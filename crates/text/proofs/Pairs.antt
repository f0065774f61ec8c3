-- Hexadecimal: one byte more, stored behind those before it, and the characters that 01's table had.
use Prim.Native.Nat.{ℕ, suc, ◌+◌, ◌*◌, ◌/◌, ◌%◌, ◌≤◌, ◌<◌}
use native.Mathlib.Omega.{arith}
use native.Mathlib.Numerals.{add-one}
use native.Mathlib.Nat.{zero-add}
use mathlib.Core.Path.{◌≡◌, refl, ap, sym, ◌∙◌}
use mathlib.Core.List.{List, [], ◌∷◌, ◌++◌, map}
use lib.ListN.{length, take, get_or, set}
use lib.Seq.{take-suc, length-take-le, sets-eq}
use Rattle.octets.specs.Lists.{overwrite}
use Rattle.octets.proofs.Overwrite.{overwrite_then, length_overwrite}
use Rattle.state.specs.Records.{span}
use Rattle.state.proofs.Places.{span_at}
use Rattle.text.specs.Hexadecimal.{hex_digits, hex_pair, hexadecimal, character, PairsAsBefore}

pub hex_append : (xs ys : List ℕ) → hexadecimal (xs ++ ys) ≡ hexadecimal xs ++ hexadecimal ys
unfolding hexadecimal
hex_append [] ys = refl
hex_append (x ∷ xs) ys = ap (λ (l : List ℕ). hex_pair x ++ l) (hex_append xs ys)

-- for a loop over bytes: the pair of one more stands behind those before it
pub hex_more : (bytes : List ℕ) (i : ℕ) → i < length bytes → hexadecimal (take (suc i) bytes) ≡ hexadecimal (take i bytes) ++ hex_pair (get_or bytes i 0)
unfolding hexadecimal
hex_more bytes i inside = ap hexadecimal (take-suc bytes i 0 inside) ∙ hex_append (take i bytes) (get_or bytes i 0 ∷ [])

-- two characters for each byte
pub length_hex : (bytes : List ℕ) → length (hexadecimal bytes) ≡ 2 * length bytes
unfolding hexadecimal
length_hex [] = refl
length_hex (x ∷ xs) = omega (arith, length_hex xs)

-- for a loop that has room for all of them: the two characters of one more are stored behind those before it
pub pair_stored :
    (out bytes pair : List ℕ) (i : ℕ) → i < length bytes → 2 * length bytes ≤ length out → pair ≡ hex_pair (get_or bytes i 0)
    → set (set (overwrite out 0 (hexadecimal (take i bytes))) (2 * i) (get_or pair 0 0)) (2 * i + 1) (get_or pair 1 0)
    ≡ overwrite out 0 (hexadecimal (take (i + 1) bytes))
pair_stored out bytes pair i inside room is =
    let so_far = hexadecimal (take i bytes) in
    let next = hex_pair (get_or bytes i 0) in
    let size : length so_far ≡ 2 * i = length_hex (take i bytes) ∙ ap (λ (n : ℕ). 2 * n) (length-take-le i bytes (omega arith)) in
    let fits : 0 + length so_far ≤ length out = omega arith in
    let place : 2 * i ≡ 0 + length so_far = omega arith in
    ap (λ (p : List ℕ). set (set (overwrite out 0 so_far) (2 * i) (get_or p 0 0)) (2 * i + 1) (get_or p 1 0)) is
    ∙ ap (λ (n : ℕ). set (set (overwrite out 0 so_far) (2 * i) (get_or next 0 0)) n (get_or next 1 0)) (add-one (2 * i))
    ∙ sets-eq next (overwrite out 0 so_far) (2 * i) (omega (arith, length_overwrite out so_far 0 fits))
    ∙ ap (λ (n : ℕ). overwrite (overwrite out 0 so_far) n next) place
    ∙ overwrite_then out so_far next 0 (omega arith)
    ∙ ap (overwrite out 0) (sym (hex_more bytes i inside) ∙ ap (λ (n : ℕ). hexadecimal (take n bytes)) (sym (add-one i)))

-- what the table had at the two places of a byte
abbrev table_pair : ℕ → List ℕ
table_pair byte = character (byte / 16) ∷ character (byte % 16) ∷ []

-- one test of all bytes, which computes
every_pair : map hex_pair (span 0 256 ++ []) ≡ map table_pair (span 0 256 ++ [])
unfolding hex_digits character span
every_pair = refl

-- and what it says at each of them
pub pairs_as_before : PairsAsBefore
pairs_as_before byte below =
    ap hex_pair (sym (zero-add byte))
    ∙ sym (span_at hex_pair [] 0 256 [] byte below)
    ∙ ap (λ (pairs : List (List ℕ)). get_or pairs byte []) every_pair
    ∙ span_at table_pair [] 0 256 [] byte below
    ∙ ap table_pair (zero-add byte)
