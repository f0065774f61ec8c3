-- The head of a frame: its five bytes as one number, and that fields and bytes undo each other.
use Prim.Native.Nat.{ℕ, zero, suc, ◌+◌, ◌*◌, ◌^◌, ◌≤◌, ◌<◌}
use native.Mathlib.Omega.{arith}
use mathlib.Core.Path.{◌≡◌, refl, ap, sym, ◌∙◌}
use mathlib.Core.List.{List, [], ◌∷◌, ◌++◌}
use mathlib.Core.Bool.{true}
use lib.Dec.{ltb}
use lib.ListN.{length, get_or, take, replicate}
use lib.Pow.{are_bytes}
use borrow.Author.Tests.{lt-ltb, ltb-true}
use Rattle.octets.proofs.Lists.{both, and_left, and_right}
use Rattle.frames.specs.Bits.{bits, pack, unpack, fit}
use Rattle.frames.specs.Layout.{field_widths, byte_widths, fields_of, head_bytes}
use Rattle.frames.proofs.Bits.{pack_below, unpack_pack, pack_unpack, unpack_fit}

pub bytes_number :
    (s : List ℕ) → 5 ≤ length s
    → pack byte_widths s ≡ get_or s 0 0 * 2 ^ 32 + get_or s 1 0 * 2 ^ 24 + get_or s 2 0 * 2 ^ 16 + get_or s 3 0 * 2 ^ 8 + get_or s 4 0
bytes_number [] h = absurd (omega arith)
bytes_number (a ∷ []) h = absurd (omega arith)
bytes_number (a ∷ b ∷ []) h = absurd (omega arith)
bytes_number (a ∷ b ∷ c ∷ []) h = absurd (omega arith)
bytes_number (a ∷ b ∷ c ∷ d ∷ []) h = absurd (omega arith)
bytes_number (a ∷ b ∷ c ∷ d ∷ e ∷ s) h = omega arith

-- only the bytes of the head are looked at
pack_take : (ws vs : List ℕ) → pack ws (take (length ws) vs) ≡ pack ws vs
pack_take [] vs = refl
pack_take (w ∷ ws) [] = refl
pack_take (w ∷ ws) (v ∷ vs) = rw (pack_take ws vs)

pub same_head : (s t : List ℕ) → take 5 s ≡ take 5 t → fields_of s ≡ fields_of t
unfolding fields_of
same_head s t e = ap (unpack field_widths) (sym (pack_take byte_widths s) ∙ ap (pack byte_widths) e ∙ pack_take byte_widths t)

-- fields to bytes and back, whatever follows the bytes
pub head_read : (fields rest : List ℕ) → fit field_widths fields ≡ true → fields_of (head_bytes fields ++ rest) ≡ fields
unfolding fields_of head_bytes
head_read fields rest h =
    ap (unpack field_widths) (pack_unpack byte_widths (pack field_widths fields) (pack_below field_widths fields h)) ∙ unpack_pack field_widths fields h

-- bytes fit the widths of bytes
bytes_fit : (n : ℕ) (s : List ℕ) → are_bytes s ≡ true → n ≤ length s → fit (replicate n 8) (take n s) ≡ true
unfolding fit
bytes_fit zero s b h = refl
bytes_fit (suc n) [] b h = absurd (omega arith)
bytes_fit (suc n) (x ∷ s) b h = both (and_left (ltb x 256) (are_bytes s) b) (bytes_fit n s (and_right (ltb x 256) (are_bytes s) b) (omega arith))

-- bytes to fields and back
module _ (s : List ℕ) (are : are_bytes s ≡ true) (long : 5 ≤ length s) where
  front : fit byte_widths (take 5 s) ≡ true
  front = bytes_fit 5 s are long

  low : pack byte_widths s < 2 ^ bits byte_widths
  low = rw (← pack_take byte_widths s) (pack_below byte_widths (take 5 s) front)

  pub fields_fit : fit field_widths (fields_of s) ≡ true
  unfolding fields_of
  fields_fit = unpack_fit field_widths (pack byte_widths s) low

  pub head_again : head_bytes (fields_of s) ≡ take 5 s
  unfolding fields_of head_bytes
  head_again =
      ap (unpack byte_widths) (pack_unpack field_widths (pack byte_widths s) low ∙ sym (pack_take byte_widths s)) ∙ unpack_pack byte_widths (take 5 s) front

-- how many numbers a field's width holds
abbrev pub room : ℕ → ℕ
room i = 2 ^ get_or field_widths i 0

-- the fields of a head, one by one
module _ (kind command address size spare : ℕ) where
  pub record Below : Type 0 where
    pub kinds : kind < room 0
    pub commands : command < room 1
    pub addresses : address < room 2
    pub sizes : size < room 3
    pub spares : spare < room 4

  pub fields_below : fit field_widths (kind ∷ command ∷ address ∷ size ∷ spare ∷ []) ≡ true → Below
  unfolding fit
  fields_below e =
      let e1 = and_right (ltb kind (room 0)) _ e in
      let e2 = and_right (ltb command (room 1)) _ e1 in
      let e3 = and_right (ltb address (room 2)) _ e2 in
      let e4 = and_right (ltb size (room 3)) _ e3 in
      record {
        kinds = ltb-true kind (room 0) (and_left (ltb kind (room 0)) _ e);
        commands = ltb-true command (room 1) (and_left (ltb command (room 1)) _ e1);
        addresses = ltb-true address (room 2) (and_left (ltb address (room 2)) _ e2);
        sizes = ltb-true size (room 3) (and_left (ltb size (room 3)) _ e3);
        spares = ltb-true spare (room 4) (and_left (ltb spare (room 4)) _ e4);
      }

  pub below_fields : Below → fit field_widths (kind ∷ command ∷ address ∷ size ∷ spare ∷ []) ≡ true
  unfolding fit
  below_fields b =
      rw (lt-ltb kind (room 0) b.kinds, lt-ltb command (room 1) b.commands, lt-ltb address (room 2) b.addresses, lt-ltb size (room 3) b.sizes, lt-ltb spare (room 4) b.spares)
