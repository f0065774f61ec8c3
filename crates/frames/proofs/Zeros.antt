-- What a frame whose zero fields are zero tells of each of them.
use Prim.Native.Nat.{ℕ}
use mathlib.Core.Path.{◌≡◌, refl}
use mathlib.Core.Bool.{Bool, true, false, false≢true, ◌||◌}
use lib.Dec.{eqb}
use borrow.Author.Tests.{eqb-true, not-false}
use Rattle.kinds.specs.Table.{kind_of}
use Rattle.frames.specs.Checks.{not_zero, zero_broken}

or_left : (a b : Bool) → (a || b) ≡ false → a ≡ false
or_left true b e = e
or_left false b e = refl

or_right : (a b : Bool) → (a || b) ≡ false → b ≡ false
or_right true b e = absurd (false≢true (cc))
or_right false b e = e

is_zero_lem : (must : Bool) (n : ℕ) → not_zero must n ≡ false → must ≡ true → n ≡ 0
unfolding not_zero
is_zero_lem true n e h = eqb-true n 0 (not-false (eqb n 0) e)
is_zero_lem false n e h = absurd (false≢true h)

pub record Zeros (kind command address size spare : ℕ) : Type 0 where
  pub command_zero_lem : (kind_of kind).command_zero ≡ true → command ≡ 0
  pub address_zero : (kind_of kind).span_zero ≡ true → address ≡ 0
  pub size_zero : (kind_of kind).span_zero ≡ true → size ≡ 0
  pub spare_zero : spare ≡ 0

pub zeros : (kind command address size spare : ℕ) → zero_broken kind command address size spare ≡ false → Zeros kind command address size spare
unfolding zero_broken
zeros kind command address size spare e =
    let k = kind_of kind in
    let rest = or_right (not_zero k.command_zero command) (not_zero k.span_zero address || (not_zero k.span_zero size || not_zero true spare)) e in
    let last = or_right (not_zero k.span_zero address) (not_zero k.span_zero size || not_zero true spare) rest in
    record {
      command_zero_lem = is_zero_lem k.command_zero command (or_left (not_zero k.command_zero command) _ e);
      address_zero = is_zero_lem k.span_zero address (or_left (not_zero k.span_zero address) _ rest);
      size_zero = is_zero_lem k.span_zero size (or_left (not_zero k.span_zero size) _ last);
      spare_zero = is_zero_lem true spare (or_right (not_zero k.span_zero size) _ last) refl;
    }
