-- A plain byte is its own text; any other is put in hexadecimal behind the sign of an escape.
use Prim.Native.Nat.{ℕ}
use mathlib.Core.Path.{◌≡◌, sym, ◌∙◌}
use mathlib.Core.List.{[], ◌∷◌, ◌++◌}
use mathlib.Core.Bool.{true, false}
use Rattle.octets.specs.Text.{ascii}
use Rattle.text.specs.Hexadecimal.{hexadecimal}
use Rattle.text.proofs.Putting.{puts_is, puts_both}
use Rattle.quoting.specs.Quoting.{is_plain, quoted_byte}
use Rattle.quoting.proofs.quote_byte.Goals as goal

module _ (byte : ℕ) where
  plain : is_plain byte ≡ true → byte ∷ [] ≡ quoted_byte byte
  unfolding quoted_byte
  plain e = rw e

  escaped : is_plain byte ≡ false → ascii "\\x" ++ hexadecimal (byte ∷ []) ≡ quoted_byte byte
  unfolding quoted_byte hexadecimal
  escaped e = rw e

pub returns-then-is_plain : goal.returns-then-is_plain
returns-then-is_plain c = puts_is c.put_byte.ensures (plain c.args.byte (sym c.is_plain.ensures ∙ c.if-is_plain.true))

pub returns : goal.returns
returns c = puts_is (puts_both c.put-next.ensures c.put_hex.ensures) (escaped c.args.byte (sym c.is_plain.ensures ∙ c.if-is_plain.false))
