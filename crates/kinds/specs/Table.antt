-- The table of kinds (01, the agreed scope, "Step frames"; docs/RULES.md has its rules), in its order.
use Rattle.std.specs.Prelude.{ℕ, List, [], ◌∷◌, Bool, true, false, ltb, length, get_or}
use Rattle.kinds.specs.declared.Kind.{Kind}
use Rattle.kinds.specs.declared.Kind.TheVariants.{Begin, Fetch, End, HostWrite, OwnWrite}

-- a row: the letter as a byte, whether the command must be zero, whether address and length must be, and whether data follow
pub record Row : Type 0 where
  pub letter : ℕ
  pub command_zero : Bool
  pub span_zero : Bool
  pub has_data : Bool

abbrev pub row : ℕ → Bool → Bool → Bool → Row
row letter command_zero span_zero has_data = record { letter = letter; command_zero = command_zero; span_zero = span_zero; has_data = has_data }

-- the five rows: begin B, fetch F, end E, host write H, own write W
abbrev pub kinds : List Row
kinds = row 66 false true false ∷ row 70 false false false ∷ row 69 false true false ∷ row 72 true false true ∷ row 87 false false true ∷ []

-- a kind is allowed if it has a row
abbrev pub is_kind : ℕ → Bool
is_kind k = ltb k (length kinds)

-- a kind's row; one that is not allowed has no letter and nothing else
abbrev pub kind_of : ℕ → Row
kind_of k = get_or kinds k (row 0 false false false)

-- a kind's number, the place of its row
abbrev pub number : Kind → ℕ
number Begin = 0
number Fetch = 1
number End = 2
number HostWrite = 3
number OwnWrite = 4

-- the kinds in the order of their rows
abbrev pub in_order : List Kind
in_order = Begin ∷ Fetch ∷ End ∷ HostWrite ∷ OwnWrite ∷ []
