-- The head of a frame (01, the agreed scope, "Step frames"; docs/RULES.md has its rules): five bytes that hold five fields.
use Rattle.std.specs.Prelude.{ℕ, List, [], ◌∷◌}
use Rattle.frames.specs.declared.layout.Head.{Head}
use Rattle.frames.specs.Bits.{pack, unpack}

-- how many bytes the head has
abbrev pub head_size : ℕ
head_size = 5

-- how many bits each field has: kind, command, address, length, and the spare ones
abbrev pub field_widths : List ℕ
field_widths = 3 ∷ 3 ∷ 16 ∷ 13 ∷ 5 ∷ []

-- the same bits as bytes
abbrev pub byte_widths : List ℕ
byte_widths = 8 ∷ 8 ∷ 8 ∷ 8 ∷ 8 ∷ []

-- the fields of the head that a frame begins with; no byte behind the head is looked at
unfoldable pub fields_of : (frame : List ℕ) → List ℕ
fields_of frame = unpack field_widths (pack byte_widths frame)

-- the bytes of the head that holds these fields
unfoldable pub head_bytes : (fields : List ℕ) → List ℕ
head_bytes fields = unpack byte_widths (pack field_widths fields)

-- the fields as the code has them
abbrev pub head_fields : Head → List ℕ
head_fields h = h.kind ∷ h.command ∷ h.address ∷ h.size ∷ h.spare ∷ []
