-- Frames of 01 (the agreed scope; docs/RULES.md has its rules), read and written: those of its log, an own write, and the three of
-- situation I.
use Prim.Native.Nat.{ℕ}
use mathlib.Core.Path.{◌≡◌, refl}
use mathlib.Core.List.{List, [], ◌∷◌, map}
use Rattle.state.specs.Verdict.{refused, replied, verdict}
use Rattle.frames.specs.Layout.{fields_of, head_bytes}
use Rattle.frames.specs.Kinds.{data_size}
use Rattle.frames.specs.Checks.{not_zero, zero_broken}
use Rattle.frames.specs.Read.{fields_say, read_says}
use Rattle.frames.specs.Write.{write_says, frame_bytes}

frames : List (List ℕ)
frames =
    (0x08 ∷ 0x00 ∷ 0x00 ∷ 0x00 ∷ 0x00 ∷ [])
    ∷ (0x60 ∷ 0x00 ∷ 0x40 ∷ 0x00 ∷ 0x80 ∷ 0x61 ∷ 0x62 ∷ 0x63 ∷ 0x64 ∷ [])
    ∷ (0x28 ∷ 0x00 ∷ 0x40 ∷ 0x00 ∷ 0x80 ∷ [])
    ∷ (0x60 ∷ 0x00 ∷ 0x48 ∷ 0x00 ∷ 0x40 ∷ 0x7a ∷ 0x7a ∷ 0x28 ∷ [])
    ∷ (0x28 ∷ 0x00 ∷ 0x38 ∷ 0x01 ∷ 0x00 ∷ [])
    ∷ (0x48 ∷ 0x00 ∷ 0x00 ∷ 0x00 ∷ 0x00 ∷ [])
    ∷ (0x88 ∷ 0x00 ∷ 0x40 ∷ 0x00 ∷ 0x40 ∷ 0x7a ∷ 0x7a ∷ [])
    ∷ (0x28 ∷ 0x00 ∷ 0x40 ∷ 0x00 ∷ 0x81 ∷ [])
    ∷ (0x28 ∷ 0x00 ∷ 0x40 ∷ 0x00 ∷ [])
    ∷ (0xa0 ∷ 0x00 ∷ 0x00 ∷ 0x00 ∷ 0x00 ∷ [])
    ∷ []

read : map read_says frames
    ≡ replied (5 ∷ 0 ∷ 2 ∷ 0 ∷ 0 ∷ []) ∷ replied (9 ∷ 3 ∷ 0 ∷ 16 ∷ 4 ∷ []) ∷ replied (5 ∷ 1 ∷ 2 ∷ 16 ∷ 4 ∷ [])
    ∷ replied (7 ∷ 3 ∷ 0 ∷ 18 ∷ 2 ∷ []) ∷ replied (5 ∷ 1 ∷ 2 ∷ 14 ∷ 8 ∷ []) ∷ replied (5 ∷ 2 ∷ 2 ∷ 0 ∷ 0 ∷ [])
    ∷ replied (7 ∷ 4 ∷ 2 ∷ 16 ∷ 2 ∷ []) ∷ refused 3 ∷ refused 1 ∷ refused 2 ∷ []
unfolding frames read_says fields_say verdict fields_of data_size not_zero zero_broken
read = refl

written : frame_bytes 3 0 18 2 (0x7a ∷ 0x7a ∷ []) ≡ 0x60 ∷ 0x00 ∷ 0x48 ∷ 0x00 ∷ 0x40 ∷ 0x7a ∷ 0x7a ∷ []
unfolding head_bytes
written = refl

-- the limits of the writer, on both sides of each
limits :
    write_says 1 7 65535 4096 0 5 ∷ write_says 5 0 0 0 0 5 ∷ write_says 3 1 0 0 0 5 ∷ write_says 1 7 65535 4097 0 5 ∷ write_says 4 7 65535 2 1 7
    ∷ write_says 1 8 0 0 0 5 ∷ write_says 4 7 65535 2 2 6 ∷ write_says 1 7 65536 0 0 5 ∷ []
    ≡ replied (5 ∷ []) ∷ refused 2 ∷ refused 3 ∷ refused 4 ∷ refused 5 ∷ refused 6 ∷ refused 10 ∷ refused 11 ∷ []
unfolding write_says verdict data_size not_zero zero_broken
limits = refl
