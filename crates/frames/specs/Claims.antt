-- The claims on frames. Each holds for every input.
use Rattle.std.specs.Prelude.{ℕ, ◌^◌, ◌≤◌, ◌<◌, ◌≡◌, List, [], ◌∷◌, ◌++◌, true, length, take}
use Rattle.std.proofs.Math.Pow.{are_bytes}
use Rattle.octets.specs.Lists.{overwrite}
use Rattle.state.specs.Verdict.{replied}
use Rattle.frames.specs.Bits.{bits, pack, unpack, fit}
use Rattle.frames.specs.Read.{read_says, data_of}
use Rattle.frames.specs.Write.{write_says, write_output}

-- Packing and unpacking undo each other, whatever the widths.
abbrev pub UnpackPack : Type 0
UnpackPack = (widths values : List ℕ) → fit widths values ≡ true → unpack widths (pack widths values) ≡ values

abbrev pub PackUnpack : Type 0
PackUnpack = (widths : List ℕ) (n : ℕ) → n < 2 ^ bits widths → pack widths (unpack widths n) ≡ n

-- Bytes after the frame are not looked at: they may be any others, or none.
abbrev pub Unread : Type 0
Unread = (frame more : List ℕ) (n : ℕ) (step : List ℕ) → read_says frame ≡ replied (n ∷ step) → read_says (take n frame ++ more) ≡ replied (n ∷ step)

-- What the writer makes of a step is read as that step, with its data and the length that the writer replied, whatever follows.
abbrev pub ReadWrite : Type 0
ReadWrite =
    (kind command address size n : ℕ) (bytes output more : List ℕ)
    → write_says kind command address size (length bytes) (length output) ≡ replied (n ∷ [])
    → let frame = take n (write_output kind command address size bytes output) ++ more in
    (read_says frame ≡ replied (n ∷ kind ∷ command ∷ address ∷ size ∷ [])) × (data_of frame n ≡ bytes)

-- The bytes that a frame takes up are those that the writer makes of its step and data, in any output with room for them.
abbrev pub WriteRead : Type 0
WriteRead =
    (frame output : List ℕ) (n kind command address size : ℕ)
    → are_bytes frame ≡ true → read_says frame ≡ replied (n ∷ kind ∷ command ∷ address ∷ size ∷ []) → n ≤ length output
    → (write_says kind command address size (length (data_of frame n)) (length output) ≡ replied (n ∷ []))
    × (write_output kind command address size (data_of frame n) output ≡ overwrite output 0 (take n frame))
