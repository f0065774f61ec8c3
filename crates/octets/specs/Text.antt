-- Text as bytes, and what it is to put it into a buffer.
use Rattle.std.specs.Prelude.{ℕ, ◌+◌, ◌-◌, min, ◌≡◌, List, [], ◌∷◌, length, take}
use Prim.Native.Char.{code}
use Prim.Native.String.{String, [] as none, ◌∷◌ as ◌then◌}
use Rattle.octets.specs.Lists.{overwrite}

-- quoted text, a byte for each character
abbrev pub ascii : String → List ℕ
ascii none = []
ascii (c then s) = code c ∷ ascii s

-- Text is put into a buffer from a place on, as much of it as there is room for. The reply is the place behind it.
pub record Puts (out : List ℕ) (at : ℕ) (text : List ℕ) (r : ℕ) (out' : List ℕ) : Type 0 where
  pub bytes : out' ≡ overwrite out at (take (length out - at) text)
  pub next : r ≡ min (length out) (at + length text)
