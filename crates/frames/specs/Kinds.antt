-- What the kind of a frame says of its size.
use Rattle.std.specs.Prelude.{ℕ, ◌+◌, cond}
use Rattle.kinds.specs.Table.{kind_of}
use Rattle.frames.specs.Layout.{head_size}

-- how many bytes of data follow the head
unfoldable pub data_size : (kind size : ℕ) → ℕ
data_size kind size = cond (kind_of kind).has_data size 0

-- how many bytes a frame takes up: those of the head, and the data
abbrev pub frame_size : (kind size : ℕ) → ℕ
frame_size kind size = head_size + data_size kind size
