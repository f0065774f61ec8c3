-- Reading and writing undo each other, and bytes after a frame are not looked at.
use Prim.Native.Nat.{ℕ, ◌-◌, ◌≤◌}
use native.Mathlib.Omega.{arith}
use mathlib.Core.Path.{◌≡◌, refl, ap, sym, ◌∙◌}
use mathlib.Core.List.{List, [], ◌∷◌, ◌++◌, append_assoc}
use mathlib.Core.Bool.{true}
use lib.ListN.{length, get_or, take, drop, length-append, length-drop}
use lib.Seq.{length-take-le, take-append-le, take-take, take-add, take_at, drop_at}
use lib.Pow.{are_bytes}
use borrow.Author.Tests.{le-leb}
use Rattle.octets.specs.Lists.{part}
use Rattle.octets.proofs.Overwrite.{overwrite_front}
use Rattle.state.specs.Verdict.{Reply, replied, accepted}
use Rattle.frames.specs.Layout.{fields_of, head_bytes}
use Rattle.frames.specs.Kinds.{data_size, frame_size}
use Rattle.frames.specs.Read.{fields_say, read_says, data_of}
use Rattle.frames.specs.Write.{frame_bytes, write_output}
use Rattle.frames.specs.Claims.{UnpackPack, PackUnpack, Unread, ReadWrite, WriteRead}
use Rattle.frames.proofs.Bits as bits
use Rattle.frames.proofs.Heads.{head_read, head_again, same_head, fields_fit, fields_below}
use Rattle.frames.proofs.Zeros.{zeros}
use Rattle.frames.proofs.Accepted.{Readable, readable, reads, Writable, writable, writes, writable_fit}

pub unpack_pack : UnpackPack
unpack_pack = bits.unpack_pack

pub pack_unpack : PackUnpack
pack_unpack = bits.pack_unpack

accepts : (r : Reply) {ns : List ℕ} → r ≡ replied ns → accepted r ≡ true
unfolding accepted
accepts r e = ap accepted e

module _ (frame : List ℕ) where
  -- the fields of a frame, one by one
  abbrev field : ℕ → ℕ
  field i = get_or (fields_of frame) i 0

  abbrev Whole : Type 0
  Whole = Readable (length frame) (field 0) (field 1) (field 2) (field 3) (field 4)

  read_facts : accepted (read_says frame) ≡ true → Whole
  unfolding read_says
  read_facts e = readable (length frame) (field 0) (field 1) (field 2) (field 3) (field 4) e

  read_at : Whole → read_says frame ≡ replied (frame_size (field 0) (field 3) ∷ field 0 ∷ field 1 ∷ field 2 ∷ field 3 ∷ [])
  unfolding read_says
  read_at w = reads (length frame) (field 0) (field 1) (field 2) (field 3) (field 4) w

-- the part of a frame that is its data
data_part : (frame : List ℕ) (n : ℕ) → 5 ≤ n → n ≤ length frame → data_of frame n ≡ part frame 5 (n - 5)
data_part frame n low high = rw (le-leb 5 n low, le-leb n (length frame) high)

-- a frame with the same fields, long enough, is read as the same step
read_same : (frame other : List ℕ) → fields_of other ≡ fields_of frame → Whole frame → frame_size (field frame 0) (field frame 3) ≤ length other → read_says other ≡ read_says frame
unfolding read_says
read_same frame other e w h =
    let r : Readable (length other) (field frame 0) (field frame 1) (field frame 2) (field frame 3) (field frame 4) =
    record { long = omega arith; known = w.known; zero = w.zero; short = w.short; there = h } in
    ap (λ (f : List ℕ). fields_say (length other) (get_or f 0 0) (get_or f 1 0) (get_or f 2 0) (get_or f 3 0) (get_or f 4 0)) e
    ∙ reads (length other) (field frame 0) (field frame 1) (field frame 2) (field frame 3) (field frame 4) r
    ∙ sym (reads (length frame) (field frame 0) (field frame 1) (field frame 2) (field frame 3) (field frame 4) w)

pub unread : Unread
unread frame more n step e =
    let w = read_facts frame (accepts (read_says frame) e) in
    let given = read_at frame w in
    let size : frame_size (field frame 0) (field frame 3) ≡ n = cc in
    let inside : n ≤ length frame = omega arith in
    let cut : length (take n frame) ≡ n = length-take-le n frame inside in
    let long : n ≤ length (take n frame ++ more) = omega (arith, length-append (take n frame) more) in
    read_same frame (take n frame ++ more) (same_head (take n frame ++ more) frame (take-append-le 5 (take n frame) more (omega arith) ∙ take-take 5 n frame (omega arith))) w (omega arith) ∙ e

-- what the writer makes of a step, and what follows it
module _ (kind command address size : ℕ) (bytes output more : List ℕ) (w : Writable kind command address size (length bytes) (length output)) where
  abbrev fields : List ℕ
  fields = kind ∷ command ∷ address ∷ size ∷ 0 ∷ []

  abbrev whole : List ℕ
  whole = head_bytes fields ++ (bytes ++ more)

  made : length (frame_bytes kind command address size bytes) ≡ frame_size kind size
  unfolding head_bytes
  made = omega arith

  written : take (frame_size kind size) (write_output kind command address size bytes output) ++ more ≡ whole
  unfolding write_output
  written =
      rw (accepts _ (writes kind command address size (length bytes) (length output) w))
      (ap (λ (l : List ℕ). l ++ more) (overwrite_front output (frame_bytes kind command address size bytes) (frame_size kind size) made) ∙ append_assoc (head_bytes fields) bytes more)

  fields_read : fields_of whole ≡ fields
  fields_read = head_read fields (bytes ++ more) (writable_fit kind command address size (length bytes) (length output) w)

  long_enough : frame_size kind size ≤ length whole
  unfolding head_bytes
  long_enough = omega (arith, length-append bytes more)

  step_read_lem : read_says whole ≡ replied (frame_size kind size ∷ kind ∷ command ∷ address ∷ size ∷ [])
  unfolding read_says
  step_read_lem =
      let r : Readable (length whole) kind command address size 0 =
      record { long = omega (arith, long_enough); known = w.known; zero = w.zero; short = w.short; there = long_enough } in
      ap (λ (f : List ℕ). fields_say (length whole) (get_or f 0 0) (get_or f 1 0) (get_or f 2 0) (get_or f 3 0) (get_or f 4 0)) fields_read
      ∙ reads (length whole) kind command address size 0 r

  data_read : data_of whole (frame_size kind size) ≡ bytes
  unfolding head_bytes
  data_read =
      data_part whole (frame_size kind size) (omega arith) long_enough
      ∙ ap (take (frame_size kind size - 5)) (drop_at (head_bytes fields) (bytes ++ more) 5 refl)
      ∙ take_at bytes more (frame_size kind size - 5) (omega arith)

pub read_write : ReadWrite
read_write kind command address size n bytes output more e =
    let w = writable kind command address size (length bytes) (length output) (accepts _ e) in
    let reply = writes kind command address size (length bytes) (length output) w in
    let same : n ≡ frame_size kind size = cc in
    rw (same, written kind command address size bytes output more w)
    (step_read_lem kind command address size bytes output more w, data_read kind command address size bytes output more w)

-- a frame that is read, written again
module _ (frame output : List ℕ) (are : are_bytes frame ≡ true) (w : Whole frame) (room : frame_size (field frame 0) (field frame 3) ≤ length output) where
  abbrev taken : ℕ
  taken = frame_size (field frame 0) (field frame 3)

  abbrev bytes_of_lem : List ℕ
  bytes_of_lem = data_of frame taken

  bytes_part : bytes_of_lem ≡ part frame 5 (data_size (field frame 0) (field frame 3))
  bytes_part =
      let size : taken - 5 ≡ data_size (field frame 0) (field frame 3) = omega arith in
      data_part frame taken (omega arith) w.there ∙ ap (part frame 5) size

  bytes_length : length bytes_of_lem ≡ data_size (field frame 0) (field frame 3)
  bytes_length = rw bytes_part (length-take-le _ (drop 5 frame) (omega (arith, length-drop 5 frame)))

  spare : field frame 4 ≡ 0
  spare = (zeros (field frame 0) (field frame 1) (field frame 2) (field frame 3) (field frame 4) w.zero).spare_zero

  listed : field frame 0 ∷ field frame 1 ∷ field frame 2 ∷ field frame 3 ∷ field frame 4 ∷ [] ≡ fields_of frame
  unfolding fields_of
  listed = refl

  again : Writable (field frame 0) (field frame 1) (field frame 2) (field frame 3) (length bytes_of_lem) (length output)
  again =
      let below = fields_below (field frame 0) (field frame 1) (field frame 2) (field frame 3) (field frame 4) (rw listed (fields_fit frame are w.long)) in
      record {
        known = w.known;
        zero = rw spare at w.zero;
        short = w.short;
        same = bytes_length;
        commands = below.commands;
        fits = room;
        low = below.addresses;
      }

  bytes_again : frame_bytes (field frame 0) (field frame 1) (field frame 2) (field frame 3) bytes_of_lem ≡ take taken frame
  bytes_again =
      ap (λ (p : ℕ). head_bytes (field frame 0 ∷ field frame 1 ∷ field frame 2 ∷ field frame 3 ∷ p ∷ []) ++ bytes_of_lem) (sym spare)
      ∙ ap (λ (f : List ℕ). head_bytes f ++ bytes_of_lem) listed
      ∙ ap (λ (h : List ℕ). h ++ bytes_of_lem) (head_again frame are w.long)
      ∙ ap (λ (b : List ℕ). take 5 frame ++ b) bytes_part
      ∙ sym (take-add 5 (data_size (field frame 0) (field frame 3)) frame)

pub write_read : WriteRead
unfolding write_output
write_read frame output n kind command address size are e room =
    let w = read_facts frame (accepts _ e) in
    let reply = read_at frame w in
    let en : n ≡ frame_size (field frame 0) (field frame 3) = cc in
    let ek : kind ≡ field frame 0 = cc in
    let ec : command ≡ field frame 1 = cc in
    let ea : address ≡ field frame 2 = cc in
    let es : size ≡ field frame 3 = cc in
    let fits : frame_size (field frame 0) (field frame 3) ≤ length output = omega arith in
    let says = writes _ _ _ _ _ _ (again frame output are w fits) in
    rw (en, ek, ec, ea, es) (says, rw (accepts _ says, bytes_again frame output are w fits))
