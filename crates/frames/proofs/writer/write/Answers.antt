-- Where a step is accepted, the fields fit, there is room, and head and data stand one behind the other.
use Prim.Native.Nat.{ℕ, ◌-◌}
use native.Mathlib.Omega.{arith}
use mathlib.Core.Path.{◌≡◌, ap, ◌∙◌}
use mathlib.Core.List.{List, [], ◌∷◌}
use lib.ListN.{length}
use lib.Seq.{take_all}
use Rattle.octets.specs.Lists.{overwrite}
use Rattle.state.specs.Verdict.{accepted}
use Rattle.frames.specs.Bits.{unpack}
use Rattle.frames.specs.Layout.{field_widths, byte_widths, head_bytes}
use Rattle.frames.specs.Write.{write_output}
use Rattle.frames.proofs.Bits.{pack_below}
use Rattle.frames.proofs.Accepted.{Writable, writable, written, written_fit}
use Rattle.octets.proofs.Overwrite.{overwrite_then}
use Rattle.frames.proofs.writer.write.Goals as goal

pub packed-requires : goal.packed-requires
packed-requires c = written_fit _ _ _ _ _ _ c.judge.result c.in_ok-whole.whole c.judge.ensures c.in_ok-whole.was

pub bytes-head-requires : goal.bytes-head-requires
bytes-head-requires c =
    rw c.packed.ensures (pack_below field_widths _ (written_fit _ _ _ _ _ _ c.judge.result c.in_ok-whole.whole c.judge.ensures c.in_ok-whole.was))

pub returns-clause-output : goal.returns-clause-output
unfolding head_bytes write_output accepted
returns-clause-output c =
    let a = c.args in
    let out = a.output.now in
    let bytes = a.«data».now in
    let fine = written a.kind a.command a.address a.size (length bytes) (length out) c.judge.result c.in_ok-whole.whole c.judge.ensures c.in_ok-whole.was in
    let w : Writable a.kind a.command a.address a.size (length bytes) (length out) = writable _ _ _ _ _ _ fine in
    let mid = c.copy_front.new.buffer in
    let head = head_bytes (a.kind ∷ a.command ∷ a.address ∷ a.size ∷ 0 ∷ []) in
    let head_first : mid ≡ overwrite out 0 head =
    c.copy_front.ensures
    ∙ ap (overwrite out 0) (take_all (length out) c.bytes-head.result (omega (arith, ap length c.bytes-head.ensures, w.fits)) ∙ c.bytes-head.ensures ∙ ap (unpack byte_widths) c.packed.ensures) in
    c.copy_at.ensures
    ∙ ap (overwrite mid 5) (take_all (length mid - 5) bytes (omega (arith, c.copy_front.auto.buffer, w.fits, w.same)))
    ∙ ap (λ (o : List ℕ). overwrite o 5 bytes) head_first
    ∙ overwrite_then out head bytes 0 (omega arith)
    ∙ rw fine
