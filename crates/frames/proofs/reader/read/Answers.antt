-- The bytes of the head are those that the frame begins with, and the fields of any frame say the answer.
use native.Mathlib.Omega.{arith}
use mathlib.Core.Path.{◌≡◌, ap, ◌∙◌}
use mathlib.Core.List.{List}
use Prim.Native.Nat.{ℕ, ◌+◌}
use lib.ListN.{length, get_or, take}
use lib.Seq.{take-take}
use Rattle.frames.specs.Read.{fields_say, read_says}
use Rattle.frames.proofs.Heads.{same_head}
use Rattle.frames.proofs.reader.read.Goals as goal

pub returns : goal.returns
unfolding read_says
returns c =
    let frame = c.args.frame.now in
    let parts = rw c.in_ok-head.ensures.ok_part at c.split_first_chunk.ensures.cases in
    let all : 5 + length c.in_ok-head.behind.now ≡ length frame = omega (arith, parts.2) in
    let h = c.read_head.result in
    c.judge.ensures
    ∙ ap (λ (n : ℕ). fields_say n h.kind h.command h.address h.size h.spare) all
    ∙ ap (λ (f : List ℕ). fields_say (length frame) (get_or f 0 0) (get_or f 1 0) (get_or f 2 0) (get_or f 3 0) (get_or f 4 0))
    (c.read_head.ensures ∙ same_head c.in_ok-head.head.now frame (ap (take 5) parts.0 ∙ take-take 5 5 frame (omega arith)))
