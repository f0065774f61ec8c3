-- A frame that was made lies in the output.
use Prim.Native.Nat.{ℕ, ◌≤◌}
use native.Mathlib.Omega.{arith}
use mathlib.Core.Path.{◌≡◌, ap, sym, ◌∙◌}
use mathlib.Core.List.{List, [], ◌∷◌}
use lib.ListN.{length}
use Rattle.std.specs.Prelude.{Some, None, Ok, Err}
use Rattle.state.specs.Verdict.{replied, accepted}
use Rattle.frames.specs.Kinds.{frame_size}
use Rattle.frames.specs.Write.{write_says}
use Rattle.frames.proofs.Accepted.{writable, writes}
use Rattle.steps.specs.Line.{Meaning}
use Rattle.steps.specs.Frame.{framed_says, data_in, meaning_says}

-- the reply to a step that is written is how many bytes its frame has, for which there is room
replied_fits : (kind command address size given room n : ℕ) → replied (n ∷ []) ≡ write_says kind command address size given room → n ≤ room
unfolding accepted
replied_fits kind command address size given room n e =
    let w = writable kind command address size given room (sym (ap accepted e)) in
    let same : replied (n ∷ []) ≡ replied (frame_size kind size ∷ []) = e ∙ writes kind command address size given room w in
    let count : n ≡ frame_size kind size = cc in omega (arith, w.fits)

pub frame_fits : (meaning : Meaning) (buffer output : List ℕ) (n : ℕ) → framed_says (Ok (Some n)) ≡ meaning_says meaning buffer output → n ≤ length output
unfolding meaning_says
frame_fits (Ok None) buffer output n e = let z : ◌≡◌ {A = ℕ} 0 1 = cc in absurd (omega arith)
frame_fits (Err fault) buffer output n e = let z : ◌≡◌ {A = ℕ} 0 1 = cc in absurd (omega arith)
frame_fits (Ok (Some s)) buffer output n e =
    let r : replied (n ∷ []) ≡ write_says s.kind s.command s.address s.size (length (data_in buffer s)) (length output) = cc in
    replied_fits s.kind s.command s.address s.size (length (data_in buffer s)) (length output) n r
