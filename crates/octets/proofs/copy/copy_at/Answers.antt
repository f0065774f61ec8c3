-- What `copy_front` leaves in the part from `at` on is what the whole is to hold.
use Prim.Native.Nat.{ℕ, ◌-◌}
use native.Mathlib.Omega.{arith}
use mathlib.Core.Path.{◌≡◌, refl, sym}
use mathlib.Core.List.{List, ◌++◌}
use lib.ListN.{length, take, drop, length-take, length-drop}
use Rattle.octets.specs.Lists.{overwrite, part}
use Rattle.octets.proofs.Overwrite.{overwrite_none, overwrite_lent}
use Rattle.octets.proofs.copy.copy_at.Goals as goal

-- the buffer, once the part that was lent is back
whole :
    (buffer source : List ℕ) (at room : ℕ) → room ≡ length buffer - at
    → take at buffer ++ (overwrite (part buffer at room) 0 (take (length (part buffer at room)) source) ++ drop room (drop at buffer))
    ≡ overwrite buffer at (take room source)
whole buffer source at room e =
    let size : length (part buffer at room) ≡ room = simp (length-take, length-drop) (omega arith) in
    rw size (overwrite_lent buffer (take room source) at room (rw size (omega (arith, length-take room source))))

pub returns-then-at-buffer : goal.returns-then-at-buffer
returns-then-at-buffer c =
    let buffer = c.args.buffer.now in
    let at = c.args.at in
    rw c.copy_front.ensures (whole buffer c.args.source.now at (length buffer - at) refl)

pub returns-else-at-buffer : goal.returns-else-at-buffer
returns-else-at-buffer c =
    let args = c.args in
    let none : length args.buffer.now - args.at ≡ 0 = omega arith in
    rw none (sym (overwrite_none args.buffer.now args.at))
