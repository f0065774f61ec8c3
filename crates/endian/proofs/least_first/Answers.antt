use Prim.Native.Nat.{ℕ, suc, ◌+◌, ◌≤◌, ◌<◌}
use native.Mathlib.Omega.{arith}
use mathlib.Core.Path.{◌≡◌, refl, ap, sym, ◌∙◌}
use mathlib.Core.List.{List, [], ◌∷◌, ◌++◌, append_assoc, append-nil}
use lib.ListN.{length, get_or, length-append}
use lib.Seq.{get_or-append-add}
use Rattle.std.proofs.Common.{rules}
use Rattle.endian.specs.LittleEndian.{least_first}
use Rattle.endian.proofs.Powers.{power, power_grows}
use Rattle.endian.proofs.least_first.Goals as goal

-- a number of at most seven bytes
small : (n k : ℕ) → n < power k → k ≤ 7 → n < 72057594037927936
unfolding power
small n k h few = omega (arith, power_grows k 7 few)

pub loop-byte-init : goal.loop-byte-init
unfolding power least_first
loop-byte-init c =
    let bytes = c.args.bytes.now in
    let all : c.into_iter-byte-iterator.result.iter.rest.now ≡ bytes = search rules in
    ([], sym (append-nil _ ∙ all), refl, omega arith)

-- how many bytes were taken where one is still to come
module _ {bytes rest : List ℕ} (later taken : List ℕ) (b : ℕ) (parts : bytes ≡ rest ++ taken) (step : rest ≡ later ++ b ∷ []) where
  moved : bytes ≡ later ++ b ∷ taken
  moved = parts ∙ ap (λ (l : List ℕ). l ++ taken) step ∙ append_assoc later (b ∷ []) taken

  fewer : suc (length taken) ≤ length bytes
  fewer = omega (arith, ap length moved ∙ length-append later (b ∷ taken))

  byte_read : get_or bytes (length later + 0) 0 ≡ b
  byte_read = ap (λ (l : List ℕ). get_or l (length later + 0) 0) moved ∙ get_or-append-add later (b ∷ taken) 0 0

nothing : (l : List ℕ) → length l ≡ 0 → l ≡ []
nothing [] e = refl
nothing (x ∷ l) e = absurd (omega arith)

pub overflow_mul-number : goal.overflow_mul-number
overflow_mul-number c =
    let turn = c.loop-byte in
    let most = fewer c.next.new.self.iter.rest.now turn.invariant.0 c.in-Some.byte.now turn.invariant.1 c.in-Some.ensures.steps in
    omega (arith, small turn.number _ turn.invariant.3 (omega arith))

pub overflow_add-number : goal.overflow_add-number
overflow_add-number c =
    let turn = c.loop-byte in
    let later = c.next.new.self.iter.rest.now in
    let taken = turn.invariant.0 in
    let step = c.in-Some.ensures.steps in
    let most = fewer later taken c.in-Some.byte.now turn.invariant.1 step in
    let byte = byte_read later taken c.in-Some.byte.now turn.invariant.1 step in
    omega (arith, byte, small turn.number _ turn.invariant.3 (omega arith), c.type_inv.bytes (length later + 0))

pub loop-byte-preserved : goal.loop-byte-preserved
unfolding power least_first
loop-byte-preserved c =
    let turn = c.loop-byte in
    let later = c.next.new.self.iter.rest.now in
    let taken = turn.invariant.0 in
    let step = c.in-Some.ensures.steps in
    let byte = byte_read later taken c.in-Some.byte.now turn.invariant.1 step in
    let small_byte = c.type_inv.bytes (length later + 0) in (
      c.in-Some.byte.now ∷ taken,
      moved later taken c.in-Some.byte.now turn.invariant.1 step,
      omega (arith, turn.invariant.2),
      omega (arith, byte, small_byte, turn.invariant.3),
    )

pub returns : goal.returns
returns c =
    let turn = c.loop-byte in
    let none : turn.byte-iterator.iter.rest.now ≡ [] = nothing _ c.in-None.ensures.steps.0 in
    turn.invariant.2 ∙ sym (ap least_first (turn.invariant.1 ∙ ap (λ (l : List ℕ). l ++ turn.invariant.0) none))
