-- What is said of a line depends on how much room there is, and not on what stands there; and its counts are small.
use Prim.Native.Nat.{ℕ, ◌≤◌, min}
use native.Mathlib.Omega.{arith}
use mathlib.Core.Path.{◌≡◌, refl, ap, sym, ◌∙◌}
use mathlib.Core.List.{List, [], ◌∷◌}
use lib.ListN.{length, get_or, replicate, length-take, length-replicate}
use Rattle.state.specs.Verdict.{Reply, refused, replied, accepted}
use Rattle.frames.specs.Kinds.{frame_size}
use Rattle.frames.specs.Write.{write_says}
use Rattle.frames.proofs.Accepted.{writable, writes}
use Rattle.fields.specs.declared.Step.{Step}
use Rattle.std.specs.Prelude.{Some, None, Ok, Err}
use Rattle.scan.specs.Scan.{before, front}
use Rattle.steps.specs.Line.{Meaning, is_marked, step_means, text_means, line_means}
use Rattle.steps.specs.Frame.{answered, data_in, meaning_says}
use Rattle.script.specs.declared.judging.Judged.{Judged}
use Rattle.script.specs.Judging.{line_says, judged, counts}

data_length : (buffer : List ℕ) (step : Step) → length (data_in buffer step) ≡ min step.given (length buffer)
data_length buffer step = omega (arith, length-take (min step.given (length buffer)) buffer)

pub same_room : (meaning : Meaning) (buffer output buffer' output' : List ℕ) → length buffer ≡ length buffer' → length output ≡ length output'
    → meaning_says meaning buffer output ≡ meaning_says meaning buffer' output'
unfolding meaning_says
same_room (Ok None) buffer output buffer' output' b o = refl
same_room (Err fault) buffer output buffer' output' b o = refl
same_room (Ok (Some step)) buffer output buffer' output' b o = rw (data_length buffer step, data_length buffer' step, b, o)

-- so it is what is said of the line in buffers of these lengths
pub said : (line buffer output : List ℕ) → length buffer ≡ 4096 → length output ≡ 4101
    → meaning_says (line_means line) buffer output ≡ line_says line
unfolding line_says
said line buffer output b o =
    same_room (line_means line) buffer output (replicate 4096 0) (replicate 4101 0)
    (b ∙ sym (length-replicate {A = ℕ} 4096 0))
    (o ∙ sym (length-replicate {A = ℕ} 4101 0))

-- a line counts for one at most, and its frame has room
pub record Small (room : ℕ) (j : Judged) : Type 0 where
  pub bad : j.bad ≤ 1
  pub frames : j.frames ≤ 1
  pub bytes : j.bytes ≤ room

reply_small : (kind command address size given room : ℕ) (reply : Reply) → write_says kind command address size given room ≡ reply
    → Small room (counts (answered reply))
unfolding accepted
reply_small kind command address size given room (refused n) e = record { bad = omega arith; frames = omega arith; bytes = omega arith }
reply_small kind command address size given room (replied numbers) e =
    let w = writable kind command address size given room (ap accepted e) in
    let same : replied numbers ≡ replied (frame_size kind size ∷ []) = sym e ∙ writes kind command address size given room w in
    let one : numbers ≡ frame_size kind size ∷ [] = cc in
    let count : get_or numbers 0 0 ≡ frame_size kind size = rw one in
    record { bad = omega arith; frames = omega arith; bytes = omega (arith, w.fits) }

says_small : (meaning : Meaning) (buffer output : List ℕ) → Small (length output) (counts (meaning_says meaning buffer output))
unfolding meaning_says
says_small (Ok None) buffer output = record { bad = omega arith; frames = omega arith; bytes = omega arith }
says_small (Err fault) buffer output = record { bad = omega arith; frames = omega arith; bytes = omega arith }
says_small (Ok (Some s)) buffer output = reply_small s.kind s.command s.address s.size (length (data_in buffer s)) (length output) _ refl

pub line_small : (line : List ℕ) → Small 4101 (counts (line_says line))
unfolding line_says
line_small line = rw (length-replicate {A = ℕ} 4101 0) at (says_small (line_means line) (replicate 4096 0) (replicate 4101 0))

-- a line of no bytes counts for nothing
pub empty_counts : counts (line_says []) ≡ judged 0 0 0
unfolding line_says meaning_says before front step_means text_means is_marked line_means
empty_counts = refl
