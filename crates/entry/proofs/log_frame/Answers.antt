-- The frame is carried out, and what came of it is put into the output.
use Prim.Native.Nat.{ℕ}
use mathlib.Core.Path.{◌≡◌, refl, ap, sym, ◌∙◌}
use mathlib.Core.List.{List}
use lib.Seq.{length-take-le}
use Rattle.std.specs.Prelude.{Result, Ok, Err}
use Rattle.std.specs.Result.{is_ok}
use Rattle.state.specs.declared.refusal.Refusal.{Refusal}
use Rattle.state.specs.Verdict.{Reply, accepted}
use Rattle.loglines.specs.declared.answer.Numbers.{Numbers}
use Rattle.loglines.specs.Line.{answer_reply, line_of}
use Rattle.text.proofs.Putting.{puts_is}
use Rattle.entry.proofs.log_frame.Goals as goal

-- equal parts make equal lines
equal_lines :
    (n : ℕ) {l l' : ℕ} {r r' : Reply} {t t' : List ℕ} → l ≡ l' → r ≡ r' → t ≡ t' → line_of n l r t ≡ line_of n l' r' t'
equal_lines n a b c = λ i. line_of n (a i) (b i) (c i)

accepted_is : (answer : Result Numbers Refusal) → is_ok answer ≡ accepted (answer_reply answer)
unfolding accepted
accepted_is (Ok numbers) = refl
accepted_is (Err refusal) = refl

pub slice_bounds-put_line-end-2 : goal.slice_bounds-put_line-end-2
slice_bounds-put_line-end-2 c =
    let done = c.carry_out-carried in
    sym (length-take-le done.result.delivered done.new.destination done.ensures.within)

pub returns : goal.returns
returns c =
    let number = c.args.number in
    let done = c.carry_out-carried.ensures in
    record {
      taken = done.taken;
      accepted = c.is_ok.ensures.value ∙ accepted_is c.carry_out-carried.result.answer ∙ ap accepted done.answer;
      leaves = done.leaves;
      line = puts_is c.put_line-next.ensures (equal_lines number done.letter done.answer done.delivered);
    }
