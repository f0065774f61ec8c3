-- Refused, the word and the number are put; else the word, the numbers and what was delivered, one behind the other.
use Prim.Native.Nat.{ℕ}
use mathlib.Core.Path.{◌≡◌, refl, ap, sym, ◌∙◌}
use mathlib.Core.List.{List, [], ◌∷◌, ◌++◌, append-nil, append_assoc, map}
use lib.ListN.{take}
use Rattle.std.specs.Prelude.{Result}
use Rattle.state.specs.declared.refusal.Refusal.{Refusal}
use Rattle.state.specs.Refusals.{number}
use Rattle.state.specs.Verdict.{without_looked, refused, replied}
use Rattle.octets.specs.Text.{ascii, Puts}
use Rattle.text.specs.Decimal.{decimal}
use Rattle.loglines.specs.declared.answer.Numbers.{Numbers}
use Rattle.loglines.specs.Line.{told, answer_reply, delivered_fields, answer_fields, spaced}
use Rattle.text.proofs.Putting.{puts_is, puts_both}
use Rattle.loglines.proofs.line.put_answer.Goals as goal

-- fields behind others
spaced_both : (xs ys : List (List ℕ)) → spaced (xs ++ ys) ≡ spaced xs ++ spaced ys
unfolding spaced
spaced_both [] ys = refl
spaced_both (x ∷ xs) ys = ap (λ (l : List ℕ). ascii " " ++ x ++ l) (spaced_both xs ys) ∙ sym (append_assoc (ascii " " ++ x) (spaced xs) (spaced ys))

module _ (letter : ℕ) (delivered : List ℕ) where
  -- the answer as it is printed
  abbrev text : Result Numbers Refusal → List ℕ
  text answer = spaced (answer_fields letter (without_looked (answer_reply answer)) delivered)

  refusal : (k n : ℕ) → n ≡ k → ascii " no " ++ decimal n ≡ spaced (answer_fields letter (refused k) delivered)
  unfolding answer_fields spaced
  refusal k n e = rw (e, append-nil)

  reply :
      (ns : List ℕ)
      → ascii " ok" ++ (spaced (map decimal ns) ++ spaced (delivered_fields letter delivered)) ≡ spaced (answer_fields letter (replied ns) delivered)
  unfolding answer_fields spaced
  reply ns = ap (λ (l : List ℕ). ascii " ok" ++ l) (sym (spaced_both (map decimal ns) (delivered_fields letter delivered)))

pub returns-in-Ok : goal.returns-in-Ok
returns-in-Ok c =
    let args = c.args in
    let delivered = args.delivered.now in
    let ok_word : Puts args.out.now args.at (ascii " ok") c.put_word-next.result c.put_word-next.new.out = c.put_word-next.ensures in
    puts_is (puts_both ok_word (puts_both c.put_numbers-next.ensures c.put_delivered.ensures))
    (reply args.letter delivered (take 2 (told c.in-Ok.numbers)) ∙ ap (text args.letter delivered) (sym c.in-Ok.is))

pub returns-in-Err : goal.returns-in-Err
returns-in-Err c =
    let args = c.args in
    let delivered = args.delivered.now in
    let next = c.put_word-next-in-Err in
    let why = c.in-Err.refusal in
    let value : c.from.result ≡ number why = cc in
    let no_word : Puts args.out.now args.at (ascii " no") next.result next.new.out = next.ensures in
    puts_is (puts_both no_word c.put_number.ensures)
    (refusal args.letter delivered (number why) c.from.result value ∙ ap (text args.letter delivered) (sym c.in-Err.is))
