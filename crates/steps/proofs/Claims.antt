-- The data of a line are as many bytes as the step is given, and are what the writer gets.
use Prim.Native.Nat.{ℕ, ◌+◌, ◌/◌, min}
use native.Mathlib.Omega.{arith}
use mathlib.Core.Path.{◌≡◌, refl, ap, ◌∙◌}
use mathlib.Core.List.{List, []}
use mathlib.Core.Bool.{Bool, true, false, cond}
use lib.Dec.{ltb}
use lib.ListN.{length, take, length-take}
use Rattle.octets.proofs.Overwrite.{length_overwrite, overwrite_front}
use Rattle.std.specs.Result.{result_and}
use Rattle.scan.specs.Values.{bytes_of}
use Rattle.std.specs.Prelude.{Option, Some, None, Result, Ok, Err}
use Rattle.kinds.specs.declared.Kind.{Kind}
use Rattle.kinds.specs.Table.{kind_of, number}
use Rattle.fields.specs.declared.Fault.{Fault}
use Rattle.fields.specs.declared.Fault.TheVariants.{ByteOrderMark}
use Rattle.fields.specs.declared.Step.{Step}
use Rattle.scan.specs.Scan.{word_at, has_word}
use Rattle.fields.specs.Fields.{data_fault, data_field, data_bytes, end_fault}
use Rattle.fields.specs.Meanings.{after, command_field, address_field, size_field, given_field, fields_mean, fields_data}
use Rattle.steps.specs.Line.{Meaning, step_kind, behind_kind, kind_means, kind_data, step_means, step_data}
use Rattle.steps.specs.Line.{expecting, cut_of, step_of, text_means, is_marked, text_of, line_means, line_data}
use Rattle.steps.specs.Claims.{GivenAll, DataHanded}
use Rattle.scan.proofs.Bytes.{bytes_length}

-- a step that is meant is given as many bytes as these
abbrev Given : Meaning → List ℕ → Type 0
Given meant bytes = (step : Step) → meant ≡ Ok (Some step) → length bytes ≡ step.given

-- a test that chooses the meaning and the bytes alike
either : (t : Bool) (m n : Meaning) (b c : List ℕ) → Given m b → Given n c → Given (cond t m n) (cond t b c)
either true m n b c p q = p
either false m n b c p q = q

nothing_given : Given (Ok None) []
nothing_given step e = cc

bad_given : (fault : Fault) → Given (Err fault) []
bad_given fault step e = cc

-- what is meant after a value that is there, is meant
after_value : {A B : Type 0} (r : Result A Fault) (next : A → Result B Fault) (b : B) → after r next ≡ Ok b → (a : A) × (r ≡ Ok a × next a ≡ Ok b)
after_value (Ok a) next b e = (a, (refl, e))
after_value (Err fault) next b e = cc

bytes_counted : (text : List ℕ) (at : ℕ) (wanted : Bool) (n : ℕ) → (data_field text at wanted).value ≡ Ok n → length (data_bytes text at wanted) ≡ n
unfolding data_bytes data_field
bytes_counted text at true n e = go (data_fault (word_at text at)) e
  where
    go : (r : Result Unit Fault) → result_and r (Ok (length (word_at text at) / 2)) ≡ Ok n → length (bytes_of (word_at text at)) ≡ n
    go (Ok u) e = bytes_length (word_at text at) ∙ (cc)
    go (Err fault) e = cc
bytes_counted text at false n e = cc

fields_given : (text : List ℕ) (kind : ℕ) (step : Step) → fields_mean text kind ≡ Ok step → length (fields_data text kind) ≡ step.given
unfolding fields_mean fields_data
fields_given text kind step e =
    let command = after_value (command_field text kind).value _ step e in
    let address = after_value (address_field text kind).value _ step command.1.1 in
    let size = after_value (size_field text kind).value _ step address.1.1 in
    let given = after_value (given_field text kind).value _ step size.1.1 in
    let end = after_value (end_fault text (given_field text kind).next) _ step given.1.1 in
    let is : given.0 ≡ step.given = cc (end.1.1) in
    bytes_counted text (size_field text kind).next (kind_of kind).has_data given.0 given.1.0 ∙ is

kind_given : (behind : List ℕ) (kind : Option Kind) → Given (kind_means behind kind) (kind_data behind kind)
kind_given behind (Some kind) step e =
    let fields = after_value (fields_mean behind (number kind)) (λ (s : Step). Ok (Some s)) (Some step) e in
    let is : fields.0 ≡ step = cc (fields.1.1) in
    fields_given behind (number kind) fields.0 fields.1.0 ∙ ap (λ (s : Step). s.given) is
kind_given behind None step e = cc

step_given : (text : List ℕ) → Given (step_means text) (step_data text)
unfolding step_means step_data
step_given text = either (has_word text 0) _ _ _ _ (kind_given (behind_kind text) (step_kind text)) nothing_given

-- a step is still given the same if something is expected of it
expecting_given : (something : Bool) (meant : Meaning) (bytes : List ℕ) → Given meant bytes → Given (expecting something meant) bytes
expecting_given something (Ok None) bytes p step e = cc
expecting_given something (Err fault) bytes p step e = cc
expecting_given true (Ok (Some s)) bytes p step e = p step e
expecting_given false (Ok (Some s)) bytes p step e = cc

text_given : (text : List ℕ) → Given (text_means text) (step_data (step_of text))
unfolding text_means
text_given text = go (ltb (cut_of text) (length text))
  where
    go : (t : Bool) → Given (cond t (expecting (has_word text (cut_of text + 1)) (step_means (step_of text))) (step_means (step_of text))) (step_data (step_of text))
    go true = expecting_given (has_word text (cut_of text + 1)) (step_means (step_of text)) (step_data (step_of text)) (step_given (step_of text))
    go false = step_given (step_of text)

pub given_all : GivenAll
unfolding line_means line_data
given_all line = either (is_marked line) _ _ _ _ (bad_given ByteOrderMark) (text_given (text_of line))

pub data_handed : DataHanded
data_handed line buffer step e =
    let bytes = take (length buffer) (line_data line) in
    let size : length bytes ≡ min step.given (length buffer) = omega (arith, length-take (length buffer) (line_data line), given_all line step e) in
    rw (length_overwrite buffer bytes 0 (omega arith)) (overwrite_front buffer bytes (min step.given (length buffer)) size)
