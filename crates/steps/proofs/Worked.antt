-- Lines and what they mean: a step of each kind, lines that say nothing, lines with a fault of each sort, and lines with an expectation.
use Prim.Native.Nat.{ℕ}
use Prim.Native.String.{String}
use mathlib.Core.Path.{◌≡◌, refl}
use mathlib.Core.List.{List, [], ◌∷◌, ◌++◌, map}
use Rattle.octets.specs.Text.{ascii}
use Rattle.text.specs.Decimal.{read_on}
use Rattle.fields.specs.declared.Fault.{Fault}
use Rattle.fields.specs.declared.Fault.TheVariants.{UnknownLetter, FieldMissing, NotANumber, NotHexadecimal, OddDigits, FieldTooMany}
use Rattle.fields.specs.declared.Fault.TheVariants.{ByteOrderMark, NothingExpected, NoStep}
use Rattle.std.specs.Prelude.{Some, None, Ok, Err}
use Rattle.kinds.specs.declared.Kind.{Kind}
use Rattle.kinds.specs.declared.Kind.TheVariants.{Begin, Fetch, End, HostWrite, OwnWrite}
use Rattle.kinds.specs.Table.{number}
use Rattle.steps.specs.Line.{Meaning}
use Rattle.scan.specs.Scan.{before, front, hex_value}
use Rattle.scan.specs.Values.{bytes_of}
use Rattle.fields.specs.Fields.{number_of, number_field, data_fault, data_field, data_bytes, end_fault}
use Rattle.fields.specs.Meanings.{has_size, size_of, fields_mean, fields_data}
use Rattle.steps.specs.Line.{kind_for, kind_named, step_means, step_data}
use Rattle.steps.specs.Line.{text_means, is_marked, line_means, line_data}

abbrev step : (kind : Kind) (command address size given : ℕ) → Meaning
step kind command address size given = Ok (Some (record { kind = number kind; command = command; address = address; size = size; given = given }))

steps :
    map (λ s. line_means (ascii s)) ("B 1" ∷ "H 256 61626364" ∷ "F 1 256 4" ∷ " W\t1 16 0102 # x" ∷ "E 1" ∷ "H 5" ∷ "H 5 -" ∷ "B 99999999" ∷ [])
    ≡ step Begin 1 0 0 0 ∷ step HostWrite 0 256 4 4 ∷ step Fetch 1 256 4 0 ∷ step OwnWrite 1 16 2 2 ∷ step End 1 0 0 0 ∷ step HostWrite 0 5 0 0 ∷ step HostWrite 0 5 0 0 ∷ step Begin 1000000 0 0 0 ∷ []
unfolding before front hex_value read_on number_of number_field bytes_of data_fault data_field end_fault kind_for kind_named has_size size_of
    fields_mean step_means text_means is_marked line_means
steps = refl

-- an expectation changes nothing of a step
expecting :
    map (λ s. line_means (ascii s)) ("B 1 = ok" ∷ "H 5 00=ok 1 # x" ∷ "F 1 2 3 = = 4" ∷ "B 1 # = ok" ∷ [])
    ≡ step Begin 1 0 0 0 ∷ step HostWrite 0 5 1 1 ∷ step Fetch 1 2 3 0 ∷ step Begin 1 0 0 0 ∷ []
unfolding before front hex_value read_on number_of number_field bytes_of data_fault data_field end_fault kind_for kind_named has_size size_of
    fields_mean step_means text_means is_marked line_means
expecting = refl

bytes :
    map (λ s. line_data (ascii s)) ("H 256 61aF" ∷ "W 1 2 00ff = ok 2 # 11" ∷ "H 0 -" ∷ "B 1 11" ∷ "# 11" ∷ [])
    ≡ (0x61 ∷ 0xaf ∷ []) ∷ (0x00 ∷ 0xff ∷ []) ∷ [] ∷ [] ∷ [] ∷ []
unfolding before front hex_value read_on number_of number_field bytes_of data_bytes kind_for kind_named has_size fields_data step_data is_marked line_data
bytes = refl

nothing : map (λ s. line_means (ascii s)) ("" ∷ " \t" ∷ "# B 1" ∷ "  #" ∷ []) ≡ Ok None ∷ Ok None ∷ Ok None ∷ Ok None ∷ []
unfolding before front step_means text_means is_marked line_means
nothing = refl

-- each of these lines has this fault
abbrev Faulty : Fault → List String → Type 0
Faulty fault lines = map (λ s. line_means (ascii s)) lines ≡ map (λ s. Err fault) lines

faults :
    Faulty UnknownLetter ("X 1" ∷ "BB 1" ∷ "b 1" ∷ "X 1 =" ∷ [])
    × Faulty FieldMissing ("B" ∷ "F 1 # 2 3" ∷ "B = ok" ∷ [])
    × Faulty NotANumber ("B x" ∷ "H 1x 00" ∷ [])
    × Faulty NotHexadecimal ("H 1 0g" ∷ [])
    × Faulty OddDigits ("H 1 abc" ∷ [])
    × Faulty FieldTooMany ("B 1 2" ∷ "B 1 zz" ∷ "B 1 -" ∷ "F 1 2 3 00" ∷ "H 1 00 -" ∷ "B 1 2 = ok" ∷ [])
    × Faulty NothingExpected ("B 1 =" ∷ "B 1 = # ok" ∷ [])
    × Faulty NoStep ("= 04" ∷ " =" ∷ [])
unfolding before front hex_value read_on number_of number_field bytes_of data_fault data_field end_fault kind_for kind_named has_size size_of
    fields_mean step_means text_means is_marked line_means
faults = (refl, refl, refl, refl, refl, refl, refl, refl)

marked :
    map (λ mark. line_means (mark ++ ascii "B 1")) ((0xef ∷ 0xbb ∷ 0xbf ∷ []) ∷ (0xff ∷ 0xfe ∷ []) ∷ (0xfe ∷ 0xff ∷ []) ∷ [])
    ≡ map Err (ByteOrderMark ∷ ByteOrderMark ∷ ByteOrderMark ∷ [])
unfolding before front is_marked line_means
marked = refl
