-- What the fields of a kind of step mean.
use Rattle.std.specs.Prelude.{ℕ, List, Bool, not, ◌&&◌, cond, Result, Ok, Err}
use Rattle.kinds.specs.Table.{kind_of}
use Rattle.fields.specs.declared.Fault.{Fault}
use Rattle.fields.specs.declared.Field.{Field}
use Rattle.fields.specs.declared.Step.{Step}
use Rattle.fields.specs.Fields.{number_field, data_field, data_bytes, end_fault}

-- a length stands in the line of a kind whose span is not zero and whose data do not say it
unfoldable pub has_size : ℕ → Bool
has_size kind = not (kind_of kind).span_zero && not (kind_of kind).has_data

-- the length of a step: that of its data, for a kind that has data
unfoldable pub size_of : (kind size given : ℕ) → ℕ
size_of kind size given = cond (kind_of kind).has_data given size

-- the value, handed on to what comes next, if no fault comes before
abbrev pub after : {A B : Type 0} → Result A Fault → (A → Result B Fault) → Result B Fault
after (Ok a) next = next a
after (Err fault) next = Err fault

module _ (text : List ℕ) (kind : ℕ) where
  -- the fields in their order, from the front of the text on: the command, the address, the length and the data, as far as the kind has them
  abbrev pub command_field : Field
  command_field = number_field text 0 (not (kind_of kind).command_zero)

  abbrev pub address_field : Field
  address_field = number_field text command_field.next (not (kind_of kind).span_zero)

  abbrev pub size_field : Field
  size_field = number_field text address_field.next (has_size kind)

  abbrev pub given_field : Field
  given_field = data_field text size_field.next (kind_of kind).has_data

  -- the first fault from the left, or the step
  unfoldable pub fields_mean : Result Step Fault
  fields_mean =
      after command_field.value
      (λ command. after address_field.value
      (λ address. after size_field.value
      (λ size. after given_field.value
      (λ given. after (end_fault text given_field.next)
      (λ _. Ok (record { kind = kind; command = command; address = address; size = size_of kind size given; given = given }))))))

  -- the bytes of the data
  unfoldable pub fields_data : List ℕ
  fields_data = data_bytes text size_field.next (kind_of kind).has_data
