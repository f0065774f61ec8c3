-- What the fields of a line say.
use Rattle.std.specs.Prelude.{ℕ, ◌/◌, ◌%◌, min, List, [], Bool, true, false, ◌&&◌, cond, ltb, eqb, length, get_or, Result, Ok, Err}
use Rattle.std.specs.Result.{result_and}
use Rattle.text.specs.Decimal.{value_of}
use Rattle.scan.specs.declared.Stop.TheVariants.{NotDecimal, NotHex}
use Rattle.fields.specs.declared.Fault.{Fault}
use Rattle.fields.specs.declared.Fault.TheVariants.{FieldMissing, NotANumber, NotHexadecimal, OddDigits, FieldTooMany}
use Rattle.fields.specs.declared.Field.{Field}
use Rattle.scan.specs.Scan.{place, word_end, word_at, has_word}
use Rattle.scan.specs.Values.{most, bytes_of}

abbrev pub field : Result ℕ Fault → ℕ → Field
field value next = record { value = value; next = next }

-- a word that is to be a number: digits alone, and one at least
unfoldable pub number_of : (word : List ℕ) (next : ℕ) → Field
number_of word next =
    field
    (cond (eqb (length word) 0) (Err FieldMissing) (cond (ltb (place NotDecimal word 0) (length word)) (Err NotANumber) (Ok (min most (value_of word)))))
    next

-- a field that is not wanted: nothing is read
abbrev pub absent : (at : ℕ) → Field
absent at = field (Ok 0) at

-- the number that stands next, if one is wanted
unfoldable pub number_field : (text : List ℕ) (at : ℕ) (wanted : Bool) → Field
number_field text at true = number_of (word_at text at) (word_end text at)
number_field text at false = absent at

-- a dash, which stands for no data
abbrev pub is_dash : List ℕ → Bool
is_dash word = eqb (length word) 1 && eqb (get_or word 0 0) 45

-- a word that is to be data: a dash, or an even number of hexadecimal digits
unfoldable pub data_fault : List ℕ → Result Unit Fault
data_fault word =
    cond (is_dash word) (Ok tt)
    (cond (ltb (place NotHex word 0) (length word)) (Err NotHexadecimal) (cond (eqb (length word % 2) 1) (Err OddDigits) (Ok tt)))

-- the data that stand next, if data are wanted: how many bytes they are, which is none where no word follows
unfoldable pub data_field : (text : List ℕ) (at : ℕ) (wanted : Bool) → Field
data_field text at true = field (result_and (data_fault (word_at text at)) (Ok (length (word_at text at) / 2))) (word_end text at)
data_field text at false = absent at

-- and which bytes
unfoldable pub data_bytes : (text : List ℕ) (at : ℕ) (wanted : Bool) → List ℕ
data_bytes text at true = bytes_of (word_at text at)
data_bytes text at false = []

-- nothing more may follow
unfoldable pub end_fault : (text : List ℕ) (at : ℕ) → Result Unit Fault
end_fault text at = cond (has_word text at) (Err FieldTooMany) (Ok tt)
