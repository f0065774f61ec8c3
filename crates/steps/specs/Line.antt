-- What a line means.
use Rattle.std.specs.Prelude.{ℕ, ◌+◌, List, [], ◌∷◌, Bool, ◌||◌, cond, ltb, eqb, length, take, drop, get_or, find}
use Rattle.std.specs.Prelude.{Option, Some, None, Result, Ok, Err}
use Rattle.kinds.specs.declared.Kind.{Kind}
use Rattle.kinds.specs.Table.{kind_of, number, in_order}
use Rattle.scan.specs.declared.Stop.TheVariants.{Comment, Equals}
use Rattle.fields.specs.declared.Fault.{Fault}
use Rattle.fields.specs.declared.Fault.TheVariants.{UnknownLetter, ByteOrderMark, NothingExpected, NoStep}
use Rattle.fields.specs.declared.Step.{Step}
use Rattle.scan.specs.Scan.{front, place, word_end, word_at, has_word}
use Rattle.fields.specs.Meanings.{after, fields_mean, fields_data}

-- what is meant: nothing, a step, or a fault
abbrev pub Meaning : Type 0
Meaning = Result (Option Step) Fault

abbrev pub has_letter : ℕ → Kind → Bool
has_letter letter kind = eqb (kind_of (number kind)).letter letter

-- the kind that has a letter in the table, if one has
unfoldable pub kind_for : ℕ → Option Kind
kind_for letter = find (has_letter letter) in_order

-- a kind is named by its letter alone
unfoldable pub kind_named : List ℕ → Option Kind
kind_named word = cond (eqb (length word) 1) (kind_for (get_or word 0 0)) None

-- the kind that the first word names
abbrev pub step_kind : List ℕ → Option Kind
step_kind text = kind_named (word_at text 0)

-- what stands behind that word, its fields
abbrev pub behind_kind : List ℕ → List ℕ
behind_kind text = drop (word_end text 0) text

-- the step that the fields behind a kind mean; a fault if there is no kind
abbrev pub kind_means : (behind : List ℕ) → Option Kind → Meaning
kind_means behind (Some kind) = after (fields_mean behind (number kind)) (λ step. Ok (Some step))
kind_means behind None = Err UnknownLetter

-- and their data, of which there are none where there is no kind
abbrev pub kind_data : (behind : List ℕ) → Option Kind → List ℕ
kind_data behind (Some kind) = fields_data behind (number kind)
kind_data behind None = []

-- what stands before `=` and the comment: nothing if it has no word; a fault if its first word names no kind; else what its fields mean
unfoldable pub step_means : List ℕ → Meaning
step_means text = cond (has_word text 0) (kind_means (behind_kind text) (step_kind text)) (Ok None)

-- its data, of which there are none where it has no fields
unfoldable pub step_data : List ℕ → List ℕ
step_data text = cond (has_word text 0) (kind_data (behind_kind text) (step_kind text)) []

-- what a step means that `=` stands behind, with something behind that or not
abbrev pub expecting : (something : Bool) → Meaning → Meaning
expecting something (Ok None) = Err NoStep
expecting something (Ok (Some step)) = cond something (Ok (Some step)) (Err NothingExpected)
expecting something (Err fault) = Err fault

-- the place of the first `=` of a text, or its end
abbrev pub cut_of : List ℕ → ℕ
cut_of text = place Equals text 0

-- what stands before it
abbrev pub step_of : List ℕ → List ℕ
step_of text = take (cut_of text) text

-- what stands before the comment means what its step means; where `=` stands in it, a step must be there, and something behind `=`
unfoldable pub text_means : List ℕ → Meaning
text_means text =
    cond (ltb (cut_of text) (length text)) (expecting (has_word text (cut_of text + 1)) (step_means (step_of text))) (step_means (step_of text))

-- the byte order marks of UTF-8, and of UTF-16 in its two orders
unfoldable pub is_marked : List ℕ → Bool
is_marked line =
    front eqb (0xef ∷ 0xbb ∷ 0xbf ∷ []) line || (front eqb (0xff ∷ 0xfe ∷ []) line || front eqb (0xfe ∷ 0xff ∷ []) line)

-- the text of a line: what stands before its comment
abbrev pub text_of : List ℕ → List ℕ
text_of line = take (place Comment line 0) line

-- a line that starts with a mark is no step; any other means what its text means
unfoldable pub line_means : List ℕ → Meaning
line_means line = cond (is_marked line) (Err ByteOrderMark) (text_means (text_of line))

-- its data
unfoldable pub line_data : List ℕ → List ℕ
line_data line = cond (is_marked line) [] (step_data (step_of (text_of line)))
