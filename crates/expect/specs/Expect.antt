-- What is expected of a step, and whether an answer meets it.
use Rattle.std.specs.Prelude.{ℕ, ◌+◌, min, List, [], ◌∷◌, ◌++◌, Bool, ◌&&◌, ◌||◌, cond, leb, eqb, length, get_or}
use Rattle.octets.specs.Text.{ascii}
use Rattle.expect.specs.declared.Span.{Span}
use Rattle.scan.specs.Scan.{is_blank, front}
use Rattle.steps.specs.Line.{text_of, cut_of}

-- the expectation of a line: what stands behind the first `=` of its text; nothing, at the end of the text, if no `=` stands in it
unfoldable pub expected : List ℕ → Span
expected line = record { start = min (cut_of (text_of line) + 1) (length (text_of line)); end = length (text_of line) }

-- a word before others; no bytes are no word
abbrev pub ended : List ℕ → List (List ℕ) → List (List ℕ)
ended [] words = words
ended (b ∷ word) words = (b ∷ word) ∷ words

-- the words of a text, of whose first some bytes are read already: a blank ends it, and so does the end of the text
unfoldable pub words_on : List ℕ → List ℕ → List (List ℕ)
words_on word [] = ended word []
words_on word (b ∷ text) = cond (is_blank b) (ended word (words_on [] text)) (words_on (word ++ b ∷ []) text)

-- the words of a text
abbrev pub words_of : List ℕ → List (List ℕ)
words_of text = words_on [] text

-- a capital letter is taken for the small one
unfoldable pub lower : ℕ → ℕ
lower b = cond (leb 65 b && leb b 90) (b + 32) b

-- are two words the same, whatever the case of their letters?
unfoldable pub same : List ℕ → List ℕ → Bool
same one other = eqb (length one) (length other) && front (λ x y. eqb (lower x) (lower y)) one other

-- `ok` or `no`, with which an answer begins
unfoldable pub is_verdict : List ℕ → Bool
is_verdict word = same word (ascii "ok") || same word (ascii "no")

-- does an answer deliver these bytes? It is the answer to a fetch: `ok`, how many bytes are fresh, how many replayed, and the bytes
unfoldable pub delivers : (bytes : List ℕ) (answer : List (List ℕ)) → Bool
delivers bytes answer = eqb (length answer) 4 && (same (get_or answer 0 []) (ascii "ok") && same (get_or answer 3 []) bytes)

-- an expectation that begins with a verdict is met by an answer that begins with its words; any other is one word, the bytes that are delivered
unfoldable pub meets_words : (expected answer : List (List ℕ)) → Bool
meets_words expected answer =
    cond (is_verdict (get_or expected 0 [])) (front same expected answer) (eqb (length expected) 1 && delivers (get_or expected 0 []) answer)

abbrev pub meets : (expected answer : List ℕ) → Bool
meets expected answer = meets_words (words_of expected) (words_of answer)
