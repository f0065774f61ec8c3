-- The lines of a file, and what is counted of them.
use Rattle.std.specs.Prelude.{ℕ, ◌+◌, List, [], ◌∷◌, cond, ltb, eqb, length, get_or, replicate, Result, Ok, Err}
use Rattle.state.specs.Limits.{transfer_limit}
use Rattle.state.specs.Verdict.{refused, replied}
use Rattle.frames.specs.Layout.{head_size}
use Rattle.steps.specs.Line.{line_means}
use Rattle.steps.specs.Frame.{Said, nothing, faulty, answered, meaning_says}
use Rattle.script.specs.declared.judging.Judged.{Judged}
use Rattle.script.specs.declared.judging.TooLong.{TooLong}

-- a byte before the first of some lines
unfoldable pub in_front : ℕ → List (List ℕ) → List (List ℕ)
in_front b [] = (b ∷ []) ∷ []
in_front b (line ∷ rest) = (b ∷ line) ∷ rest

-- the lines of a text: what stands before each newline, and what is left behind the last one, if anything is
unfoldable pub lines : List ℕ → List (List ℕ)
lines [] = []
lines (b ∷ bs) = cond (eqb b 10) ([] ∷ lines bs) (in_front b (lines bs))

-- how long the longest frame is
abbrev pub frame_limit : ℕ
frame_limit = head_size + transfer_limit

-- what is said of a line where there is room for the longest data and the longest frame
unfoldable pub line_says : List ℕ → Said
line_says line = meaning_says (line_means line) (replicate transfer_limit 0) (replicate frame_limit 0)

abbrev pub judged : (bad frames bytes : ℕ) → Judged
judged bad frames bytes = record { bad = bad; frames = frames; bytes = bytes }

-- what one line counts for: a blank one for nothing; a fault and a refusal are a bad line; what the writer replies to is a frame of as many
-- bytes as it replies
abbrev pub counts : Said → Judged
counts nothing = judged 0 0 0
counts (faulty fault) = judged 1 0 0
counts (answered (refused n)) = judged 1 0 0
counts (answered (replied numbers)) = judged 0 1 (get_or numbers 0 0)

abbrev pub plus : Judged → Judged → Judged
plus one other = judged (one.bad + other.bad) (one.frames + other.frames) (one.bytes + other.bytes)

-- what all lines count for
unfoldable pub sum : List (List ℕ) → Judged
sum [] = judged 0 0 0
sum (line ∷ rest) = plus (counts (line_says line)) (sum rest)

abbrev pub judged_of : List ℕ → Judged
judged_of input = sum (lines input)

-- the most bytes of a file of steps
abbrev pub most : ℕ
most = 1048576

-- a file that is too long is not looked at
unfoldable pub judgement : List ℕ → Result Judged TooLong
judgement input = cond (ltb most (length input)) (Err (record {})) (Ok (judged_of input))
