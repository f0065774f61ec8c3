-- The counts of a reply, and what they are by what a command has fetched and written, told from the journal.
use Rattle.std.specs.Prelude.{ℕ, ◌+◌, List, [], ◌∷◌, cond, not, eqb, length, get_or, drop}
use Rattle.octets.specs.Lists.{count}
use Rattle.state.specs.Records.{span, looked}
use Rattle.state.specs.Runs.{runs}
use Rattle.state.specs.Verdict.{Reply, numbers_of}
use Rattle.history.specs.Journal.{Event, Deed, began, fetched, wrote, ended, other, deed}
use Rattle.history.specs.Firsts.{Memory, memory, is_known, firsts_among}

-- the numbers that an accepted fetch replied, three, and an accepted own write, two
abbrev pub counts_in : Reply → Deed → List ℕ
counts_in r (began c) = []
counts_in r (fetched c a n window) = numbers_of r
counts_in r (wrote c a bytes) = numbers_of r
counts_in r (ended c) = []
counts_in r other = []

abbrev pub counts_replied : List Event → Event → List ℕ
counts_replied past e = counts_in e.answer (deed e)

-- Of a fetch, fresh is the number of first fetches at this event, and replayed that of the span's addresses which the command has fetched or
-- written before; the third number is how many are looked at of the longest runs of what it has fetched or written before (F-6). Of an own write, the
-- first is the number of bytes, and the second that of the addresses which it has neither fetched nor written before.
unfoldable pub counts_by : Memory → Deed → List ℕ
counts_by mem (began c) = []
counts_by mem (fetched c a n window) =
    length (firsts_among (mem c) window (span a n)) ∷ count (λ x. is_known (mem c x)) (span a n) ∷ looked (runs (λ x. is_known (mem c x))) a n ∷ []
counts_by mem (wrote c a bytes) = length bytes ∷ count (λ x. not (is_known (mem c x))) (span a (length bytes)) ∷ []
counts_by mem (ended c) = []
counts_by mem other = []

abbrev pub counts_owed : List Event → Event → List ℕ
counts_owed past e = counts_by (memory past) (deed e)

-- the byte number that an accepted end replied
abbrev pub bytes_in : Reply → Deed → List ℕ
bytes_in r (began c) = []
bytes_in r (fetched c a n window) = []
bytes_in r (wrote c a bytes) = []
bytes_in r (ended c) = drop 1 (numbers_of r)
bytes_in r other = []

abbrev pub bytes_replied : List Event → Event → List ℕ
bytes_replied past e = bytes_in e.answer (deed e)

-- for each command, the sum over its accepted fetches and own writes since its last accepted begin: of fresh, a fetch's first number, and of an
-- own write's second
unfoldable pub add : (ℕ → ℕ) → Reply → Deed → ℕ → ℕ
add sums r (began c) = λ d. cond (eqb d c) 0 (sums d)
add sums r (fetched c a n window) = λ d. cond (eqb d c) (sums d + get_or (numbers_of r) 0 0) (sums d)
add sums r (wrote c a bytes) = λ d. cond (eqb d c) (sums d + get_or (numbers_of r) 1 0) (sums d)
add sums r (ended c) = sums
add sums r other = sums

unfoldable pub fresh_since : List Event → ℕ → ℕ
fresh_since [] = λ c. 0
fresh_since (e ∷ past) = add (fresh_since past) e.answer (deed e)

abbrev pub sum_by : (ℕ → ℕ) → Deed → List ℕ
sum_by sums (began c) = []
sum_by sums (fetched c a n window) = []
sum_by sums (wrote c a bytes) = []
sum_by sums (ended c) = sums c ∷ []
sum_by sums other = []

-- that sum, at an accepted end
abbrev pub sum_owed : List Event → Event → List ℕ
sum_owed past e = sum_by (fresh_since past) (deed e)
