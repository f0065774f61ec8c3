-- What a call answers: the number of a refusal, or the numbers of its reply. (F-6 is a request of 02, the agreed changes; docs/RULES.md has its
-- rule.)
use Rattle.std.specs.Prelude.{ℕ, min, List, [], ◌∷◌, map, Bool, true, false, cond, ◌&&◌, ◌||◌, ltb, eqb, take, get_or}

-- the answer of 01 (the agreed scope; docs/RULES.md has its rules): the refusal number or the whole reply
pub data Reply : Type 0 where
  refused : ℕ → Reply
  replied : List ℕ → Reply

unfoldable pub accepted : Reply → Bool
accepted (refused n) = false
accepted (replied ns) = true

-- the numbers of a reply
abbrev pub numbers_of : Reply → List ℕ
numbers_of (refused n) = []
numbers_of (replied ns) = ns

-- F-6's number of records looked at, which a fetch replies behind its two counts; and an answer without it, as the log prints it and as the byte
-- map gives it. (No other call replies more than two numbers, so that nothing else is left out.)
abbrev pub looked_in : Reply → ℕ
looked_in r = get_or (numbers_of r) 2 0

abbrev pub without_looked : Reply → Reply
without_looked (refused n) = refused n
without_looked (replied ns) = replied (take 2 ns)

-- a reason to turn a call away: whether it applies, and its number
pub record Check : Type 0 where
  pub applies : Bool
  pub number : ℕ

abbrev pub ◌⇒◌ : Bool → ℕ → Check
applies ⇒ n = record { applies = applies; number = n }

infix 80 ◌⇒◌
-- the first check that applies gives its number
unfoldable pub verdict : List Check → Reply → Reply
verdict [] reply = reply
verdict (c ∷ cs) reply = elim c.applies [ true ↦ refused c.number | false ↦ verdict cs reply ]

-- the numbers of a list of checks, and of those that apply
abbrev pub numbers : List Check → List ℕ
numbers cs = map (λ c. c.number) cs

unfoldable pub applying : List Check → List ℕ
applying [] = []
applying (c ∷ cs) = cond c.applies (c.number ∷ applying cs) (applying cs)

-- does each number stand above the one before it, and the first above k?
unfoldable pub ascend_from : ℕ → List ℕ → Bool
ascend_from k [] = true
ascend_from k (n ∷ ns) = ltb k n && ascend_from n ns

abbrev pub minimum : ℕ → List ℕ → ℕ
minimum k [] = k
minimum k (n ∷ ns) = min n (minimum k ns)

-- 01's rule on which number is given: the lowest of those that apply, and the reply where there is none
unfoldable pub lowest_or : List ℕ → Reply → Reply
lowest_or [] reply = reply
lowest_or (k ∷ ks) reply = refused (minimum k ks)

-- is the number in the list?
unfoldable pub contains : List ℕ → ℕ → Bool
contains [] n = false
contains (k ∷ ks) n = eqb n k || contains ks n

-- is an answer a refusal with a number of the list, or no refusal?
unfoldable pub keeps_to : List ℕ → Reply → Bool
keeps_to ks (refused n) = contains ks n
keeps_to ks (replied ns) = true
