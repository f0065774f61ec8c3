-- The records of one command: which addresses they hold, where the held bytes stand, and what a span that is fetched or written makes of them
-- (01, the agreed scope, "The book and the store" and the rule of fetch, with requests F-1, F-3 and F-6 of 02, the agreed changes; docs/RULES.md
-- has their rules).
use Rattle.std.specs.Prelude.{ℕ, zero, suc, ◌+◌, ◌-◌, min, max, List, [], ◌∷◌, ◌++◌, Bool, false, cond, ◌&&◌, ◌||◌, ltb, leb, eqb, length}
use Rattle.state.specs.declared.Record.{Record}

-- the address after a record
abbrev pub past : Record → ℕ
past r = r.start + r.len

-- is the address one of the n from a on?
abbrev pub in_span : ℕ → ℕ → ℕ → Bool
in_span a n x = leb a x && ltb x (a + n)

-- is the address in one of the records?
unfoldable pub held : List Record → ℕ → Bool
held [] x = false
held (r ∷ rs) x = in_span r.start r.len x || held rs x

-- 01's span a+n: the n addresses from a on
unfoldable pub span : ℕ → ℕ → List ℕ
span a zero = []
span a (suc n) = a ∷ span (suc a) n

-- the held addresses, in the order of the records: the packed bytes of the store part stand in this order
unfoldable pub addresses : List Record → List ℕ
addresses [] = []
addresses (r ∷ rs) = span r.start r.len ++ addresses rs

-- how many distinct bytes the records hold
unfoldable pub total : List Record → ℕ
total [] = 0
total (r ∷ rs) = r.len + total rs

-- how many held addresses lie below x, which is the place of x among the packed bytes
unfoldable pub place : List Record → ℕ → ℕ
place [] x = 0
place (r ∷ rs) x = min r.len (x - r.start) + place rs x

-- how many of the listed addresses are in no record
unfoldable pub count_fresh : List Record → List ℕ → ℕ
count_fresh rs [] = 0
count_fresh rs (x ∷ xs) = cond (held rs x) (count_fresh rs xs) (suc (count_fresh rs xs))

-- 01's fresh count of a span
abbrev pub fresh : List Record → ℕ → ℕ → ℕ
fresh rs a n = count_fresh rs (span a n)

-- how many of the listed addresses are in a record
unfoldable pub count_held : List Record → List ℕ → ℕ
count_held rs [] = 0
count_held rs (x ∷ xs) = cond (held rs x) (suc (count_held rs xs)) (count_held rs xs)

-- 01's replayed count of a span
abbrev pub replayed : List Record → ℕ → ℕ → ℕ
replayed rs a n = count_held rs (span a n)

unfoldable pub keep : (Record → Bool) → List Record → List Record
keep p [] = []
keep p (r ∷ rs) = cond (p r) (r ∷ keep p rs) (keep p rs)

-- 01's sharing of a byte between a record and the span, where each has a byte or more
abbrev pub shares : ℕ → ℕ → Record → Bool
shares a n r = ltb r.start (a + n) && ltb a (past r)

-- F-1's touching: the record ends where the span starts, or starts where the span ends
abbrev pub touches : ℕ → ℕ → Record → Bool
touches a n r = eqb (past r) a || eqb r.start (a + n)

-- F-1's records that a span is joined with: those that share a byte with it or touch it, in one test (`MeetsWords`)
abbrev pub meets : ℕ → ℕ → Record → Bool
meets a n r = leb r.start (a + n) && leb a (past r)

-- the records that end before a, and those that start after e, with an address between that is in neither
abbrev pub earlier : ℕ → List Record → List Record
earlier a = keep (λ r. ltb (past r) a)

abbrev pub later : ℕ → List Record → List Record
later e = keep (λ r. ltb e r.start)

-- the lowest of a and the records' starts, and the highest of e and the addresses after them
unfoldable pub lowest : ℕ → List Record → ℕ
lowest a [] = a
lowest a (r ∷ rs) = min r.start (lowest a rs)

unfoldable pub highest : ℕ → List Record → ℕ
highest e [] = e
highest e (r ∷ rs) = max (past r) (highest e rs)

-- one record over the span and the records that it meets
abbrev pub union : ℕ → ℕ → List Record → Record
union a n met = record { start = lowest a met; len = highest (a + n) met - lowest a met }

-- The joining rule, 01's with F-1: the records after the span is held. The union takes the place of the records that the span meets, and
-- a span of length 0 joins nothing, touching or not.
unfoldable pub joined : List Record → ℕ → ℕ → List Record
joined rs a zero = rs
joined rs a (suc n) = earlier a rs ++ union a (suc n) (keep (meets a (suc n)) rs) ∷ later (a + suc n) rs

-- F-6's search, which takes the records as they stand, from the lowest start upward: how many it looks at until one starts above e, that one
-- counted; all of them where none does
unfoldable pub looked_up_to : (e : ℕ) → List Record → ℕ
looked_up_to e [] = 0
looked_up_to e (r ∷ rs) = suc (cond (ltb e r.start) 0 (looked_up_to e rs))

-- F-6's number of a fetch: the search for a span of no bytes looks at none
unfoldable pub looked : List Record → (a n : ℕ) → ℕ
looked rs a zero = 0
looked rs a (suc n) = looked_up_to (a + suc n) rs

-- F-6's records that start at or below an address, counted (`LookedBound`, `LookedExactly`)
abbrev pub starting_up_to : (e : ℕ) → List Record → ℕ
starting_up_to e rs = length (keep (λ r. leb r.start e) rs)
