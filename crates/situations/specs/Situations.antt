-- The marked situations of 01 (the agreed scope, with requests F-1, F-3 and F-6 of 02; docs/RULES.md has their rules), those with a star and K. Each
-- starts with command 0 open, no records, and a window of 16,384 bytes. Every accepted fetch says how many records it looks at, too.
use Rattle.std.specs.Prelude.{ℕ, ◌*◌, ◌%◌, ◌≡◌, List, [], ◌∷◌, ◌++◌, map, true, replicate}
use Rattle.octets.specs.Lists.{all}
use Rattle.state.specs.declared.Record.{Record}
use Rattle.state.specs.Records.{span}
use Rattle.state.specs.Verdict.{refused, replied}
use Rattle.cache.specs.Runs.{begin, fetch, end, host_write, own_write, start}
use Rattle.situations.specs.Steps.{Expected, unsaid, is, Step, calls, reads, passes}

-- the byte at each address is its number modulo 256
unfoldable pub bytes_of : ℕ → ℕ → List ℕ
unfolding span
bytes_of a n = map (λ x. x % 256) (span a n)

unfoldable pub window : List ℕ
unfolding bytes_of
window = bytes_of 0 16384

unfoldable pub dest : List ℕ
dest = replicate 4096 0

unfoldable pub store : List ℕ
store = replicate 32768 5

-- 01's a+n
abbrev ◌∔◌ : ℕ → ℕ → Record
a ∔ n = record { start = a; len = n }

infix 80 ◌∔◌
unfoldable pub opens : Step
opens = calls (record { call = begin 0; answer = replied []; bytes = []; records = is []; window = unsaid })

-- command 0 fetches a+n and is given its bytes, or is turned away
unfoldable pub fetches : (a n fresh replayed looked : ℕ) → Expected (List Record) → Step
unfolding bytes_of window dest
fetches a n fresh replayed looked rs =
    calls
    (record { call = fetch 0 a n dest window; answer = replied (fresh ∷ replayed ∷ looked ∷ []); bytes = bytes_of a n; records = rs; window = unsaid })

unfoldable pub turned_away : (a n number : ℕ) → Expected (List Record) → Step
unfolding window dest
turned_away a n number rs = calls (record { call = fetch 0 a n dest window; answer = refused number; bytes = []; records = rs; window = unsaid })

unfoldable pub A : List Step
unfolding fetches
A = fetches 16 4 4 0 0 (is (16 ∔ 4 ∷ [])) ∷ fetches 14 8 4 4 1 (is (14 ∔ 8 ∷ [])) ∷ []

-- F-1: one record after the second fetch
unfoldable pub B : List Step
unfolding fetches
B = fetches 0 4 4 0 0 unsaid ∷ fetches 4 4 4 0 1 (is (0 ∔ 8 ∷ [])) ∷ fetches 2 4 0 4 1 (is (0 ∔ 8 ∷ [])) ∷ []

unfoldable pub C : List Step
unfolding fetches
C = fetches 16384 0 0 0 0 (is []) ∷ []

unfoldable pub D : List Step
unfolding fetches turned_away
D = fetches 16383 1 1 0 0 unsaid ∷ turned_away 16384 1 9 (is (16383 ∔ 1 ∷ [])) ∷ []

unfoldable pub E : List Step
unfolding fetches turned_away
E = fetches 0 4096 4096 0 0 unsaid ∷ turned_away 4096 1 23 (is (0 ∔ 4096 ∷ [])) ∷ fetches 0 4096 0 4096 1 (is (0 ∔ 4096 ∷ [])) ∷ []

-- the records at the even addresses from 2 × i on, n of them
evens : ℕ → ℕ → List Record
unfolding span
evens i n = map (λ k. (2 * k) ∔ 1) (span i n)

-- a fetch behind all records looks at each of them; the last one at the two that it joins, and at the next, which ends the search
unfoldable pub F : List Step
unfolding fetches turned_away evens span
F =
    map (λ k. fetches (2 * k) 1 1 0 k unsaid) (span 0 64)
    ++ turned_away 128 1 24 (is (evens 0 64)) ∷ fetches 0 3 1 2 3 (is (0 ∔ 3 ∷ evens 2 62)) ∷ []

unfoldable pub G : List Step
G = calls (record { call = begin 0; answer = refused 22; bytes = []; records = is []; window = unsaid }) ∷ []

unfoldable pub H : List Step
unfolding turned_away
H = turned_away 0 4097 4 (is []) ∷ []

-- a spare bit that is set, a frame cut off, and a kind that is not allowed
unfoldable pub I : List Step
I = reads (0x28 ∷ 0 ∷ 0x40 ∷ 0 ∷ 0x81 ∷ []) (refused 3) ∷ reads (0x28 ∷ 0 ∷ 0x40 ∷ 0 ∷ []) (refused 1) ∷ reads (0xa0 ∷ 0 ∷ 0 ∷ 0 ∷ 0 ∷ []) (refused 2) ∷ []

-- the window after a write of two bytes at 16
written : List ℕ
unfolding bytes_of
written = bytes_of 0 16 ++ 201 ∷ 202 ∷ bytes_of 18 16366

-- F-3: a command that writes what it holds gets the written bytes, also where the host has put the old ones back; another command gets the
-- window's
unfoldable pub J : List Step
unfolding fetches bytes_of window dest written
J =
    fetches 16 2 2 0 0 (is (16 ∔ 2 ∷ []))
    ∷ calls
    (record { call = own_write 0 16 (201 ∷ 202 ∷ []) window; answer = replied (2 ∷ 0 ∷ []); bytes = []; records = is (16 ∔ 2 ∷ []); window = is written })
    ∷ calls
    (record { call = fetch 0 16 2 dest written; answer = replied (0 ∷ 2 ∷ 1 ∷ []); bytes = 201 ∷ 202 ∷ []; records = is (16 ∔ 2 ∷ []); window = unsaid })
    ∷ calls
    (record { call = fetch 0 16 2 dest window; answer = replied (0 ∷ 2 ∷ 1 ∷ []); bytes = 201 ∷ 202 ∷ []; records = is (16 ∔ 2 ∷ []); window = unsaid })
    ∷ calls (record { call = begin 1; answer = replied []; bytes = []; records = is (16 ∔ 2 ∷ []); window = unsaid })
    ∷ calls
    (record { call = fetch 1 16 2 dest window; answer = replied (2 ∷ 0 ∷ 0 ∷ []); bytes = 16 ∷ 17 ∷ []; records = is (16 ∔ 2 ∷ []); window = unsaid })
    ∷ []

-- the same two bytes written by the host, the command ended and begun anew: it gets the new ones
unfoldable pub K : List Step
unfolding fetches opens bytes_of window dest written
K =
    fetches 16 2 2 0 0 (is (16 ∔ 2 ∷ []))
    ∷ calls (record { call = host_write 16 (201 ∷ 202 ∷ []) window; answer = replied (2 ∷ []); bytes = []; records = unsaid; window = is written })
    ∷ calls (record { call = end 0; answer = replied (1 ∷ 2 ∷ []); bytes = []; records = is []; window = unsaid })
    ∷ opens
    ∷ calls
    (record { call = fetch 0 16 2 dest written; answer = replied (2 ∷ 0 ∷ 0 ∷ []); bytes = 201 ∷ 202 ∷ []; records = is (16 ∔ 2 ∷ []); window = unsaid })
    ∷ []

unfoldable pub situations : List (List Step)
unfolding A B C D E F G H I J K
situations = A ∷ B ∷ C ∷ D ∷ E ∷ F ∷ G ∷ H ∷ I ∷ J ∷ K ∷ []

-- every situation passes, from the fresh state and command 0's begin on
abbrev pub Situations : Type 0
Situations = all (λ steps. passes (start store) (opens ∷ steps)) situations ≡ true
