-- Entries as they are read from a buffer: one by one, the first of them, and those of two stretches side by side.
use Prim.Native.Nat.{ℕ, zero, suc, ◌+◌, ◌-◌, ◌*◌, ◌≤◌, ◌<◌}
use native.Mathlib.Nat.{zero-add, add-zero, suc-add}
use native.Mathlib.Omega.{arith}
use mathlib.Core.Path.{◌≡◌, refl, ap, sym, ◌∙◌}
use mathlib.Core.Logic.{◌≢◌}
use mathlib.Core.List.{List, [], ◌∷◌, ◌++◌, append-nil}
use mathlib.Core.Bool.{true, false}
use lib.Dec.{ltb}
use borrow.Author.Tests.{lt-ltb}
use lib.ListN.{length, take, drop, get_or, length-drop, take-append-drop}
use lib.Seq.{drop-drop, take-append-le, drop-append-le, length-take-le}
use Rattle.octets.specs.Lists.{part}
use Rattle.endian.specs.LittleEndian.{least_first}
use Rattle.prp.specs.Entries.{entries_in, entries_behind}

-- the entries from entry i on begin with it
pub next_entry :
    (bytes : List ℕ) (count i : ℕ) → i < count
    → entries_in (count - i) (drop (8 * i) bytes) ≡ least_first (part bytes (8 * i) 8) ∷ entries_in (count - suc i) (drop (8 * suc i) bytes)
unfolding entries_in
next_entry bytes count i h =
    let more : count - i ≡ suc (count - suc i) = omega arith in
    let next : 8 * i + 8 ≡ 8 * suc i = omega arith in
    rw (more, drop-drop 8 (8 * i) bytes, next)

-- how many there are
pub length_entries : (k : ℕ) (bytes : List ℕ) → length (entries_in k bytes) ≡ k
unfolding entries_in
length_entries zero bytes = refl
length_entries (suc k) bytes = ap suc (length_entries k (drop 8 bytes))

-- entry i
pub entry_at : (k : ℕ) (bytes : List ℕ) (i : ℕ) → i < k → get_or (entries_in k bytes) i 0 ≡ least_first (part bytes (8 * i) 8)
unfolding entries_in
entry_at zero bytes i h = absurd (omega arith)
entry_at (suc k) bytes zero h = refl
entry_at (suc k) bytes (suc i) h =
    let next : 8 + 8 * i ≡ 8 * suc i = omega arith in
    entry_at k (drop 8 bytes) i (omega arith) ∙ rw (drop-drop (8 * i) 8 bytes, next)

-- the first of them
pub entries_first : (j k : ℕ) (bytes : List ℕ) → j ≤ k → take j (entries_in k bytes) ≡ entries_in j bytes
unfolding entries_in
entries_first zero k bytes h = refl
entries_first (suc j) zero bytes h = absurd (omega arith)
entries_first (suc j) (suc k) bytes h = ap (λ (rest : List ℕ). least_first (take 8 bytes) ∷ rest) (entries_first j k (drop 8 bytes) (omega arith))

-- those of two stretches, the first of which is j entries long
pub entries_beside : (j l : ℕ) (xs ys : List ℕ) → length xs ≡ 8 * j → entries_in (j + l) (xs ++ ys) ≡ entries_in j xs ++ entries_in l ys
unfolding entries_in
entries_beside zero l [] ys e = rw zero-add
entries_beside zero l (x ∷ xs) ys e = absurd (omega arith)
entries_beside (suc j) l xs ys e =
    let enough : 8 ≤ length xs = omega arith in
    rw (suc-add, take-append-le 8 xs ys enough, drop-append-le 8 xs ys enough)
    (ap (λ (rest : List ℕ). least_first (take 8 xs) ∷ rest) (entries_beside j l (drop 8 xs) ys (length-drop 8 xs ∙ omega arith)))

-- what stands behind the entries does not enter them, and so no more than their own bytes does
pub entries_front : (k : ℕ) (xs ys : List ℕ) → length xs ≡ 8 * k → entries_in k (xs ++ ys) ≡ entries_in k xs
unfolding entries_in
entries_front k xs ys e =
    ap (λ (n : ℕ). entries_in n (xs ++ ys)) (sym (add-zero k)) ∙ entries_beside k 0 xs ys e ∙ append-nil (entries_in k xs)

pub entries_taken : (k : ℕ) (bytes : List ℕ) → 8 * k ≤ length bytes → entries_in k (take (8 * k) bytes) ≡ entries_in k bytes
entries_taken k bytes h =
    sym (entries_front k (take (8 * k) bytes) (drop (8 * k) bytes) (length-take-le (8 * k) bytes h)) ∙ ap (entries_in k) (take-append-drop (8 * k) bytes)

-- the entries behind PRP1: PRP2 if one is needed, and else those that stand in the bytes, if any
pub behind_one_lem : (prp2 : ℕ) (bytes : List ℕ) → entries_behind prp2 1 bytes ≡ prp2 ∷ []
unfolding entries_behind
behind_one_lem prp2 bytes = refl

pub behind_few : (prp2 needed : ℕ) (bytes : List ℕ) → ltb 1 needed ≡ false → entries_behind prp2 needed bytes ≡ take needed (prp2 ∷ [])
unfolding entries_behind
behind_few prp2 needed bytes few = rw (few, entries_behind)

pub behind_some : (prp2 needed : ℕ) (bytes : List ℕ) → needed ≢ 1 → entries_behind prp2 needed bytes ≡ entries_in needed bytes
unfolding entries_behind entries_in
behind_some prp2 zero bytes h = refl
behind_some prp2 (suc zero) bytes h = absurd (h refl)
behind_some prp2 (suc (suc k)) bytes h = let many : ltb 1 (suc (suc k)) ≡ true = lt-ltb 1 (suc (suc k)) (omega arith) in rw (many, entries_behind)
