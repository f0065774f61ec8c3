-- The entries of a list page are multiples of a page where none was judged wrong.
use Prim.Native.Nat.{ℕ, zero, suc, ◌%◌}
use mathlib.Core.Path.{◌≡◌, refl}
use mathlib.Core.List.{List, [], ◌∷◌, ◌++◌, map}
use mathlib.Core.Bool.{Bool, true, false, cond, not, ◌&&◌}
use lib.ListN.{take, get_or}
use borrow.Author.Tests.{eqb-true, not-false}
use Rattle.octets.specs.Lists.{all}
use Rattle.octets.proofs.Lists.{and_left, and_right, both, all_at}
use Rattle.state.specs.Verdict.{Reply, refused, replied, accepted, verdict}
use Rattle.state.proofs.Verdict.{none_applies}
use Rattle.prp.specs.Pages.{page_size}
use Rattle.prp.specs.Entries.{entries_in, is_multiple, wrong_multiple, judged, ◌then◌, page_says}

-- are all of them multiples of a page?
abbrev pub aligned : List ℕ → Bool
aligned entries = all (is_multiple page_size) entries

-- judged, all of them are multiples, or 32 is said
pub judged_all : (k : ℕ) (xs : List ℕ) → judged (map (wrong_multiple k) xs) ≡ cond (all (is_multiple k) xs) (replied []) (refused 32)
unfolding all verdict
judged_all k [] = refl
judged_all k (x ∷ xs) = go (is_multiple k x) (judged_all k xs)
  where
    rest : Reply
    rest = judged (map (wrong_multiple k) xs)

    go : (b : Bool) → rest ≡ cond (all (is_multiple k) xs) (replied []) (refused 32)
        → elim (not b) [ false ↦ rest | true ↦ refused 32 ] ≡ cond (b && all (is_multiple k) xs) (replied []) (refused 32)
    go true e = e
    go false e = refl

-- what is judged replies nothing more
judged_nothing : (k : ℕ) (xs : List ℕ) → (judged (map (wrong_multiple k) xs) then replied []) ≡ judged (map (wrong_multiple k) xs)
judged_nothing k xs = rw (judged_all k xs) (go (all (is_multiple k) xs))
  where
    go : (b : Bool) → (cond b (replied []) (refused 32) then replied []) ≡ cond b (replied []) (refused 32)
    go true = refl
    go false = refl

pub page_nothing : (k : ℕ) (answer : Reply) (bytes : List ℕ)
    → (page_says k (record { answer = answer; bytes = bytes }) then replied []) ≡ page_says k (record { answer = answer; bytes = bytes })
page_nothing k (refused n) bytes = refl
page_nothing k (replied ns) bytes = judged_nothing page_size (entries_in k bytes)

pub entries_aligned : (entries : List ℕ) → accepted (judged (map (wrong_multiple page_size) entries)) ≡ true → aligned entries ≡ true
unfolding accepted
entries_aligned entries e = go (aligned entries) (rw (judged_all page_size entries) at e)
  where
    go : (b : Bool) → accepted (cond b (replied []) (refused 32)) ≡ true → b ≡ true
    go true h = refl
    go false h = h

-- one entry, judged alone
pub entry_judged : (k x : ℕ) → accepted (judged (wrong_multiple k x ∷ [])) ≡ true → x % k ≡ 0
entry_judged k x e = eqb-true _ _ (not-false _ (none_applies _ _ e).0)

-- some of them, two lists of them, and one of them
pub aligned_take : (k : ℕ) (entries : List ℕ) → aligned entries ≡ true → aligned (take k entries) ≡ true
unfolding all
aligned_take zero entries h = refl
aligned_take (suc k) [] h = refl
aligned_take (suc k) (x ∷ xs) h = both (and_left (is_multiple page_size x) _ h) (aligned_take k xs (and_right (is_multiple page_size x) _ h))

pub aligned_append : (xs ys : List ℕ) → aligned xs ≡ true → aligned ys ≡ true → aligned (xs ++ ys) ≡ true
unfolding all
aligned_append [] ys h k = k
aligned_append (x ∷ xs) ys h k = both (and_left (is_multiple page_size x) _ h) (aligned_append xs ys (and_right (is_multiple page_size x) _ h) k)

pub aligned_at : (entries : List ℕ) (i : ℕ) → aligned entries ≡ true → get_or entries i 0 % page_size ≡ 0
aligned_at entries i h = eqb-true _ _ (all_at (is_multiple page_size) entries i 0 h refl)
