-- The first line of a text and the lines behind it, and what they count for.
use Prim.Native.Nat.{ℕ, suc, ◌+◌, ◌≤◌, ◌<◌, min}
use native.Mathlib.Nat.{zero-add, add-zero, add_assoc}
use native.Mathlib.Omega.{arith}
use mathlib.Core.Path.{◌≡◌, refl, ap, sym, ◌∙◌}
use mathlib.Core.List.{List, [], ◌∷◌}
use mathlib.Core.Bool.{Bool, true, false, cond}
use lib.Dec.{eqb}
use lib.ListN.{length, take, drop, get_or}
use lib.Seq.{drop-drop}
use Rattle.std.specs.List.{enumerate_from}
use Rattle.std.proofs.lemmas.List.{at_drop_more, at_drop_all, drop_min}
use Rattle.std.proofs.lemmas.List.FromFn.{length-enumerate_from, get_or-enumerate_from}
use Rattle.scan.specs.declared.Stop.TheVariants.{LineEnd}
use Rattle.scan.specs.Scan.{before, stops, place}
use Rattle.script.specs.declared.judging.Judged.{Judged}
use Rattle.script.specs.Judging.{in_front, lines, line_says, judged, counts, plus, sum}

-- how many bytes stand before the first newline
abbrev pub first : List ℕ → ℕ
first text = before (stops LineEnd) text

-- a text with a byte in it is its first line, and the lines of what stands behind that and its newline
pub first_line : (text : List ℕ) → 0 < length text → lines text ≡ take (first text) text ∷ lines (drop (suc (first text)) text)
unfolding lines in_front before
first_line [] some = absurd (omega arith)
first_line (b ∷ []) some = go (eqb b 10)
  where
    go : (t : Bool) → cond t ([] ∷ []) ((b ∷ []) ∷ []) ≡ take (cond t 0 1) (b ∷ []) ∷ lines (drop (suc (cond t 0 1)) (b ∷ []))
    go true = refl
    go false = refl
first_line (b ∷ c ∷ cs) some = go (eqb b 10) (first_line (c ∷ cs) (omega arith))
  where
    go : (t : Bool) → lines (c ∷ cs) ≡ take (first (c ∷ cs)) (c ∷ cs) ∷ lines (drop (suc (first (c ∷ cs))) (c ∷ cs))
        → cond t ([] ∷ lines (c ∷ cs)) (in_front b (lines (c ∷ cs)))
        ≡ take (cond t 0 (suc (first (c ∷ cs)))) (b ∷ c ∷ cs) ∷ lines (drop (suc (cond t 0 (suc (first (c ∷ cs))))) (b ∷ c ∷ cs))
    go true e = refl
    go false e = ap (in_front b) e

plus_assoc : (a b c : Judged) → plus (plus a b) c ≡ plus a (plus b c)
plus_assoc a b c = λ i. judged
    (add_assoc a.bad b.bad c.bad i)
    (add_assoc a.frames b.frames c.frames i)
    (add_assoc a.bytes b.bytes c.bytes i)

pub no_lines : (text : List ℕ) → length text ≤ 0 → lines text ≡ []
unfolding lines
no_lines [] none = refl
no_lines (b ∷ bs) none = absurd (omega arith)

-- so the line that comes next ends at the first newline, and the others stand behind that
pub next_line : (text : List ℕ) (end skipped : ℕ) → 0 < length text → end ≡ place LineEnd text 0 → skipped ≡ min (length (drop end text)) 1
    → lines text ≡ take end text ∷ lines (drop skipped (drop end text))
next_line text end skipped some e s =
    let size : first text ≡ end = omega (arith, e) in
    let one : skipped ≡ min 1 (length (drop end text)) = omega (arith, s) in
    let past : end + 1 ≡ suc end = omega arith in
    first_line text some
    ∙ ap (λ (n : ℕ). take n text ∷ lines (drop (suc n) text)) size
    ∙ ap (λ (rest : List ℕ). take end text ∷ lines rest)
    (sym (ap (λ (n : ℕ). drop n (drop end text)) one ∙ drop_min 1 (drop end text) ∙ drop-drop 1 end text ∙ ap (λ (n : ℕ). drop n text) past))

in_front_few : (b : ℕ) (ls : List (List ℕ)) → length (in_front b ls) ≤ suc (length ls)
unfolding in_front
in_front_few b [] = omega arith
in_front_few b (l ∷ ls) = omega arith

-- a text has no more lines than bytes
pub lines_few : (text : List ℕ) → length (lines text) ≤ length text
unfolding lines
lines_few [] = omega arith
lines_few (b ∷ bs) = go (eqb b 10) (lines_few bs)
  where
    go : (t : Bool) → length (lines bs) ≤ length bs → length (cond t ([] ∷ lines bs) (in_front b (lines bs))) ≤ suc (length bs)
    go true few = omega arith
    go false few = omega (arith, in_front_few b (lines bs))

-- the item that an enumeration of lines gives behind n others is line n
pub nth_line : (ls : List (List ℕ)) (n i : ℕ) (line : List ℕ)
    → (n < length (enumerate_from 0 ls)) × (◌≡◌ {A = ℕ × List ℕ} (i, line) (get_or (enumerate_from 0 ls) n (i, line)))
    → (n < length ls) × (line ≡ get_or ls n line)
nth_line ls n i line at =
    let inside : n < length ls = omega (arith, at.0, length-enumerate_from 0 ls) in
    (inside, ap (λ (p : ℕ × List ℕ). p.1) (at.1 ∙ get_or-enumerate_from 0 ls n (i, line) inside))

-- what was counted before with what is counted of one line more is still part of the whole
pub one_more : (ls : List (List ℕ)) (n : ℕ) (so_far one whole : Judged) (line : List ℕ) → (n < length ls) × (line ≡ get_or ls n line)
    → one ≡ counts (line_says line) → plus so_far (sum (drop n ls)) ≡ whole → plus (plus so_far one) (sum (drop (n + 1) ls)) ≡ whole
unfolding sum
one_more ls n so_far one whole line at is all =
    let same : one ≡ counts (line_says (get_or ls n line)) = is ∙ ap (λ (l : List ℕ). counts (line_says l)) at.1 in
    plus_assoc so_far one (sum (drop (n + 1) ls))
    ∙ ap (λ (j : Judged). plus so_far (plus j (sum (drop (n + 1) ls)))) same
    ∙ ap (plus so_far) (sym (at_drop_more sum ls n line at.0))
    ∙ all

pub plus_none : (j : Judged) → plus (judged 0 0 0) j ≡ j
plus_none j = λ i. judged (zero-add j.bad i) (zero-add j.frames i) (zero-add j.bytes i)

-- behind the last line nothing is counted
pub none_left : (ls : List (List ℕ)) (n : ℕ) (j : Judged) → length ls ≤ n → plus j (sum (drop n ls)) ≡ j
unfolding sum
none_left ls n j past = ap (plus j) (at_drop_all sum ls n past) ∙ (λ i. judged (add-zero j.bad i) (add-zero j.frames i) (add-zero j.bytes i))
