-- Where the held bytes stand: the place of an address, and how the place moves from one address to the next.
use Prim.Native.Nat.{ℕ, zero, suc, ◌+◌, ◌-◌, ◌≤◌, ◌<◌, min, max}
use mathlib.Core.Path.{◌≡◌, refl, sym, ap, ◌∙◌}
use mathlib.Core.List.{List, [], ◌∷◌, ◌++◌, map}
use mathlib.Core.Bool.{Bool, true, false, cond}
use native.Mathlib.Omega.{arith}
use native.Mathlib.Nat.{add-zero, add-suc, zero-add, suc-add, not-suc-le-zero}
use lib.ListN.{length, take, drop, get_or}
use lib.Seq.{drop-cons}
use Rattle.state.specs.declared.Record.{Record}
use Rattle.state.specs.Records.{past, held, span, total, place, count_fresh, fresh, count_held}
use Rattle.state.specs.State.{ascending}
use Rattle.state.specs.Claims.{CountsFill, PlaceMiddle}
use Rattle.state.proofs.Cases.{Lies, over, within, beneath, lies, Ascends, ascends, inside, below, above}

-- behind a record all of it counts
pub place_all : (r : Record) (x : ℕ) → past r ≤ x → min r.len (x - r.start) ≡ r.len
place_all r x h = omega arith

pub place_none : (r : Record) (x : ℕ) → x ≤ r.start → min r.len (x - r.start) ≡ 0
place_none r x h = omega arith

-- at and below the first record nothing is held
pub place_low : (lo : ℕ) (rs : List Record) (x : ℕ) → ascending lo rs ≡ true → x ≤ lo → place rs x ≡ 0
unfolding place
place_low lo [] x up h = refl
place_low lo (r ∷ rs) x up h =
    let u = ascends lo r rs up in
    let ih = place_low (suc (past r)) rs x u.rest (omega arith) in
    omega arith

-- an address at or below the first record counts as the other one
pub place_max : (p lo : ℕ) (rs : List Record) (x : ℕ) → ascending lo rs ≡ true → p ≤ lo → place rs (max p x) ≡ place rs x
unfolding place
place_max p lo [] x up h = refl
place_max p lo (r ∷ rs) x up h =
    let u = ascends lo r rs up in
    let ih = place_max p (suc (past r)) rs x u.rest (omega arith) in
    omega arith

pub held_low : (lo : ℕ) (rs : List Record) (x : ℕ) → ascending lo rs ≡ true → x < lo → held rs x ≡ false
unfolding held
held_low lo [] x up h = refl
held_low lo (r ∷ rs) x up h =
    let u = ascends lo r rs up in
    rw (below r x (omega arith)) (held_low (suc (past r)) rs x u.rest (omega arith))

-- the place moves on by one behind each held address
pub place_suc : (lo : ℕ) (rs : List Record) (x : ℕ) → ascending lo rs ≡ true → place rs (suc x) ≡ place rs x + cond (held rs x) 1 0
unfolding place held
place_suc lo [] x up = refl
place_suc lo (r ∷ rs) x up = let u = ascends lo r rs up in go u (place_suc (suc (past r)) rs x u.rest) (lies x r)
  where
    go : Ascends lo r rs → place rs (suc x) ≡ place rs x + cond (held rs x) 1 0 → Lies x r
        → place (r ∷ rs) (suc x) ≡ place (r ∷ rs) x + cond (held (r ∷ rs) x) 1 0
    go u ih (over h) = rw (above r x h) (omega arith)
    go u ih (within h k) =
        rw (inside r x (omega arith) k) (omega (arith, place_low _ rs (suc x) u.rest (omega arith), place_low _ rs x u.rest (omega arith)))
    go u ih (beneath h) = rw (below r x h) (omega arith)

-- an address is in a record or in none
count_all : (rs : List Record) (xs : List ℕ) → count_fresh rs xs + count_held rs xs ≡ length xs
unfolding count_fresh count_held
count_all rs [] = refl
count_all rs (x ∷ xs) = go (held rs x) refl (count_all rs xs)
  where
    go : (b : Bool) → held rs x ≡ b → count_fresh rs xs + count_held rs xs ≡ length xs
        → count_fresh rs (x ∷ xs) + count_held rs (x ∷ xs) ≡ suc (length xs)
    go true h ih = rw h (omega arith)
    go false h ih = rw h (omega arith)

-- so the fresh addresses and the held ones of a span make up the span
pub fresh_place : (lo : ℕ) (rs : List Record) (a n : ℕ) → ascending lo rs ≡ true → fresh rs a n + place rs (a + n) ≡ n + place rs a
unfolding span count_fresh
fresh_place lo rs a zero up = rw (add-zero a) (omega arith)
fresh_place lo rs a (suc n) up = go (held rs a) (place_suc lo rs a up) (fresh_place lo rs (suc a) n up) (omega arith)
  where
    go : (b : Bool) → place rs (suc a) ≡ place rs a + cond b 1 0 → fresh rs (suc a) n + place rs (suc a + n) ≡ n + place rs (suc a) → a + suc n ≡ suc a + n
        → cond b (fresh rs (suc a) n) (suc (fresh rs (suc a) n)) + place rs (a + suc n) ≡ suc n + place rs a
    go true e ih m = rw m (omega arith)
    go false e ih m = rw m (omega arith)

pub place_grows : (rs : List Record) (x y : ℕ) → x ≤ y → place rs x ≤ place rs y
unfolding place
place_grows [] x y h = omega arith
place_grows (r ∷ rs) x y h = omega (arith, place_grows rs x y h)

-- a list made address by address of a span and of what follows it
pub length_span : (a n : ℕ) → length (span a n) ≡ n
unfolding span
length_span a zero = refl
length_span a (suc n) = ap suc (length_span (suc a) n)

-- where all addresses of a span are fresh, none of them is held
pub none_held : (rs : List Record) (a n : ℕ) → n ≤ fresh rs a n → (i : ℕ) → i < n → held rs (a + i) ≡ false
unfolding span count_fresh
none_held rs a zero all i h = absurd (omega arith)
none_held rs a (suc n) all i h = go (held rs a) refl all (none_held rs (suc a) n) i h
  where
    most : fresh rs (suc a) n ≤ n
    most = omega (arith, count_all rs (span (suc a) n), length_span (suc a) n)

    go : (b : Bool) → held rs a ≡ b → suc n ≤ cond b (fresh rs (suc a) n) (suc (fresh rs (suc a) n))
        → (n ≤ fresh rs (suc a) n → (i : ℕ) → i < n → held rs (suc a + i) ≡ false) → (i : ℕ) → i < suc n → held rs (a + i) ≡ false
    go true e all rest i h = absurd (omega (arith, most))
    go false e all rest zero h = ap (held rs) (add-zero a) ∙ e
    go false e all rest (suc i) h = ap (held rs) (omega arith) ∙ rest (omega arith) i (omega arith)

pub counts_fill : CountsFill
counts_fill rs a n = count_all rs (span a n) ∙ length_span a n

pub span_append : (a m n : ℕ) → span a (m + n) ≡ span a m ++ span (a + m) n
unfolding span
span_append a zero n = rw (zero-add, add-zero)
span_append a (suc m) n = rw (suc-add, add-suc, ← suc-add a m) (ap (λ (l : List ℕ). a ∷ l) (span_append (suc a) m n))

pub span_at : {A : Type 0} (f : ℕ → A) (d : A) (a n : ℕ) (rest : List ℕ) (i : ℕ) → i < n → get_or (map f (span a n ++ rest)) i d ≡ f (a + i)
unfolding span
span_at f d a zero rest i h = absurd (not-suc-le-zero h)
span_at f d a (suc n) rest zero h = rw add-zero
span_at f d a (suc n) rest (suc i) h = span_at f d (suc a) n rest i (omega arith) ∙ ap f (omega arith)

pub span_past : (f : ℕ → ℕ) (d a n : ℕ) (rest : List ℕ) (i : ℕ) → get_or (map f (span a n ++ rest)) (n + i) d ≡ get_or (map f rest) i d
unfolding span
span_past f d a zero rest i = rw zero-add
span_past f d a (suc n) rest i = rw suc-add (span_past f d (suc a) n rest i)

pub map_span : (f g : ℕ → ℕ) (a n : ℕ) (rest : List ℕ) → ((x : ℕ) → a ≤ x → x < a + n → f x ≡ g x) → map f rest ≡ map g rest
    → map f (span a n ++ rest) ≡ map g (span a n ++ rest)
unfolding span
map_span f g a zero rest same e = e
map_span f g a (suc n) rest same e =
    rw (same a (omega arith) (omega arith), map_span f g (suc a) n rest (λ x h k. same x (omega arith) (omega arith)) e)

-- a list made of a span that reads a buffer from k on
pub map_read : (f : ℕ → ℕ) (l : List ℕ) (k a n : ℕ) → k + n ≤ length l → ((i : ℕ) → i < n → f (a + i) ≡ get_or l (k + i) 0) → map f (span a n) ≡ take n (drop k l)
unfolding span
map_read f l k a zero fits same = refl
map_read f l k a (suc n) fits same =
    let first : f a ≡ get_or l k 0 = ap f (sym (add-zero a)) ∙ same 0 (omega arith) ∙ ap (λ (j : ℕ). get_or l j 0) (add-zero k) in
    rw (drop-cons l k 0 (omega arith), first)
    (ap (λ (t : List ℕ). get_or l k 0 ∷ t)
    (map_read f l (suc k) (suc a) n (omega arith) (λ i h. ap f (omega arith) ∙ same (suc i) (omega arith) ∙ ap (λ (j : ℕ). get_or l j 0) (omega arith))))

-- the place of an address in a record in the middle of an ascending list
pub middle_above : (lo : ℕ) (xs : List Record) (u : Record) (ys : List Record) → ascending lo (xs ++ u ∷ ys) ≡ true → lo ≤ u.start
middle_above lo [] u ys up = (ascends lo u ys up).from
middle_above lo (r ∷ xs) u ys up =
    let v = ascends lo r (xs ++ u ∷ ys) up in
    omega (arith, middle_above (suc (past r)) xs u ys v.rest)

pub place_middle : PlaceMiddle
unfolding place total
place_middle lo [] u ys x up h k =
    let v = ascends lo u ys up in
    omega (arith, place_low (suc (past u)) ys x v.rest (omega arith))
place_middle lo (r ∷ xs) u ys x up h k =
    let v = ascends lo r (xs ++ u ∷ ys) up in
    let below = middle_above (suc (past r)) xs u ys v.rest in
    omega (arith, place_all r x (omega arith), place_middle (suc (past r)) xs u ys x v.rest h k)

-- the places of held addresses side by side are side by side
pub place_along : (lo : ℕ) (rs : List Record) (a n : ℕ) → ascending lo rs ≡ true → ((i : ℕ) → i < n → held rs (a + i) ≡ true)
    → place rs (a + n) ≡ place rs a + n
place_along lo rs a zero up h = ap (place rs) (add-zero a) ∙ sym (add-zero (place rs a))
place_along lo rs a (suc n) up h =
    let last : ◌≡◌ {A = ℕ} (cond (held rs (a + n)) 1 0) 1 = rw (h n (omega arith)) in
    let next : place rs (a + suc n) ≡ place rs (suc (a + n)) = ap (place rs) (add-suc a n) in
    omega (arith, place_along lo rs a n up (λ i k. h i (omega arith)), place_suc lo rs (a + n) up)
