-- The claims about records: the one test for sharing and touching; touching records break a state; `runs` has just the addresses that
-- pass, in records that leave gaps; and records that keep to the rules are the runs of what they hold.
use Prim.Native.Nat.{ℕ, zero, suc, ◌+◌, ◌≤◌, ◌<◌}
use native.Mathlib.Omega.{arith}
use mathlib.Core.Path.{◌≡◌, refl, ap, sym, ◌∙◌}
use mathlib.Core.List.{List, [], ◌∷◌, ◌++◌}
use mathlib.Core.Bool.{Bool, true, false, cond, ◌||◌, and-false, or-true}
use lib.Dec.{ltb, leb, eqb}
use borrow.Author.Tests.{ltb-true, ltb-false, le-leb, lt-leb, lt-ltb, le-ltb, eqb-true, eqb-false, eq-eqb, ne_eqb}
use Rattle.state.specs.declared.Record.{Record}
use Rattle.state.specs.Records.{past, in_span, held, shares, touches, meets, joined}
use Rattle.state.specs.State.{ascending, holds}
use Rattle.state.specs.Runs.{in_front, runs_from}
use Rattle.state.specs.Claims.{MeetsWords, TouchingBroken, RunsAreRuns, RecordsRuns, JoinedRuns}
use Rattle.state.proofs.Apart.{records_apart}
use Rattle.state.proofs.Cases.{Side, before, meets as met, after, side, Ascends, ascends}
use Rattle.state.proofs.Cases.{ascending_cons, ascending_from, ascending_lower, inside, below, above}
use Rattle.state.proofs.Places.{held_low}
use Rattle.state.proofs.Laws.{held_joined, ascending_joined}
use Rattle.state.proofs.Commands.{kept}

pub meets_words_lem : MeetsWords
meets_words_lem a n r = go (side a (a + n) r)
  where
    go : Side a (a + n) r → meets a n r ≡ (shares a n r || touches a n r)
    go (before h) =
        rw (
          lt-leb a (past r) h,
          le-ltb a (past r) (omega arith),
          and-false (leb r.start (a + n)),
          and-false (ltb r.start (a + n)),
          ne_eqb (past r) a (omega arith),
          ne_eqb r.start (a + n) (omega arith),
        )
    go (after h) =
        rw (lt-leb r.start (a + n) h, le-ltb r.start (a + n) (omega arith), ne_eqb (past r) a (omega arith), ne_eqb r.start (a + n) (omega arith))
    go (met j k) = rw (le-leb r.start (a + n) j, le-leb a (past r) k) (sym (one (eqb (past r) a) refl (eqb r.start (a + n)) refl))
      where
        one : (b : Bool) → eqb (past r) a ≡ b → (c : Bool) → eqb r.start (a + n) ≡ c → (shares a n r || (b || c)) ≡ true
        one true p c q = or-true (shares a n r)
        one false p true q = or-true (shares a n r)
        one false p false q =
            rw (
              lt-ltb r.start (a + n) (omega (arith, eqb-false r.start (a + n) q)),
              lt-ltb a (past r) (omega (arith, eqb-false (past r) a p)),
            )

-- Records that touch do not ascend, so that no state that has them holds together.

pub touching_broken : TouchingBroken
touching_broken s c front one next behind is touch = go (holds s) refl
  where
    go : (b : Bool) → holds s ≡ b → b ≡ false
    go false h = refl
    go true h =
        let up : ascending 0 (front ++ one ∷ next ∷ behind) ≡ true = sym (ap (ascending 0) is) ∙ (kept s c h).up in
        absurd (omega (arith, records_apart 0 front one next behind up))

-- Runs of two tests

pub runs_same : (f g : ℕ → Bool) (x n : ℕ) → ((y : ℕ) → x ≤ y → f y ≡ g y) → runs_from f x n ≡ runs_from g x n
unfolding runs_from
runs_same f g x zero same = refl
runs_same f g x (suc n) same = rw (same x (omega arith), runs_same f g (suc x) n (λ y h. same y (omega arith)))

-- An address in front of runs

abbrev single : ℕ → Record
single x = record { start = x; len = 1 }

abbrev longer : ℕ → Record → Record
longer x r = record { start = x; len = suc r.len }

front_apart : (x : ℕ) (rs : List Record) → ascending (suc (suc x)) rs ≡ true → in_front x rs ≡ single x ∷ rs
unfolding in_front
front_apart x [] up = refl
front_apart x (r ∷ rs) up = let u = ascends (suc (suc x)) r rs up in rw (ne_eqb r.start (suc x) (omega (arith, u.from)))

front_beside : (x k : ℕ) (rs : List Record) → in_front x (record { start = suc x; len = k } ∷ rs) ≡ record { start = x; len = suc k } ∷ rs
unfolding in_front
front_beside x k rs = rw (eq-eqb (suc x) (suc x) refl)

-- Records are the runs of what they hold. One address more: it is known of all records from the next address on.

module _ (n lo : ℕ) (from_next : (ss : List Record) → ascending (suc lo) ss ≡ true → runs_from (held ss) (suc lo) n ≡ ss)
    (r : Record) (rs : List Record) (u : Ascends lo r rs) where
  abbrev rest : List Record
  rest = runs_from (held (r ∷ rs)) (suc lo) n

  -- the first address of a record of one byte, and of a longer one
  starts_single : r.start ≡ lo → r.len ≡ 1 → in_front lo rest ≡ r ∷ rs
  unfolding held
  starts_single s l =
      rw (
        runs_same (held (r ∷ rs)) (held rs) (suc lo) n (λ y h. rw (above r y (omega arith))),
        from_next rs (ascending_lower (suc lo) (suc (past r)) rs (omega arith) u.rest),
        front_apart lo rs (ascending_lower (suc (suc lo)) (suc (past r)) rs (omega arith) u.rest),
      )
      (λ i. record { start = sym s i; len = sym l i } ∷ rs)

  starts_longer : (k : ℕ) → r.start ≡ lo → r.len ≡ suc (suc k) → in_front lo rest ≡ r ∷ rs
  unfolding held
  starts_longer k s l =
      let next : Record = record { start = suc lo; len = suc k } in
      let same : (y : ℕ) → suc lo ≤ y → in_span r.start r.len y ≡ in_span (suc lo) (suc k) y
      = λ y h. rw (le-leb r.start y (omega arith), le-leb (suc lo) y h) (ap (ltb y) (omega arith)) in
      let behind : ascending (suc (past next)) rs ≡ true = ascending_lower (suc (past next)) (suc (past r)) rs (omega arith) u.rest in
      let up : ascending (suc lo) (next ∷ rs) ≡ true
      = ascending_cons {lo = suc lo} {r = next} {rs = rs} (record { from = omega arith; some = omega arith; fits = omega (arith, u.fits); rest = behind }) in
      rw (
        runs_same (held (r ∷ rs)) (held (next ∷ rs)) (suc lo) n (λ y h. ap (λ (b : Bool). b || held rs y) (same y h)),
        from_next (next ∷ rs) up,
        front_beside lo (suc k) rs,
      )
      (λ i. record { start = sym s i; len = sym l i } ∷ rs)

  starts : (k : ℕ) → r.len ≡ k → r.start ≡ lo → in_front lo rest ≡ r ∷ rs
  starts zero l s = absurd (omega (arith, u.some))
  starts (suc zero) l s = starts_single s l
  starts (suc (suc k)) l s = starts_longer k s l

  one_more : runs_from (held (r ∷ rs)) lo (suc n) ≡ r ∷ rs
  unfolding runs_from held
  one_more = go (ltb lo r.start) refl
    where
      go : (b : Bool) → ltb lo r.start ≡ b → runs_from (held (r ∷ rs)) lo (suc n) ≡ r ∷ rs
      go true h =
          let gap = ltb-true lo r.start h in
          rw (below r lo gap, held_low (suc (past r)) rs lo u.rest (omega arith)) (from_next (r ∷ rs) (ascending_from (suc lo) u gap))
      go false h =
          let s : r.start ≡ lo = omega (arith, ltb-false lo r.start h, u.from) in
          rw (inside r lo (omega arith) (omega (arith, u.some))) (starts r.len refl s)

runs_of_lem : (n lo : ℕ) (rs : List Record) → lo + n ≡ 65536 → ascending lo rs ≡ true → runs_from (held rs) lo n ≡ rs
unfolding runs_from held ascending
runs_of_lem zero lo [] e up = refl
runs_of_lem zero lo (r ∷ rs) e up = let u = ascends lo r rs up in absurd (omega (arith, u.from, u.some, u.fits))
runs_of_lem (suc n) lo [] e up = runs_of_lem n (suc lo) [] (omega arith) refl
runs_of_lem (suc n) lo (r ∷ rs) e up = one_more n lo (λ ss h. runs_of_lem n (suc lo) ss (omega arith) h) r rs (ascends lo r rs up)

pub records_runs : RecordsRuns
records_runs rs up = sym (runs_of_lem 65536 0 rs refl up)

pub joined_runs : JoinedRuns
joined_runs rs a n up fits =
    records_runs (joined rs a n) (ascending_joined rs a n up fits)
    ∙ runs_same (held (joined rs a n)) (λ x. held rs x || in_span a n x) 0 65536 (λ x h. held_joined rs a n x)

-- Runs of any test leave gaps

front_up : (x : ℕ) (rs : List Record) → suc x ≤ 65536 → ascending (suc x) rs ≡ true → ascending x (in_front x rs) ≡ true
unfolding in_front ascending
front_up x [] h up = ascending_cons {lo = x} {r = single x} {rs = []} (record { from = omega arith; some = omega arith; fits = omega arith; rest = refl })
front_up x (r ∷ rs) h up = go (eqb r.start (suc x)) refl
  where
    u : Ascends (suc x) r rs
    u = ascends (suc x) r rs up

    go : (b : Bool) → eqb r.start (suc x) ≡ b → ascending x (cond b (longer x r ∷ rs) (single x ∷ r ∷ rs)) ≡ true
    go true e =
        let s = eqb-true r.start (suc x) e in
        let behind = ascending_lower (suc (x + suc r.len)) (suc (past r)) rs (omega arith) u.rest in
        ascending_cons {lo = x} {r = longer x r} {rs = rs} (record { from = omega arith; some = omega arith; fits = omega (arith, u.fits); rest = behind })
    go false e =
        let s = eqb-false r.start (suc x) e in
        let behind = ascending_from (suc (x + 1)) u (omega (arith, u.from)) in
        ascending_cons {lo = x} {r = single x} {rs = r ∷ rs} (record { from = omega arith; some = omega arith; fits = omega arith; rest = behind })

runs_up : (test : ℕ → Bool) (n x : ℕ) → x + n ≤ 65536 → ascending x (runs_from test x n) ≡ true
unfolding runs_from ascending
runs_up test zero x h = refl
runs_up test (suc n) x h = go (test x) (runs_up test n (suc x) (omega arith))
  where
    go : (b : Bool) → ascending (suc x) (runs_from test (suc x) n) ≡ true
        → ascending x (cond b (in_front x (runs_from test (suc x) n)) (runs_from test (suc x) n)) ≡ true
    go true ih = front_up x (runs_from test (suc x) n) (omega arith) ih
    go false ih = ascending_lower x (suc x) (runs_from test (suc x) n) (omega arith) ih

-- and have just the addresses that pass

front_held : (x : ℕ) (rs : List Record) (y : ℕ) → x < y → held (in_front x rs) y ≡ held rs y
unfolding in_front held
front_held x [] y h = rw (above (single x) y (omega arith))
front_held x (r ∷ rs) y h = go (eqb r.start (suc x)) refl
  where
    go : (b : Bool) → eqb r.start (suc x) ≡ b → held (cond b (longer x r ∷ rs) (single x ∷ r ∷ rs)) y ≡ (in_span r.start r.len y || held rs y)
    go true e =
        let s = eqb-true r.start (suc x) e in
        let same : in_span x (suc r.len) y ≡ in_span r.start r.len y
        = rw (le-leb x y (omega arith), le-leb r.start y (omega arith)) (ap (ltb y) (omega arith)) in
        ap (λ (b : Bool). b || held rs y) same
    go false e = rw (above (single x) y (omega arith))

front_own : (x : ℕ) (rs : List Record) → held (in_front x rs) x ≡ true
unfolding in_front held
front_own x [] = rw (inside (single x) x (omega arith) (omega arith))
front_own x (r ∷ rs) = go (eqb r.start (suc x))
  where
    go : (b : Bool) → held (cond b (longer x r ∷ rs) (single x ∷ r ∷ rs)) x ≡ true
    go true = rw (inside (longer x r) x (omega arith) (omega arith))
    go false = rw (inside (single x) x (omega arith) (omega arith))

runs_held : (test : ℕ → Bool) (n x y : ℕ) → x + n ≤ 65536 → x ≤ y → y < x + n → held (runs_from test x n) y ≡ test y
unfolding runs_from
runs_held test zero x y h low high = absurd (omega arith)
runs_held test (suc n) x y h low high =
    go (test x) refl (eqb x y) refl (λ (l : suc x ≤ y). runs_held test n (suc x) y (omega arith) l (omega arith))
  where
    go : (b : Bool) → test x ≡ b → (t : Bool) → eqb x y ≡ t → (suc x ≤ y → held (runs_from test (suc x) n) y ≡ test y)
        → held (cond b (in_front x (runs_from test (suc x) n)) (runs_from test (suc x) n)) y ≡ test y
    go true e true q ih = rw (sym (eqb-true x y q), e) (front_own x (runs_from test (suc x) n))
    go false e true q ih = rw (sym (eqb-true x y q), e) (held_low (suc x) (runs_from test (suc x) n) x (runs_up test n (suc x) (omega arith)) (omega arith))
    go true e false q ih = front_held x (runs_from test (suc x) n) y (omega (arith, eqb-false x y q)) ∙ ih (omega (arith, eqb-false x y q))
    go false e false q ih = ih (omega (arith, eqb-false x y q))

pub runs_are_runs : RunsAreRuns
runs_are_runs test = record { same = λ x h. runs_held test 65536 0 x (omega arith) (omega arith) h; parted = runs_up test 65536 0 (omega arith) }
