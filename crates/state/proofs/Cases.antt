-- Case analysis for the records: where a record stands to a span and to an address, and what an ascending list says of its first record.
use Prim.Native.Nat.{ℕ, suc, ◌≤◌, ◌<◌}
use mathlib.Core.Path.{◌≡◌, refl}
use mathlib.Core.List.{List, [], ◌∷◌, ◌++◌}
use mathlib.Core.Bool.{Bool, true, false, and-eq-true_iff, and-false}
use mathlib.Core.Logic.{◌↔◌}
use native.Mathlib.Nat.{lt_of_not-le, not-le_of_lt}
use native.Mathlib.Omega.{arith}
use lib.Dec.{leb}
use borrow.Author.Tests.{ltb-true, leb-true, leb-false, lt-ltb, le-ltb, le-leb, lt-leb}
use Rattle.state.specs.declared.Record.{Record}
use Rattle.octets.proofs.Lists.{both}
use Rattle.state.specs.Records.{past, in_span}
use Rattle.state.specs.State.{ascending}

-- a record ends before the span from a to e, shares a byte with it or touches it, or begins after it
pub data Side (a e : ℕ) (r : Record) : Type 0 where
  before : past r < a → Side a e r
  meets : r.start ≤ e → a ≤ past r → Side a e r
  after : e < r.start → Side a e r

pub side : (a e : ℕ) (r : Record) → Side a e r
side a e r = go (leb a (past r)) refl (leb r.start e) refl
  where
    go : (b : Bool) → leb a (past r) ≡ b → (c : Bool) → leb r.start e ≡ c → Side a e r
    go false p c q = before (leb-false _ _ p)
    go true p false q = after (leb-false _ _ q)
    go true p true q = meets (leb-true _ _ q) (leb-true _ _ p)

-- an address lies above a record, in it, or below it
pub data Lies (x : ℕ) (r : Record) : Type 0 where
  over : past r ≤ x → Lies x r
  within : r.start ≤ x → x < past r → Lies x r
  beneath : x < r.start → Lies x r

pub lies : (x : ℕ) (r : Record) → Lies x r
lies x r = go (leb (past r) x) refl (leb r.start x) refl
  where
    go : (b : Bool) → leb (past r) x ≡ b → (c : Bool) → leb r.start x ≡ c → Lies x r
    go true p c q = over (leb-true _ _ p)
    go false p true q = within (leb-true _ _ q) (leb-false _ _ p)
    go false p false q = beneath (leb-false _ _ q)

-- a test may be put for another if each holds where the other does
pub leb_same : (a b c d : ℕ) → (a ≤ b → c ≤ d) → (c ≤ d → a ≤ b) → leb a b ≡ leb c d
leb_same a b c d f g = go (leb c d) refl
  where
    go : (t : Bool) → leb c d ≡ t → leb a b ≡ t
    go true q = le-leb _ _ (g (leb-true _ _ q))
    go false q = lt-leb _ _ (lt_of_not-le (λ k. not-le_of_lt (leb-false _ _ q) (f k)))

-- a test and the fact on numbers that it tells
pub leb_iff : (a b : ℕ) → (leb a b ≡ true) ↔ (a ≤ b)
leb_iff a b = (leb-true a b, le-leb a b)

pub not_leb_iff : (a b : ℕ) → (leb a b ≡ false) ↔ (b < a)
not_leb_iff a b = (leb-false a b, lt-leb a b)

-- what an ascending list says of its first record and of the others
pub record Ascends (lo : ℕ) (r : Record) (rs : List Record) : Type 0 where
  pub from : lo ≤ r.start
  pub some : 0 < r.len
  pub fits : past r ≤ 65536
  pub rest : ascending (suc (past r)) rs ≡ true

pub ascends : (lo : ℕ) (r : Record) (rs : List Record) → ascending lo (r ∷ rs) ≡ true → Ascends lo r rs
unfolding ascending
ascends lo r rs up =
    let h = simp and-eq-true_iff at up in
    record { from = leb-true _ _ h.0.0.0; some = ltb-true _ _ h.0.0.1; fits = leb-true _ _ h.0.1; rest = h.1 }

-- and of a record further back
pub back_ascends : (lo : ℕ) (xs : List Record) (r : Record) (ys : List Record) → ascending lo (xs ++ r ∷ ys) ≡ true → Ascends r.start r ys
back_ascends lo [] r ys up = let u = ascends lo r ys up in record { from = omega arith; some = u.some; fits = u.fits; rest = u.rest }
back_ascends lo (t ∷ xs) r ys up = back_ascends (suc (past t)) xs r ys (ascends lo t (xs ++ r ∷ ys) up).rest

pub ascending_cons : {lo : ℕ} {r : Record} {rs : List Record} → Ascends lo r rs → ascending lo (r ∷ rs) ≡ true
unfolding ascending
ascending_cons h = both (both (both (le-leb _ _ h.from) (lt-ltb _ _ h.some)) (le-leb _ _ h.fits)) h.rest

-- an ascending list ascends from any bound that is not above its first record
pub ascending_from : {lo : ℕ} {r : Record} {rs : List Record} (floor : ℕ) → Ascends lo r rs → floor ≤ r.start → ascending floor (r ∷ rs) ≡ true
ascending_from floor u h = ascending_cons (record { from = h; some = u.some; fits = u.fits; rest = u.rest })

pub ascending_lower : (lo hi : ℕ) (rs : List Record) → lo ≤ hi → ascending hi rs ≡ true → ascending lo rs ≡ true
unfolding ascending
ascending_lower lo hi [] h up = refl
ascending_lower lo hi (r ∷ rs) h up = let u = ascends hi r rs up in ascending_from lo u (omega (arith, u.from))

-- an address in a record, below it and above it
pub inside : (r : Record) (x : ℕ) → r.start ≤ x → x < past r → in_span r.start r.len x ≡ true
inside r x h k = both (le-leb _ _ h) (lt-ltb _ _ k)

pub below : (r : Record) (x : ℕ) → x < r.start → in_span r.start r.len x ≡ false
below r x h = rw (lt-leb r.start x h)

pub above : (r : Record) (x : ℕ) → past r ≤ x → in_span r.start r.len x ≡ false
above r x h = rw (le-ltb x (past r) h, and-false)
