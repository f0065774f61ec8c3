-- The longest unbroken runs of the addresses that pass a test, told from the test alone: no record and no state enters. (Request F-1 of
-- 02, the agreed changes; docs/RULES.md has its rule.)
use Rattle.std.specs.Prelude.{ℕ, zero, suc, List, [], ◌∷◌, Bool, cond, eqb}
use Rattle.state.specs.declared.Record.{Record}
use Rattle.state.specs.Limits.{window_limit}

-- an address in front of the runs behind it: it lengthens the one that starts right behind it, or is a run of its own
unfoldable pub in_front : ℕ → List Record → List Record
in_front x [] = record { start = x; len = 1 } ∷ []
in_front x (r ∷ rs) =
    cond (eqb r.start (suc x)) (record { start = x; len = suc r.len } ∷ rs) (record { start = x; len = 1 } ∷ r ∷ rs)

-- the runs of those that pass among the n addresses from x on
unfoldable pub runs_from : (ℕ → Bool) → (x n : ℕ) → List Record
runs_from test x zero = []
runs_from test x (suc n) = cond (test x) (in_front x (runs_from test (suc x) n)) (runs_from test (suc x) n)

-- and among all addresses
abbrev pub runs : (ℕ → Bool) → List Record
runs test = runs_from test 0 window_limit
