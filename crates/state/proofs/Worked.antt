-- The rules of records on small numbers. The first three joins are those of situations A and B of 01 (the agreed scope, with request F-1
-- of 02; docs/RULES.md has their rules).
use Prim.Native.Nat.{ℕ, ◌-◌}
use mathlib.Core.Path.{◌≡◌, refl}
use mathlib.Core.List.{[], ◌∷◌, map}
use mathlib.Core.Bool.{true, false}
use Rattle.state.specs.declared.Record.{Record}
use Rattle.state.specs.Records.{held, span, addresses, total, place, count_fresh, fresh, count_held, replayed, keep, lowest, highest, joined}
use Rattle.state.specs.Records.{looked_up_to, looked}
use Rattle.state.specs.State.{ascending}
use Rattle.state.specs.Runs.{in_front, runs_from}

abbrev ◌at◌ : ℕ → ℕ → Record
n at a = record { start = a; len = n }

infix 80 ◌at◌
overlapping : joined (4 at 16 ∷ []) 14 8 ≡ 8 at 14 ∷ []
unfolding joined keep lowest highest
overlapping = refl

touching : joined (4 at 0 ∷ []) 4 4 ≡ 8 at 0 ∷ []
unfolding joined keep lowest highest
touching = refl

inside_one : joined (8 at 0 ∷ []) 2 4 ≡ 8 at 0 ∷ []
unfolding joined keep lowest highest
inside_one = refl

touching_both : joined (4 at 0 ∷ 2 at 6 ∷ 1 at 9 ∷ []) 4 2 ≡ 8 at 0 ∷ 1 at 9 ∷ []
unfolding joined keep lowest highest
touching_both = refl

a_gap_on_either_side : joined (4 at 0 ∷ 1 at 9 ∷ []) 5 3 ≡ 4 at 0 ∷ 3 at 5 ∷ 1 at 9 ∷ []
unfolding joined keep lowest highest
a_gap_on_either_side = refl

bridging : joined (4 at 0 ∷ 4 at 5 ∷ []) 2 4 ≡ 9 at 0 ∷ []
unfolding joined keep lowest highest
bridging = refl

between_others : joined (1 at 0 ∷ 2 at 8 ∷ 1 at 20 ∷ []) 9 4 ≡ 1 at 0 ∷ 5 at 8 ∷ 1 at 20 ∷ []
unfolding joined keep lowest highest
between_others = refl

no_length : joined (4 at 0 ∷ 2 at 6 ∷ []) 4 0 ≡ 4 at 0 ∷ 2 at 6 ∷ []
unfolding joined
no_length = refl

two_fresh : fresh (4 at 16 ∷ []) 15 6 ≡ 2
unfolding count_fresh span held
two_fresh = refl

four_replayed : replayed (4 at 16 ∷ []) 15 6 ≡ 4
unfolding count_held span held
four_replayed = refl

-- F-6: of four records a fetch below the first looks at one, which ends the search; one that ends where the third starts passes it and looks at the
-- fourth; one behind them all looks at all four; and one of no bytes at none
some_looked : map (λ e. looked (1 at 2 ∷ 1 at 4 ∷ 1 at 6 ∷ 1 at 8 ∷ []) (e - 1) 1) (1 ∷ 6 ∷ 20 ∷ []) ≡ 1 ∷ 4 ∷ 4 ∷ []
unfolding looked looked_up_to
some_looked = refl

none_looked : looked (1 at 2 ∷ 1 at 4 ∷ []) 4 0 ≡ 0
unfolding looked
none_looked = refl

packed_order : addresses (2 at 10 ∷ 3 at 20 ∷ []) ≡ 10 ∷ 11 ∷ 20 ∷ 21 ∷ 22 ∷ []
unfolding addresses span
packed_order = refl

fourth_place : place (2 at 10 ∷ 3 at 20 ∷ []) 21 ≡ 3
unfolding place
fourth_place = refl

five_held : total (2 at 10 ∷ 3 at 20 ∷ []) ≡ 5
unfolding total
five_held = refl

in_order_lem : ascending 0 (4 at 0 ∷ 4 at 5 ∷ 1 at 65535 ∷ []) ≡ true
unfolding ascending
in_order_lem = refl

touching_each_other : ascending 0 (4 at 0 ∷ 4 at 4 ∷ []) ≡ false
unfolding ascending
touching_each_other = refl

sharing_a_byte : ascending 0 (4 at 0 ∷ 4 at 3 ∷ []) ≡ false
unfolding ascending
sharing_a_byte = refl

past_the_last_address : ascending 0 (2 at 65535 ∷ []) ≡ false
unfolding ascending
past_the_last_address = refl

runs_of_held : runs_from (held (4 at 0 ∷ 3 at 5 ∷ 1 at 9 ∷ [])) 0 16 ≡ 4 at 0 ∷ 3 at 5 ∷ 1 at 9 ∷ []
unfolding runs_from in_front held
runs_of_held = refl

one_run_of_two_that_touch : runs_from (held (4 at 0 ∷ 4 at 4 ∷ [])) 0 16 ≡ 8 at 0 ∷ []
unfolding runs_from in_front held
one_run_of_two_that_touch = refl
