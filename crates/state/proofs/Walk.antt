-- For the loops over a command's records: what is left of them is the next one and the rest.
use Prim.Native.Nat.{ℕ, ◌+◌, ◌<◌, ◌≤◌}
use native.Mathlib.Omega.{arith}
use native.Mathlib.Numerals.{add-one}
use mathlib.Core.Path.{◌≡◌, ap, sym, ◌∙◌}
use mathlib.Core.List.{List, [], ◌∷◌}
use mathlib.Core.Bool.{Bool, true, false, ◌&&◌}
use lib.ListN.{length, drop, get_or, length-take, drop_of_length-le}
use lib.Seq.{drop-cons, get_or-take}
use Rattle.octets.specs.Lists.{all}
use Rattle.state.specs.declared.Record.{Record}
use Rattle.state.specs.State.{CommandState, no_record, records_in}

-- of any list
next : {A : Type 0} (l : List A) (i : ℕ) (d : A) → i < length l → drop i l ≡ get_or l i d ∷ drop (i + 1) l
next l i d h = rw (add-one i) (drop-cons l i d h)

module _ (p : CommandState) (i : ℕ) (h : i < length (records_in p)) where
  pub next_record : drop i (records_in p) ≡ get_or p.records i no_record ∷ drop (i + 1) (records_in p)
  next_record =
      let below : i < p.count = omega (arith, length-take p.count p.records) in
      next (records_in p) i no_record h ∙ ap (λ (r : Record). r ∷ drop (i + 1) (records_in p)) (get_or-take p.count p.records i no_record below)

  -- an invariant on what is left, carried to the next record and the rest
  pub at_next : {A : Type 0} (f : List Record → A) {z : A} → f (drop i (records_in p)) ≡ z → f (get_or p.records i no_record ∷ drop (i + 1) (records_in p)) ≡ z
  at_next f e = sym (ap f next_record) ∙ e

-- where the loop has passed them all, none is left
pub no_record_lem : (p : CommandState) (i : ℕ) → length (records_in p) ≤ i → drop i (records_in p) ≡ []
no_record_lem p i h = drop_of_length-le (records_in p) {i = i} h

-- The same for a test on the commands of a state.

module _ (test : CommandState → Bool) (commands : List CommandState) (c : ℕ) (d : CommandState) (h : c < length commands)
    {z : Bool} (e : all test (drop c commands) ≡ z) where
  commands_left : (test (get_or commands c d) && all test (drop (c + 1) commands)) ≡ z
  unfolding all
  commands_left = sym (ap (all test) (next commands c d h)) ∙ e

  pub command_fails : test (get_or commands c d) ≡ false → false ≡ z
  command_fails k = rw k at commands_left

  pub command_next : test (get_or commands c d) ≡ true → all test (drop (c + 1) commands) ≡ z
  command_next k = rw k at commands_left
