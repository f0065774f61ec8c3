-- Laws of the state: one command replaced, which states hold together, and what the shape of a state gives.
use Prim.Native.Nat.{ℕ, ◌-◌, ◌≤◌, ◌<◌}
use native.Mathlib.Omega.{arith}
use mathlib.Core.Path.{◌≡◌, refl, sym, ap, ap₂, ◌∙◌}
use mathlib.Core.Logic.{◌≢◌}
use mathlib.Core.List.{List, [], ◌∷◌, ◌++◌}
use mathlib.Core.Bool.{Bool, true, false, false≢true, ◌&&◌, ◌||◌, and-true, or-true}
use lib.Dec.{ltb, leb, eqb}
use lib.ListN.{length, drop, replicate, length-set, length-append, length-replicate, length-drop, take-append-drop, get_or-eq_default}
use lib.Seq.{get_or-set_same, get_or-set_other, take-append_seam, drop-append_seam, length-take-le, set-get_or}
use borrow.Author.Tests.{ltb-true, ltb-false, leb-true, le-leb, lt-leb, eqb-true, eq-eqb}
use Rattle.octets.specs.Lists.{all}
use Rattle.octets.proofs.Lists.{both, and_left, and_right, all_at, all_set, all_replicate}
use Rattle.state.specs.declared.Record.{Record}
use Rattle.state.specs.Limits.{command_limit, record_limit, held_limit}
use Rattle.state.specs.Records.{total}
use Rattle.state.specs.State.{CommandState, State, no_record, closed, open_with, fresh_state, command_of, records_in, records_of, with_command, ascending}
use Rattle.state.specs.State.{is_zero, command_holds, holds, has_shape}

-- One command replaced

module _ (s : State) (c : ℕ) (next : CommandState) where
  pub command_same : c < length s.commands → command_of (with_command s c next) c ≡ next
  command_same h = get_or-set_same s.commands c next closed h

  pub command_other : (d : ℕ) → d ≢ c → command_of (with_command s c next) d ≡ command_of s d
  command_other d h = get_or-set_other s.commands c d next closed h

  pub holds_with : holds s ≡ true → command_holds next ≡ true → holds (with_command s c next) ≡ true
  unfolding holds
  holds_with h k = all_set command_holds s.commands c next h k

-- to put a command's own value in its place changes nothing
pub command_kept : (s : State) (c : ℕ) (next : CommandState) → next ≡ command_of s c → with_command s c next ≡ s
command_kept s c next e = rw e (λ i. record { commands = set-get_or s.commands c closed i })

pub records_open_with : (rs : List Record) → records_in (open_with rs) ≡ rs
records_open_with rs = take-append_seam rs (replicate (record_limit - length rs) no_record)

-- Which states hold together

pub closed_holds : command_holds closed ≡ true
unfolding command_holds all ascending total
closed_holds = refl

pub fresh_holds : holds fresh_state ≡ true
unfolding holds
fresh_holds = all_replicate command_holds command_limit closed closed_holds

pub open_with_holds : (rs : List Record) → length rs ≤ record_limit → ascending 0 rs ≡ true → total rs ≤ held_limit → command_holds (open_with rs) ≡ true
unfolding command_holds
open_with_holds rs few up small =
    let unused = record_limit - length rs in
    rw (
      records_open_with rs,
      le-leb _ _ few,
      up,
      le-leb _ _ small,
      drop-append_seam rs (replicate unused no_record),
      all_replicate is_zero unused no_record refl,
    )

-- what a command that holds together keeps to
pub record Kept (p : CommandState) : Type 0 where
  pub few : p.count ≤ record_limit
  pub up : ascending 0 (records_in p) ≡ true
  pub small : total (records_in p) ≤ held_limit
  pub unused : all is_zero (drop p.count p.records) ≡ true

pub kept_command : (p : CommandState) → command_holds p ≡ true → Kept p
unfolding command_holds
kept_command p h =
    let few = leb p.count record_limit in
    let up = ascending 0 (records_in p) in
    let small = leb (total (records_in p)) held_limit in
    let unused = all is_zero (drop p.count p.records) in
    let h4 = and_left (few && up && small && unused) (p.opened || eqb p.count 0) h in
    let h3 = and_left (few && up && small) unused h4 in
    let h2 = and_left (few && up) small h3 in
    record {
      few = leb-true _ _ (and_left few up h2);
      up = and_right few up h2;
      small = leb-true _ _ (and_right (few && up) small h3);
      unused = and_right (few && up && small) unused h4;
    }

pub each_holds : (s : State) (c : ℕ) → holds s ≡ true → command_holds (command_of s c) ≡ true
unfolding holds
each_holds s c h = all_at command_holds s.commands c closed h closed_holds

pub kept : (s : State) (c : ℕ) → holds s ≡ true → Kept (command_of s c)
kept s c h = kept_command (command_of s c) (each_holds s c h)

-- Shape

pub fresh_shape : has_shape fresh_state ≡ true
unfolding all
fresh_shape = refl

pub eight : (s : State) → has_shape s ≡ true → length s.commands ≡ command_limit
eight s h = eqb-true _ _ (and_left (eqb (length s.commands) command_limit) _ h)

sixty_four : (s : State) (c : ℕ) → has_shape s ≡ true → length (command_of s c).records ≡ record_limit
sixty_four s c h =
    eqb-true _ _ (all_at (λ p. eqb (length p.records) record_limit) s.commands c closed (and_right (eqb (length s.commands) command_limit) _ h) refl)

-- there is no open command beyond the last
pub open_below : (s : State) (c : ℕ) → has_shape s ≡ true → (command_of s c).opened ≡ true → c < command_limit
open_below s c shape o = go (ltb c command_limit) refl
  where
    go : (b : Bool) → ltb c command_limit ≡ b → c < command_limit
    go true e = ltb-true _ _ e
    go false e =
        let beyond : length s.commands ≤ c = omega (arith, eight s shape, ltb-false c command_limit e) in
        absurd (false≢true (sym (ap (λ (p : CommandState). p.opened) (get_or-eq_default s.commands closed beyond)) ∙ o))

pub shape_with : (s : State) (c : ℕ) (next : CommandState) → has_shape s ≡ true → length next.records ≡ record_limit → has_shape (with_command s c next) ≡ true
shape_with s c next h k =
    both (eq-eqb _ _ (length-set s.commands c next ∙ eight s h))
    (all_set (λ p. eqb (length p.records) record_limit) s.commands c next (and_right (eqb (length s.commands) command_limit) _ h) (eq-eqb _ _ k))

pub length_open_with : (rs : List Record) → length rs ≤ record_limit → length (open_with rs).records ≡ record_limit
length_open_with rs few = simp (length-append, length-replicate) (omega arith)

zero_record : (r : Record) → is_zero r ≡ true → r ≡ no_record
zero_record r h =
    let e = eqb-true _ _ (and_left (eqb r.start 0) (eqb r.len 0) h) in
    let f = eqb-true _ _ (and_right (eqb r.start 0) (eqb r.len 0) h) in
    λ i. record { start = e i; len = f i }

zero_records : (rs : List Record) → all is_zero rs ≡ true → rs ≡ replicate (length rs) no_record
unfolding all
zero_records [] h = refl
zero_records (r ∷ rs) h = ap₂ ◌∷◌ (zero_record r (and_left (is_zero r) (all is_zero rs) h)) (zero_records rs (and_right (is_zero r) (all is_zero rs) h))

-- the entries of a command that holds together are its records, with the unused entries behind them
pub open_with_padded : (p : CommandState) → Kept p → length p.records ≡ record_limit
    → p.records ≡ records_in p ++ replicate (record_limit - length (records_in p)) no_record
open_with_padded p K size =
    let front : length (records_in p) ≡ p.count = length-take-le p.count p.records (omega arith) in
    let back : length (drop p.count p.records) ≡ record_limit - length (records_in p) = simp (length-drop, size, front) in
    sym (take-append-drop p.count p.records)
    ∙ ap (λ (l : List Record). records_in p ++ l) (zero_records (drop p.count p.records) K.unused ∙ ap (λ (k : ℕ). replicate k no_record) back)

-- an open command is its records
pub open_with_own : (s : State) (c : ℕ) → has_shape s ≡ true → holds s ≡ true → (command_of s c).opened ≡ true → open_with (records_of s c) ≡ command_of s c
open_with_own s c shape whole opened =
    let p = command_of s c in
    let K = kept s c whole in
    let size = sixty_four s c shape in
    let front : length (records_in p) ≡ p.count = length-take-le p.count p.records (omega arith) in
    λ i. record { opened = sym opened i; count = front i; records = sym (open_with_padded p K size) i }

-- A command told check by check: what fails first, or that the unused entries decide.

module _ (p : CommandState) where
  -- the rules of its records
  abbrev records_hold : Bool
  records_hold = ascending 0 (records_in p) && leb (total (records_in p)) held_limit

  pub no_records : p.count ≡ 0 → command_holds p ≡ all is_zero (drop p.count p.records)
  unfolding command_holds ascending total
  no_records none = rw (none, or-true, and-true)

  pub too_many : record_limit < p.count → command_holds p ≡ false
  unfolding command_holds
  too_many h = rw (lt-leb p.count record_limit h)

  pub records_fail : records_hold ≡ false → command_holds p ≡ false
  unfolding command_holds
  records_fail h = go (leb p.count record_limit) (ascending 0 (records_in p)) (leb (total (records_in p)) held_limit) h
    where
      go : (few up small : Bool) → (up && small) ≡ false
          → (few && up && small && all is_zero (drop p.count p.records) && (p.opened || eqb p.count 0)) ≡ false
      go false up small h = refl
      go true false small h = refl
      go true true false h = refl
      go true true true h = absurd (false≢true (sym h))

  pub unused_decide : p.opened ≡ true → p.count ≤ record_limit → records_hold ≡ true → command_holds p ≡ all is_zero (drop p.count p.records)
  unfolding command_holds
  unused_decide opened few h =
      let up = and_left (ascending 0 (records_in p)) (leb (total (records_in p)) held_limit) h in
      let small = and_right (ascending 0 (records_in p)) (leb (total (records_in p)) held_limit) h in
      rw (le-leb p.count record_limit few, up, small, opened, and-true)
