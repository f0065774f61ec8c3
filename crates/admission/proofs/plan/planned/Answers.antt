-- The search decides: its numbers are those of the join, and the sums that are formed of them are small.
use Prim.Native.Nat.{ℕ, ◌+◌, ◌-◌, ◌≤◌, ◌<◌}
use native.Mathlib.Omega.{arith}
use mathlib.Core.Path.{◌≡◌, ap, ◌∙◌}
use lib.ListN.{drop}
use Rattle.state.specs.State.{CommandState, records_in}
use Rattle.state.specs.declared.Meeting.{Meeting}
use Rattle.state.specs.Join.{Join, meeting, join}
use Rattle.state.specs.Limits.{held_limit}
use Rattle.state.specs.Records.{total}
use Rattle.state.specs.Words.{command_in}
use Rattle.admission.specs.Plan.{bytes_of}
use Rattle.admission.proofs.Plans.{looks_is, meets, new_is, place_is, count_is, bytes_are, held_small, fresh_small}
use Rattle.admission.proofs.plan.planned.Goals as goal

pub overflow_add-m-2 : goal.overflow_add-m-2
overflow_add-m-2 c =
    let a : ℕ = c.args.address in
    let n : ℕ = c.args.size in
    let p : CommandState = command_in c.args.words.now in
    let m : Meeting = c.search-searched.result.met in
    let met : m ≡ meeting (records_in p) a (a + n) = c.search-searched.ensures.met in
    let small : m.below + m.held + c.held_from-behind.result ≤ held_limit = omega (arith, held_small p a n m met c.requires.1 c.requires.2, c.held_from-behind.ensures) in
    omega (arith, small)

pub overflow_add-m-3 : goal.overflow_add-m-3
overflow_add-m-3 c =
    let a : ℕ = c.args.address in
    let n : ℕ = c.args.size in
    let p : CommandState = command_in c.args.words.now in
    let m : Meeting = c.search-searched.result.met in
    let met : m ≡ meeting (records_in p) a (a + n) = c.search-searched.ensures.met in
    let fresh_is : c.saturating_sub-fresh.result ≡ m.high - m.low - m.held = c.saturating_sub-fresh.ensures ∙ ap (λ (k : ℕ). k - m.held) c.saturating_sub.ensures in
    let small : m.below + m.held + c.held_from-behind.result ≤ held_limit = omega (arith, held_small p a n m met c.requires.1 c.requires.2, c.held_from-behind.ensures) in
    let short : c.saturating_sub-fresh.result ≤ n = omega (arith, fresh_small p a n m met c.requires.1 c.requires.2, fresh_is) in
    omega (arith, small, short)

pub returns-then-m-behind-gt-HELD : goal.returns-then-m-behind-gt-HELD
returns-then-m-behind-gt-HELD c =
    let a : ℕ = c.args.address in
    let n : ℕ = c.args.size in
    let p : CommandState = command_in c.args.words.now in
    let j : Join = join p a (a + n) in
    let m : Meeting = c.search-searched.result.met in
    let met : m ≡ meeting (records_in p) a (a + n) = c.search-searched.ensures.met in
    let fresh_is : c.saturating_sub-fresh.result ≡ m.high - m.low - m.held = c.saturating_sub-fresh.ensures ∙ ap (λ (k : ℕ). k - m.held) c.saturating_sub.ensures in
    let bytes : m.below + m.held + c.held_from-behind.result + c.saturating_sub-fresh.result ≡ bytes_of p j = omega (arith, bytes_are p a n m met, fresh_is, c.held_from-behind.ensures) in
    let over : held_limit < bytes_of (p) (j) = omega (arith, bytes) in over

pub returns-then-m-saturating_sub-gt-RECORDS : goal.returns-then-m-saturating_sub-gt-RECORDS
returns-then-m-saturating_sub-gt-RECORDS c =
    let a : ℕ = c.args.address in
    let n : ℕ = c.args.size in
    let p : CommandState = command_in c.args.words.now in
    let j : Join = join p a (a + n) in
    let m : Meeting = c.search-searched.result.met in
    let met : m ≡ meeting (records_in p) a (a + n) = c.search-searched.ensures.met in
    let fresh_is : c.saturating_sub-fresh.result ≡ m.high - m.low - m.held = c.saturating_sub-fresh.ensures ∙ ap (λ (k : ℕ). k - m.held) c.saturating_sub.ensures in
    let bytes : m.below + m.held + c.held_from-behind.result + c.saturating_sub-fresh.result ≡ bytes_of p j = omega (arith, bytes_are p a n m met, fresh_is, c.held_from-behind.ensures) in
    let room : bytes_of (p) (j) ≤ held_limit = omega (arith, bytes) in
    let number : (m).first + 1 + c.saturating_sub-2.result ≡ (j).command.count = ap (λ (k : ℕ). (m).first + 1 + k) (c.saturating_sub-2.ensures ∙ ap (λ (k : ℕ). k - (m).last) c.used.ensures.0)
    ∙ count_is (p) (a) (n) (m) (met) in
    record { bytes = room; many = omega (arith, number) }

pub returns : goal.returns
returns c =
    let a : ℕ = c.args.address in
    let n : ℕ = c.args.size in
    let p : CommandState = command_in c.args.words.now in
    let j : Join = join p a (a + n) in
    let m : Meeting = c.search-searched.result.met in
    let met : m ≡ meeting (records_in p) a (a + n) = c.search-searched.ensures.met in
    let fresh_is : c.saturating_sub-fresh.result ≡ m.high - m.low - m.held = c.saturating_sub-fresh.ensures ∙ ap (λ (k : ℕ). k - m.held) c.saturating_sub.ensures in
    let bytes : m.below + m.held + c.held_from-behind.result + c.saturating_sub-fresh.result ≡ bytes_of p j = omega (arith, bytes_are p a n m met, fresh_is, c.held_from-behind.ensures) in
    let room : bytes_of (p) (j) ≤ held_limit = omega (arith, bytes) in
    let number : (m).first + 1 + c.saturating_sub-2.result ≡ (j).command.count = ap (λ (k : ℕ). (m).first + 1 + k) (c.saturating_sub-2.ensures ∙ ap (λ (k : ℕ). k - (m).last) c.used.ensures.0)
    ∙ count_is (p) (a) (n) (m) (met) in
    record {
      meets = meets (p) (a) (n) (m) (met);
      new = fresh_is ∙ new_is (p) (a) (n) (m) (met);
      stands = omega (arith, place_is (p) (a) (n) (m) (met));
      rest = c.held_from-behind.ensures ∙ ap (λ (c : Meeting). total (drop c.last (records_in (p)))) (meets (p) (a) (n) (m) (met));
      looks = c.search-searched.ensures.looked ∙ looks_is (p) (a) (n);
      bytes = room;
      few = omega (arith, number);
    }
