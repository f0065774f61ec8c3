-- Each return is a case of the laws.
use Prim.Native.Nat.{ℕ, ◌%◌}
use native.Mathlib.Omega.{arith}
use mathlib.Core.Path.{◌≡◌}
use mathlib.Core.List.{List}
use mathlib.Core.Bool.{true}
use borrow.Author.Tests.{eq-eqb, ne_eqb, lt-ltb, le-ltb}
use Rattle.prp.specs.Pages.{Walk, needed}
use Rattle.prp.specs.Entries.{is_multiple}
use Rattle.lists.specs.Lists.{asked}
use Rattle.walk.proofs.Gathering.{wrong_first, by_lists, none_needed, second_wrong, second_right}
use Rattle.walk.proofs.gather.gather.Goals as goal

pub returns-then-prp1-ne0 : goal.returns-then-prp1-ne0
returns-then-prp1-ne0 c =
    let w : Walk = asked c.args.command c.args.prp1 c.args.prp2 c.args.transfer c.args.window.now in
    let words : List ℕ = c.args.state.now in
    let store : List ℕ = c.args.store.now in
    let scratch : List ℕ = c.args.scratch.now in
    wrong_first words store w scratch (ne_eqb (c.args.prp1 % 4) 0 (omega arith))

pub returns-then-behind-gt1 : goal.returns-then-behind-gt1
returns-then-behind-gt1 c =
    let w : Walk = asked c.args.command c.args.prp1 c.args.prp2 c.args.transfer c.args.window.now in
    let words : List ℕ = c.args.state.now in
    let store : List ℕ = c.args.store.now in
    let right : is_multiple 4 c.args.prp1 ≡ true = eq-eqb (c.args.prp1 % 4) 0 (omega arith) in
    let count_is : c.behind_first-behind.result ≡ needed w = c.behind_first-behind.ensures.0 in
    by_lists words store w right _ _ _ _ (lt-ltb 1 (needed w) (omega (arith, count_is)))
    c.gather_lists.ensures

pub returns-then-behind-eq0 : goal.returns-then-behind-eq0
returns-then-behind-eq0 c =
    let w : Walk = asked c.args.command c.args.prp1 c.args.prp2 c.args.transfer c.args.window.now in
    let words : List ℕ = c.args.state.now in
    let store : List ℕ = c.args.store.now in
    let right : is_multiple 4 c.args.prp1 ≡ true = eq-eqb (c.args.prp1 % 4) 0 (omega arith) in
    let count_is : c.behind_first-behind.result ≡ needed w = c.behind_first-behind.ensures.0 in
    none_needed words store w right (le-ltb 1 (needed w) (omega (arith, count_is))) _ (omega (arith, count_is))

pub returns-then-prp2-ne0 : goal.returns-then-prp2-ne0
returns-then-prp2-ne0 c =
    let w : Walk = asked c.args.command c.args.prp1 c.args.prp2 c.args.transfer c.args.window.now in
    let words : List ℕ = c.args.state.now in
    let store : List ℕ = c.args.store.now in
    let right : is_multiple 4 c.args.prp1 ≡ true = eq-eqb (c.args.prp1 % 4) 0 (omega arith) in
    let count_is : c.behind_first-behind.result ≡ needed w = c.behind_first-behind.ensures.0 in
    second_wrong words store w right (le-ltb 1 (needed w) (omega (arith, count_is))) _ (omega (arith, count_is))
    (ne_eqb (c.args.prp2 % 4096) 0 (omega arith))

pub returns : goal.returns
returns c =
    let w : Walk = asked c.args.command c.args.prp1 c.args.prp2 c.args.transfer c.args.window.now in
    let words : List ℕ = c.args.state.now in
    let store : List ℕ = c.args.store.now in
    let right : is_multiple 4 c.args.prp1 ≡ true = eq-eqb (c.args.prp1 % 4) 0 (omega arith) in
    let count_is : c.behind_first-behind.result ≡ needed w = c.behind_first-behind.ensures.0 in
    second_right words store w right (le-ltb 1 (needed w) (omega (arith, count_is))) _ (omega (arith, count_is))
    (eq-eqb (c.args.prp2 % 4096) 0 (omega arith))
