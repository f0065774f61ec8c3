-- Barred, nothing changes; else the entries, the spans and the zeroed scratch make up the walk.
use Prim.Native.Nat.{ℕ}
use mathlib.Core.Path.{◌≡◌, ap, sym}
use mathlib.Core.List.{List}
use mathlib.Core.Bool.{true}
use lib.ListN.{length}
use borrow.Author.Rules.{rules}
use Rattle.state.specs.Verdict.{accepted}
use Rattle.std.proofs.lemmas.Result.{err_from_is_err_and}
use Rattle.cache.specs.Runs.{Machine, given}
use Rattle.prp.specs.Pages.{Walk}
use Rattle.prp.specs.Entries.{judged}
use Rattle.prp.specs.Walk.{walk_checks}
use Rattle.prp.proofs.Accepted.{Admitted, admitted}
use Rattle.walk.specs.Walk.{lent}
use Rattle.walk.proofs.Walking.{refused_walk, whole_walk}
use Rattle.walk.proofs.walk.Goals as goal

pub returns-in_err-judge : goal.returns-in_err-judge
returns-in_err-judge c =
    let a = c.args in
    let p = err_from_is_err_and c.from_residual.result c.from_residual.ensures.1 in
    rw (p.1, p.2)
    (refused_walk a.state.now a.store.now a.command a.prp1 a.prp2 a.transfer a.window.now a.scratch.now
    a.addresses.now a.lengths.now _ c.in_err-judge.ensures)

pub gather-gathered-requires : goal.gather-gathered-requires
unfolding accepted
gather-gathered-requires c =
    let m : Machine = given c.args.state.now c.args.store.now in
    let w : Walk = lent c.args.command c.args.prp1 c.args.prp2 c.args.transfer c.args.window.now c.args.scratch.now
    c.args.addresses.now c.args.lengths.now in
    let passed : accepted (judged (walk_checks m w)) ≡ true = ap accepted (sym c.in_ok-judge.ensures) in
    let admits : Admitted w = admitted m w passed in
    let A = admits in (A.scratch_room, A.some, A.short)

pub conclude-answer-requires : goal.conclude-answer-requires
unfolding accepted
conclude-answer-requires c =
    let m : Machine = given c.args.state.now c.args.store.now in
    let w : Walk = lent c.args.command c.args.prp1 c.args.prp2 c.args.transfer c.args.window.now c.args.scratch.now
    c.args.addresses.now c.args.lengths.now in
    let passed : accepted (judged (walk_checks m w)) ≡ true = ap accepted (sym c.in_ok-judge.ensures) in
    let admits : Admitted w = admitted m w passed in
    let A = admits in
    (search rules, A.address_room, A.length_room, A.some, A.short)

pub returns : goal.returns
unfolding accepted
returns c =
    let m : Machine = given c.args.state.now c.args.store.now in
    let w : Walk = lent c.args.command c.args.prp1 c.args.prp2 c.args.transfer c.args.window.now c.args.scratch.now
    c.args.addresses.now c.args.lengths.now in
    let passed : accepted (judged (walk_checks m w)) ≡ true = ap accepted (sym c.in_ok-judge.ensures) in
    let scratch' : List ℕ = c.gather-gathered.new.scratch in
    let sized : length scratch' ≡ length c.args.scratch.now = search rules in
    let a = c.args in
    rw (c.fill.ensures.after (λ y e. search rules))
    (whole_walk a.state.now a.store.now a.command a.prp1 a.prp2 a.transfer a.window.now a.scratch.now
    a.addresses.now a.lengths.now passed _ _ _ scratch' sized c.gather-gathered.ensures _ _ _
    c.conclude-answer.ensures)
