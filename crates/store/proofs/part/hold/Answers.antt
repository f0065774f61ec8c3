-- What is done to the part is done to the store.
use Prim.Native.Nat.{ℕ, ◌+◌, ◌-◌}
use native.Mathlib.Omega.{arith}
use mathlib.Core.Path.{◌≡◌, sym, subst}
use mathlib.Core.List.{◌++◌}
use lib.ListN.{take, drop}
use Rattle.state.specs.Limits.{held_limit}
use Rattle.state.specs.Join.{replaced}
use Rattle.state.specs.State.{records_in}
use Rattle.octets.specs.Lists.{part}
use Rattle.store.specs.Store.{part_start, packed, from, sees}
use Rattle.store.specs.Hold.{repacked}
use Rattle.state.specs.Words.{command_in}
use Rattle.store.proofs.Parts.{repacked_store}
use Rattle.store.proofs.part.hold.Goals as goal

pub returns : goal.returns
returns c =
    let low = c.start-low.result in
    let rs = records_in (command_in c.args.words.now) in
    let store = c.args.store.now in
    let c' = c.args.command in
    let m = c.args.m in
    let base = c.args.base in
    let source = c.args.source.now in
    let width : low + 4096 - low ≡ held_limit = omega arith in
    rw (c.hold.ensures, width)
    (subst (λ (k : ℕ).
    take k store ++ (repacked rs m (part store k held_limit) base source ++ drop held_limit (drop k store))
    ≡ packed store c' (replaced rs m) (sees rs (λ k. part_start c' + k) store (from base source)))
    (sym c.start-low.ensures.0)
    (repacked_store rs m c.args.fresh c' store base source c.requires.3.cut c.requires.3.room (omega arith)))
