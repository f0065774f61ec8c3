-- The tail moves up, and the joined record is filled.
use Prim.Native.Nat.{ℕ}
use native.Mathlib.Omega.{arith}
use mathlib.Core.Path.{ap, ◌∙◌}
use mathlib.Core.List.{List}
use Rattle.state.specs.State.{records_in}
use Rattle.store.specs.Hold.{filled}
use Rattle.state.specs.Words.{command_in}
use Rattle.store.proofs.Repacking.{held_fits, repacked_filled}
use Rattle.store.proofs.hold.hold.Goals as goal

pub overflow_add-m : goal.overflow_add-m
overflow_add-m c =
    let fits = c.requires.1 in
    let p = command_in c.args.words.now in
    omega (
      arith,
      held_fits (records_in p) c.args.part.now c.args.base c.args.source.now c.args.m c.args.fresh
          c.args.behind fits.cut fits.room c.requires.2,
    )

pub returns : goal.returns
returns c =
    let fits = c.requires.1 in
    let p = command_in c.args.words.now in
    c.fill.ensures ∙ ap (λ (l : List ℕ). filled (records_in p) c.args.m l c.args.base c.args.source.now) c.move_up.ensures
    ∙ repacked_filled (records_in p) c.args.part.now c.args.base c.args.source.now c.args.m c.args.fresh
    c.args.behind fits.cut fits.room c.requires.2
