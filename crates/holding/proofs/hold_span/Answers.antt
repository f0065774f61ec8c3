-- The search decides: refused, everything is as it was; accepted, the bytes are held, and then the words are changed.
use Rattle.std.proofs.lemmas.Result.{err_from_is_err_and}
use Rattle.holding.proofs.Lending.{lends, full, room}
use Rattle.holding.proofs.hold_span.Goals as goal

pub planned-requires : goal.planned-requires
planned-requires c =
    let g = lends c.args.state.now c.args.store.now _ _ _ c.args.base c.args.source.now c.requires in
    (g.sized, g.holds, g.some, g.short, g.inside)

pub returns-in_err-plan : goal.returns-in_err-plan
returns-in_err-plan c =
    let p = err_from_is_err_and c.from_residual.result c.from_residual.ensures.1 in
    rw (p.1, p.2)
    (full c.args.state.now c.args.store.now _ _ _ c.args.base c.args.source.now c.requires c.in_err-plan.field-0.0 c.in_err-plan.ensures)

pub hold-requires : goal.hold-requires
hold-requires c =
    let g = lends c.args.state.now c.args.store.now _ _ _ c.args.base c.args.source.now c.requires in
    let r = room c.args.state.now c.args.store.now _ _ _ c.args.base c.args.source.now c.requires _ _ _ _ _ c.in_ok-plan.ensures in
    (g.command, c.requires.size, g.sized, r.fits, r.behind)

pub splice-requires : goal.splice-requires
splice-requires c =
    let g = lends c.args.state.now c.args.store.now _ _ _ c.args.base c.args.source.now c.requires in
    let r = room c.args.state.now c.args.store.now _ _ _ c.args.base c.args.source.now c.requires _ _ _ _ _ c.in_ok-plan.ensures in
    (g.sized, r.opened, r.order, r.most, r.few)

pub returns : goal.returns
returns c =
    let r = room c.args.state.now c.args.store.now _ _ _ c.args.base c.args.source.now c.requires _ _ _ _ _ c.in_ok-plan.ensures in
    r.held c.splice.new.words _ c.splice.ensures.1 c.splice.ensures.0 c.hold.ensures
