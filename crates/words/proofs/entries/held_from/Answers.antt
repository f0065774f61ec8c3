use Prim.Native.Nat.{◌+◌}
use native.Mathlib.Omega.{arith}
use mathlib.Core.Path.{◌≡◌, ap, sym, ◌∙◌}
use mathlib.Core.List.{◌∷◌}
use lib.ListN.{drop, get_or}
use Rattle.state.specs.declared.Record.{Record}
use Rattle.state.specs.Records.{total}
use Rattle.state.specs.State.{no_record, records_in}
use Rattle.state.proofs.Walk.{next_record, no_record_lem}
use Rattle.state.specs.Words.{command_in}
use Rattle.words.proofs.EntryWords.{entry_at}
use Rattle.words.proofs.entries.held_from.Goals as goal

pub loop-i-preserved : goal.loop-i-preserved
unfolding total
loop-i-preserved c =
    let ws = c.args.words.now in
    let p = command_in ws in
    let i = c.loop-i.i in
    let next : drop i (records_in p) ≡ get_or p.records i no_record ∷ drop (i + 1) (records_in p) = next_record p i (omega arith) in
    let is = c.entry.ensures ∙ sym (entry_at ws i (omega arith)) in
    omega (arith, ap total next, ap (λ (r : Record). r.len) is)

pub returns : goal.returns
unfolding total
returns c =
    let p = command_in c.args.words.now in
    omega (arith, ap total (no_record_lem p c.loop-i.i (omega arith)))
