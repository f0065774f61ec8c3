-- The search goes record by record: what is left of it is what the definitions say of the records that are left.
use Prim.Native.Nat.{◌+◌}
use mathlib.Core.Path.{◌≡◌}
use lib.ListN.{drop}
use Rattle.state.specs.State.{records_in}
use Rattle.state.specs.Records.{looked_up_to}
use Rattle.state.specs.Join.{searched, meeting}
use Rattle.join.specs.Bounds.{Counted}
use Rattle.state.specs.Words.{command_in}
use Rattle.join.proofs.search.search.Given as goal

abbrev pub invariant-loop-i : goal.invariant-loop-i
invariant-loop-i l =
    let rs = records_in (command_in l.words) in
    (searched l.address l.end (drop l.i rs) l.m ≡ meeting rs l.address l.end) × Counted l.m l.i × (l.m.last ≡ l.i) × (l.i + looked_up_to l.end (drop l.i rs) ≡ looked_up_to l.end rs)
