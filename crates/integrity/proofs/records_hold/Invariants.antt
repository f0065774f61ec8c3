-- What was found so far and what the records still to come give is what all of them do.
use Rattle.std.proofs.Common.{◌≡◌, ◌+◌, ◌&&◌, drop}
use Rattle.state.specs.Records.{total}
use Rattle.state.specs.State.{records_in}
use Rattle.state.specs.Words.{command_in}
use Rattle.integrity.specs.Holds.{is_faultless, Walking}
use Rattle.integrity.proofs.Chain.{chained, chain_low}
use Rattle.integrity.proofs.records_hold.Given as goal

abbrev pub invariant-loop-i : goal.invariant-loop-i
invariant-loop-i l =
    let p = command_in l.words in
    let rest = drop l.i (records_in p) in
    ((is_faultless l.w.faults && chained l.w.low rest) ≡ chained 0 (records_in p)) × (chain_low l.w.low rest ≡ chain_low 0 (records_in p))
    × (l.w.sum + total rest ≡ total (records_in p)) × Walking l.w l.i
