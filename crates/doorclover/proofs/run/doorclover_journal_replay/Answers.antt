-- The journal's own equation, on words that are fresh.
use Rattle.doorclover.proofs.FromFresh.{from_fresh}
use Rattle.doorclover.proofs.run.doorclover_journal_replay.Goals as goal

pub returns : goal.returns
returns c = from_fresh _ _ _ _ _ _ c.replay-r.result c.from.result _ _ _ _ _ c.fresh-state.ensures c.replay-r.ensures c.from.ensures
