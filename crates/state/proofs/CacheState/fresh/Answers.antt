-- Words that are all zero are the fresh state.
use mathlib.Core.Path.{refl}
use Rattle.state.specs.Records.{span}
use Rattle.state.specs.Words.{state_of, entries_in}
use Rattle.state.proofs.CacheState.fresh.Goals as goal

pub returns : goal.returns
unfolding state_of entries_in span
returns c = refl
