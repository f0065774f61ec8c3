-- The one test over the list of marked walks, computed.
use mathlib.Core.Path.{refl}
use Rattle.octets.specs.Lists.{all}
use Rattle.markedwalks.specs.Marks.{passes}
use Rattle.markedwalks.specs.Walks.{marked, MarkedWalks}

pub marked_walks : MarkedWalks
unfolding all passes marked
marked_walks = refl
