-- What is told from a journal by way of the memory, as a walk along the calls that carries the memory with it.
use mathlib.Core.Path.{◌≡◌, refl, ap}
use mathlib.Core.List.{List, [], ◌∷◌}
use Rattle.state.specs.Verdict.{accepted}
use Rattle.cache.specs.Runs.{Call, Machine, says, after, along}
use Rattle.history.specs.Journal.{Event, event, told, Deed, deed_of, deed}
use Rattle.history.specs.Firsts.{Memory, remember, memory}

module _ {A : Type 0} (g : Memory → Deed → A) where
  unfoldable pub along_memory : Memory → Machine → List Call → List A
  along_memory mem m [] = []
  along_memory mem m (p ∷ ps) = let d = deed_of (accepted (says m p)) p in g mem d ∷ along_memory (remember mem d) (after m p) ps

  pub told_memory : (past : List Event) (m : Machine) (ps : List Call)
      → told (λ before e. g (memory before) (deed e)) past (along event m ps) ≡ along_memory (memory past) m ps
  unfolding told along along_memory memory
  told_memory past m [] = refl
  told_memory past m (p ∷ ps) = ap (λ (rest : List A). g (memory past) (deed_of (accepted (says m p)) p) ∷ rest) (told_memory (event m p ∷ past) (after m p) ps)
