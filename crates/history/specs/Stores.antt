-- The whole store after a list of calls, told from the store at the start and from the journal: no record and no state enters it
-- (01, the agreed scope, "The book and the store" and "The calls", and request F-3 of 02, the agreed changes; docs/RULES.md has their rules).
use Rattle.std.specs.Prelude.{ℕ, ◌-◌, cond, eqb, length, drop, replicate}
use mathlib.Core.List.{List, [], ◌∷◌, ◌++◌, flat_map}
use Rattle.octets.specs.Lists.{part}
use Rattle.state.specs.Limits.{command_limit, held_limit, window_limit, store_size}
use Rattle.state.specs.Records.{span}
use Rattle.store.specs.Store.{part_start}
use Rattle.history.specs.Journal.{Event, Deed, began, fetched, wrote, ended, other, deed}
use Rattle.history.specs.Firsts.{Value, none, some, memory}

-- what became of a command: it was never begun, it is open, or it has ended
pub data Phase : Type 0 where
  unbegun : Phase
  running : Phase
  finished : Phase

-- a search back through the events for the command's last accepted begin or end
unfoldable pub phase_by : Deed → (c : ℕ) → Phase → Phase
phase_by (began d) c further = cond (eqb c d) running further
phase_by (fetched d a n window) c further = further
phase_by (wrote d a bytes) c further = further
phase_by (ended d) c further = cond (eqb c d) finished further
phase_by other c further = further

unfoldable pub phase : List Event → (c : ℕ) → Phase
phase [] c = unbegun
phase (e ∷ past) c = phase_by (deed e) c (phase past c)

-- 01's held bytes, packed by ascending address: of each address the value that was last written there since the begin, else the one first
-- fetched, if there is any
abbrev pub if_any : Value → List ℕ
if_any none = []
if_any (some v) = v ∷ []

unfoldable pub held_owed : List Event → (c : ℕ) → List ℕ
held_owed past c = flat_map (λ x. if_any (memory past c x)) (span 0 window_limit)

-- these bytes at the front of a part, and zeros behind them
abbrev pub then_zeros : List ℕ → List ℕ
then_zeros bytes = bytes ++ replicate (held_limit - length bytes) 0

-- A part that was never begun is as it was given. A begin sets it to zero, so that an open one has zeros behind the held bytes, which
-- stand at its front; an end sets it to zero again.
abbrev pub part_by : Phase → (given held : List ℕ) → List ℕ
part_by unbegun given held = given
part_by running given held = then_zeros held
part_by finished given held = replicate held_limit 0

abbrev pub part_owed : List ℕ → List Event → (c : ℕ) → List ℕ
part_owed store past c = part_by (phase past c) (part store (part_start c) held_limit) (held_owed past c)

-- the parts of the commands, one behind the other; what a store has behind them, if it is too long to be accepted, stays
abbrev pub store_owed : List ℕ → List Event → List ℕ
store_owed store past = flat_map (part_owed store past) (span 0 command_limit) ++ drop store_size store
