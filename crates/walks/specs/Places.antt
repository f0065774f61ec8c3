-- A list of calls and page walks, run one after the other (request F-5 of 02, the agreed changes; docs/RULES.md has its rules). A walk is the list of
-- the list fetches that it makes: whatever is claimed of lists of calls is claimed of lists with walks through `expanded`.
use Rattle.std.specs.Prelude.{ℕ}
use mathlib.Core.List.{List, [], ◌∷◌, ◌++◌, flat_map}
use Rattle.state.specs.Verdict.{Reply}
use Rattle.cache.specs.Runs.{Call, Machine, start, says, after, delivers, along}
use Rattle.history.specs.Journal.{Event, event}
use Rattle.prp.specs.Pages.{Walk}
use Rattle.prp.specs.Walk.{walk_says, walk_fetches, walk_after, walk_addresses, walk_lengths}

-- a place in such a list: a call or a walk, with all that it is given
pub data Place : Type 0 where
  plain : Call → Place
  walk : Walk → Place

-- the calls that a place makes: a call itself, and of a walk its list fetches
abbrev pub calls_at : Machine → Place → List Call
calls_at m (plain p) = p ∷ []
calls_at m (walk w) = walk_fetches m w

-- what a place answers and leaves
abbrev pub place_says : Machine → Place → Reply
place_says m (plain p) = says m p
place_says m (walk w) = walk_says m w

abbrev pub place_after : Machine → Place → Machine
place_after m (plain p) = after m p
place_after m (walk w) = walk_after m w

-- its calls with their answers, and what each of them delivers
abbrev pub place_events : Machine → Place → List Event
place_events m p = along event m (calls_at m p)

abbrev pub place_delivers : Machine → Place → List (List ℕ)
place_delivers m p = along delivers m (calls_at m p)

-- the two span lists after a walk
abbrev pub place_lists : Machine → Place → List (List ℕ)
place_lists m (plain p) = []
place_lists m (walk w) = walk_addresses m w ∷ walk_lengths m w ∷ []

-- what f gives at each place of a list, and all of it in one list
unfoldable pub throughout : {A : Type 0} → (Machine → Place → A) → Machine → List Place → List A
throughout f m [] = []
throughout f m (p ∷ ps) = f m p ∷ throughout f (place_after m p) ps

abbrev pub gathered : {A : Type 0} → List (List A) → List A
gathered xss = flat_map (λ xs. xs) xss

-- the machine after a whole list
unfoldable pub went : Machine → List Place → Machine
went m [] = m
went m (p ∷ ps) = went (place_after m p) ps

-- the list of calls that a list of places comes to
unfoldable pub expanded : Machine → List Place → List Call
expanded m [] = []
expanded m (p ∷ ps) = calls_at m p ++ expanded (place_after m p) ps

-- the journal of such a list: the calls that its places make, each with its answer
abbrev pub places_journal : List ℕ → List Place → List Event
places_journal store ps = gathered (throughout place_events (start store) ps)
