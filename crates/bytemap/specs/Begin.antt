-- Begin: the command is open, and the whole map is cleared (request F-2 of 02, the agreed changes; docs/RULES.md has its rules).
use Rattle.std.specs.Prelude.{◌≡◌, List, [], ◌∷◌, Result, cond}
use Rattle.state.specs.declared.refusal.Refusal.{Refusal}
use Rattle.state.specs.Answers.{begin_reply}
use Rattle.state.specs.Verdict.{Reply, replied, accepted, Check, verdict}
use Rattle.bytemap.specs.Map.{Map, cleared, map_broken, already_open}

-- 20, 22
abbrev pub begin_checks : Map → List Check
begin_checks m = map_broken m ∷ already_open m ∷ []

-- the answer; begin replies no number
unfoldable pub begin_says : Map → Reply
begin_says m = verdict (begin_checks m) (replied [])

-- F-2's begin: the command is open, and the whole map is cleared
unfoldable pub begin_map : Map → Map
begin_map m = cond (accepted (begin_says m)) (cleared 1) m

-- the call: its answer, and the map after it
pub record Begins (m : Map) (r : Result Unit Refusal) (m' : Map) : Type 0 where
  pub answer : begin_reply r ≡ begin_says m
  pub map : m' ≡ begin_map m
