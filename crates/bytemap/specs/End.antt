-- End: the command is closed, and the whole map is cleared (request F-2 of 02, the agreed changes; docs/RULES.md has its rules).
use Rattle.std.specs.Prelude.{◌≡◌, List, [], ◌∷◌, Result, cond, length}
use Rattle.state.specs.declared.answer.EndCounts.{EndCounts}
use Rattle.state.specs.declared.refusal.Refusal.{Refusal}
use Rattle.state.specs.Answers.{end_reply}
use Rattle.state.specs.Verdict.{Reply, replied, accepted, Check, verdict}
use Rattle.bytemap.specs.Map.{Map, held_count, runs_of, cleared, map_broken, not_open}

-- 20, 21
abbrev pub end_checks : Map → List Check
end_checks m = map_broken m ∷ not_open m ∷ []

-- the reply: the number of runs, and of held bytes
unfoldable pub end_says : Map → Reply
end_says m = verdict (end_checks m) (replied (length (runs_of m) ∷ held_count m ∷ []))

-- F-2's end: the command is closed, and the whole map is cleared
unfoldable pub end_map : Map → Map
end_map m = cond (accepted (end_says m)) (cleared 0) m

-- the call: its answer, and the map after it
pub record Ends (m : Map) (r : Result EndCounts Refusal) (m' : Map) : Type 0 where
  pub answer : end_reply r ≡ end_says m
  pub map : m' ≡ end_map m
