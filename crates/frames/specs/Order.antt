-- The rule of 01 (the agreed scope; docs/RULES.md has its rules) on which refusal is given, and its list of those that can apply to the
-- reader and to the writer.
use Rattle.std.specs.Prelude.{ℕ, ◌≡◌, List, [], ◌∷◌, map, true}
use Rattle.octets.specs.Lists.{all}
use Rattle.state.specs.Verdict.{replied, Check, numbers, applying, ascend_from, lowest_or}
use Rattle.frames.specs.Kinds.{frame_size}
use Rattle.frames.specs.Read.{read_checks, fields_say}
use Rattle.frames.specs.Write.{write_checks, write_says}

module _ (kind command address size spare given room : ℕ) where
  -- the checks of the reader and of the writer
  abbrev pub all_checks : List (List Check)
  all_checks = read_checks given kind command address size spare ∷ write_checks kind command address size given room ∷ []

  -- the numbers of each, as 01 lists them
  abbrev pub CanApply : Type 0
  CanApply = map numbers all_checks ≡ (1 ∷ 2 ∷ 3 ∷ 4 ∷ 5 ∷ []) ∷ (2 ∷ 3 ∷ 4 ∷ 5 ∷ 6 ∷ 10 ∷ 11 ∷ []) ∷ []

  -- each list of checks ascends
  abbrev pub ChecksAscend : Type 0
  ChecksAscend = all (λ cs. ascend_from 0 (numbers cs)) all_checks ≡ true

  -- so the lowest number that applies is given, and none if none applies
  pub record LowestGiven : Type 0 where
    pub reads :
        fields_say given kind command address size spare
        ≡ lowest_or (applying (read_checks given kind command address size spare)) (replied (frame_size kind size ∷ kind ∷ command ∷ address ∷ size ∷ []))
    pub writes :
        write_says kind command address size given room
        ≡ lowest_or (applying (write_checks kind command address size given room)) (replied (frame_size kind size ∷ []))
