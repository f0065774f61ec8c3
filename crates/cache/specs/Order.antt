-- The rule of 01 (the agreed scope; docs/RULES.md has its rules) on which refusal is given, and the list of those that can apply to each
-- call, as 01 and 02 (the agreed changes) have it.
use Rattle.std.specs.Prelude.{ℕ, ◌≡◌, List, [], ◌∷◌, map, true, length, get_or}
use Rattle.octets.specs.Lists.{all}
use Rattle.state.specs.Records.{total, fresh, replayed, looked}
use Rattle.state.specs.State.{State, records_of, no_record}
use Rattle.state.specs.Verdict.{replied, Check, numbers, applying, ascend_from, lowest_or}
use Rattle.cache.specs.Begin.{begin_checks, begin_says}
use Rattle.cache.specs.Fetch.{fetch_checks, fetch_says}
use Rattle.cache.specs.End.{end_checks, end_says}
use Rattle.cache.specs.HostWrite.{host_checks, host_says}
use Rattle.cache.specs.OwnWrite.{own_checks, own_says}
use Rattle.cache.specs.Show.{show_checks, show_says}

module _ (s : State) (store_len window_len dest_len c a n i : ℕ) where
  -- the checks of the calls, in the order in which 01 names them
  abbrev pub all_checks : List (List Check)
  all_checks =
      begin_checks s store_len c ∷ end_checks s store_len c ∷ fetch_checks s store_len window_len dest_len c a n
      ∷ host_checks window_len a n ∷ own_checks s store_len window_len c a n ∷ show_checks s c i ∷ []

  -- the numbers of each, as 01 lists them, and 02 those of an own write
  abbrev pub CanApply : Type 0
  CanApply =
      map numbers all_checks
      ≡ (6 ∷ 8 ∷ 20 ∷ 22 ∷ []) ∷ (6 ∷ 8 ∷ 20 ∷ 21 ∷ []) ∷ (4 ∷ 6 ∷ 7 ∷ 8 ∷ 9 ∷ 10 ∷ 20 ∷ 21 ∷ 23 ∷ 24 ∷ [])
      ∷ (4 ∷ 7 ∷ 9 ∷ []) ∷ (4 ∷ 6 ∷ 7 ∷ 8 ∷ 9 ∷ 20 ∷ 21 ∷ 23 ∷ 24 ∷ []) ∷ (6 ∷ 20 ∷ 21 ∷ 25 ∷ []) ∷ []

  -- each list of checks ascends
  abbrev pub ChecksAscend : Type 0
  ChecksAscend = all (λ cs. ascend_from 0 (numbers cs)) all_checks ≡ true

  -- so each call gives the lowest number that applies, and none if none applies
  pub record LowestGiven : Type 0 where
    pub begins : begin_says s store_len c ≡ lowest_or (applying (begin_checks s store_len c)) (replied [])
    pub ends : end_says s store_len c ≡ lowest_or (applying (end_checks s store_len c)) (replied (length (records_of s c) ∷ total (records_of s c) ∷ []))
    pub fetches :
        fetch_says s store_len window_len dest_len c a n
        ≡ lowest_or (applying (fetch_checks s store_len window_len dest_len c a n))
        (replied (fresh (records_of s c) a n ∷ replayed (records_of s c) a n ∷ looked (records_of s c) a n ∷ []))
    pub host_writes : host_says window_len a n ≡ lowest_or (applying (host_checks window_len a n)) (replied (n ∷ []))
    pub own_writes :
        own_says s store_len window_len c a n
        ≡ lowest_or (applying (own_checks s store_len window_len c a n)) (replied (n ∷ fresh (records_of s c) a n ∷ []))
    pub shows :
        show_says s c i
        ≡ lowest_or (applying (show_checks s c i)) (replied ((get_or (records_of s c) i no_record).start ∷ (get_or (records_of s c) i no_record).len ∷ []))
