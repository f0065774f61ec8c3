-- Each call gives the lowest number that applies.
use Prim.Native.Nat.{ℕ}
use mathlib.Core.Path.{refl}
use Rattle.octets.specs.Lists.{all}
use Rattle.state.specs.State.{State}
use Rattle.state.specs.Verdict.{ascend_from}
use Rattle.state.proofs.Verdict.{verdict_lowest}
use Rattle.cache.specs.Begin.{begin_says}
use Rattle.cache.specs.Fetch.{fetch_says}
use Rattle.cache.specs.End.{end_says}
use Rattle.cache.specs.HostWrite.{host_says}
use Rattle.cache.specs.OwnWrite.{own_says}
use Rattle.cache.specs.Show.{show_says}
use Rattle.cache.specs.Order.{CanApply, ChecksAscend, LowestGiven}

module _ (s : State) (store_len window_len dest_len c a n i : ℕ) where
  pub can_apply : CanApply s store_len window_len dest_len c a n i
  can_apply = refl

  pub checks_ascend : ChecksAscend s store_len window_len dest_len c a n i
  unfolding all ascend_from
  checks_ascend = refl

  pub lowest_given : LowestGiven s store_len window_len dest_len c a n i
  unfolding ascend_from begin_says end_says fetch_says host_says own_says show_says
  lowest_given = record {
    begins = verdict_lowest 0 _ _ refl;
    ends = verdict_lowest 0 _ _ refl;
    fetches = verdict_lowest 0 _ _ refl;
    host_writes = verdict_lowest 0 _ _ refl;
    own_writes = verdict_lowest 0 _ _ refl;
    shows = verdict_lowest 0 _ _ refl;
  }
