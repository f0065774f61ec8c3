-- The reader and the writer give the lowest number that applies.
use Prim.Native.Nat.{ℕ}
use mathlib.Core.Path.{refl}
use Rattle.octets.specs.Lists.{all}
use Rattle.state.specs.Verdict.{ascend_from}
use Rattle.state.proofs.Verdict.{verdict_lowest}
use Rattle.frames.specs.Read.{fields_say}
use Rattle.frames.specs.Write.{write_says}
use Rattle.frames.specs.Order.{CanApply, ChecksAscend, LowestGiven}

module _ (kind command address size spare given room : ℕ) where
  pub can_apply : CanApply kind command address size spare given room
  can_apply = refl

  pub checks_ascend : ChecksAscend kind command address size spare given room
  unfolding all ascend_from
  checks_ascend = refl

  pub lowest_given : LowestGiven kind command address size spare given room
  unfolding ascend_from fields_say write_says
  lowest_given = record { reads = verdict_lowest 0 _ _ refl; writes = verdict_lowest 0 _ _ refl }
