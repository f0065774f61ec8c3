-- From the fresh state on every state holds together, so that 20 is never the answer.
use Prim.Native.Nat.{ℕ}
use mathlib.Core.Path.{◌≡◌, refl, subst, sym}
use mathlib.Core.Logic.{◌≢◌}
use mathlib.Core.List.{List, [], ◌∷◌}
use mathlib.Core.Bool.{true}
use Rattle.octets.specs.Lists.{all}
use Rattle.state.specs.State.{CommandState, State, holds, has_shape}
use Rattle.state.specs.Verdict.{refused}
use Rattle.state.proofs.Verdict.{never_given}
use Rattle.state.proofs.Commands.{fresh_holds, fresh_shape, holds_with, shape_with}
use Rattle.cache.specs.Begin.{begin_says}
use Rattle.cache.specs.Fetch.{fetch_says}
use Rattle.cache.specs.End.{end_says}
use Rattle.cache.specs.HostWrite.{host_says}
use Rattle.cache.specs.OwnWrite.{own_says}
use Rattle.cache.specs.Show.{show_says}
use Rattle.cache.specs.Runs.{Call, begin, fetch, end, host_write, own_write, show, Machine, start, says, after, ran}
use Rattle.history.specs.Claims.{AlwaysHolds, NeverBroken}
use Rattle.history.proofs.Replaced.{replaced, Fits}
use Rattle.history.proofs.Effects.{Effect, nothing, replaces, effect}

pub record Whole (s : State) : Type 0 where
  pub whole : holds s ≡ true
  pub shape : has_shape s ≡ true

pub whole_start : (store : List ℕ) → Whole (start store).state
whole_start store = record { whole = fresh_holds; shape = fresh_shape }

pub whole_replaced : {m : Machine} {c : ℕ} {next : CommandState} {bytes : List ℕ} → Fits m c next bytes → Whole m.state
    → Whole (replaced m c next bytes).state
whole_replaced {m} {c} {next} F W =
    record { whole = holds_with m.state c next W.whole F.sound; shape = shape_with m.state c next W.shape F.shaped }

whole_after : (m : Machine) (p : Call) → Whole m.state → Whole (after m p).state
whole_after m p W = go (effect m p)
  where
    go : Effect m p → Whole (after m p).state
    go (nothing e) = subst (λ (j : Machine). Whole j.state) (sym e) W
    go (replaces c next bytes h F e) = subst (λ (j : Machine). Whole j.state) (sym e) (whole_replaced F W)

whole_ran : (m : Machine) (ps : List Call) → Whole m.state → Whole (ran m ps).state
unfolding ran
whole_ran m [] W = W
whole_ran m (p ∷ ps) W = whole_ran (after m p) ps (whole_after m p W)

pub always_holds : AlwaysHolds
always_holds store ps = let W = whole_ran (start store) ps (whole_start store) in (W.whole, W.shape)

not_broken : (m : Machine) (p : Call) → holds m.state ≡ true → says m p ≢ refused 20
unfolding begin_says fetch_says end_says host_says own_says show_says all
not_broken m (begin c) h = never_given 20 _ _ (rw h)
not_broken m (fetch c a n dest window) h = never_given 20 _ _ (rw h)
not_broken m (end c) h = never_given 20 _ _ (rw h)
not_broken m (host_write a bytes window) h = never_given 20 _ _ refl
not_broken m (own_write c a bytes window) h = never_given 20 _ _ (rw h)
not_broken m (show c i) h = never_given 20 _ _ (rw h)

pub never_broken : NeverBroken
never_broken store ps p = not_broken (ran (start store) ps) p (always_holds store ps).0
