-- No call changes another command's records or part of the store.
use Prim.Native.Nat.{ℕ}
use mathlib.Core.Path.{◌≡◌, ap, sym, ◌∙◌}
use mathlib.Core.Logic.{◌≢◌}
use mathlib.Core.Bool.{true, false, false≢true}
use Rattle.state.specs.State.{command_of}
use Rattle.state.proofs.Commands.{command_other}
use Rattle.cache.specs.Runs.{Call, Machine}
use Rattle.history.specs.Claims.{may_change, part_in, Alone, Isolation}
use Rattle.history.proofs.Replaced.{part_other}
use Rattle.history.proofs.Effects.{Effect, nothing, replaces, effect}

apart : (p : Call) (c d : ℕ) → may_change p c ≡ true → may_change p d ≡ false → d ≢ c
apart p c d h k e = false≢true (sym k ∙ ap (may_change p) e ∙ h)

pub isolation : Isolation
isolation m p d k = go (effect m p)
  where
    go : Effect m p → Alone m p d
    go (nothing e) = record { command = ap (λ (j : Machine). command_of j.state d) e; bytes = ap (λ (j : Machine). part_in j d) e }
    go (replaces c next bytes h F e) =
        let other = apart p c d h k in
        record {
          command = ap (λ (j : Machine). command_of j.state d) e ∙ command_other m.state c next d other;
          bytes = ap (λ (j : Machine). part_in j d) e ∙ part_other F d other;
        }
