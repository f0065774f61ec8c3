-- A journal that was run on words of the fresh state was run from the fresh state.
use Prim.Native.Nat.{ℕ}
use mathlib.Core.Path.{◌≡◌, refl, ap, subst, ◌∙◌}
use mathlib.Core.List.{List}
use mathlib.Core.Bool.{Bool, true, false, cond}
use Rattle.std.specs.Int.{from_bool}
use Rattle.state.specs.State.{fresh_state}
use Rattle.state.specs.Words.{state_of}
use Rattle.journal.specs.declared.Replayed.{Replayed}
use Rattle.device.specs.Step.{Device, device_of}
use Rattle.journal.specs.Run.{Replays, fresh_device}
use Rattle.doorclover.specs.Journal.{Replays as ReplaysFresh}

from_bool_cond : (b : Bool) → from_bool b ≡ cond b 1 0
from_bool_cond true = refl
from_bool_cond false = refl

pub from_fresh :
    (words input store window dest out : List ℕ) (r : Replayed) (early : ℕ) (words' store' window' dest' out' : List ℕ)
    → state_of words ≡ fresh_state → Replays (device_of words store window dest) input out r words' store' window' dest' out' → early ≡ from_bool r.early
    → ReplaysFresh input store window dest out
    (record { written = r.written; carried = r.carried; refused = r.refused; early = early })
    store' window' dest' out'
from_fresh words input store window dest out r early words' store' window' dest' out' fresh ran is =
    let device : device_of words store window dest ≡ fresh_device store window dest = λ i. record {
      machine = record { state = fresh i; store = store };
      window = window;
      dest = dest;
    }
    in
    let R = subst (λ (d : Device). Replays d input out r words' store' window' dest' out') device ran in
    record {
      log = R.log;
      carried = R.carried;
      refused = R.refused;
      early = is ∙ ap from_bool R.early ∙ from_bool_cond _;
      stored = ap (λ (d : Device). d.machine.store) R.leaves;
      host = ap (λ (d : Device). d.window) R.leaves;
      given = ap (λ (d : Device). d.dest) R.leaves;
    }
