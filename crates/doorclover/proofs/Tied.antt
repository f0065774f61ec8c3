-- Each call of the code is the call of its name in lists of calls: its contract is said by the definitions that the lists are made of.
use Prim.Native.Nat.{ℕ}
use mathlib.Core.Path.{◌≡◌, refl}
use mathlib.Core.List.{List}
use Rattle.state.specs.State.{State}
use Rattle.state.specs.Words.{state_of}
use Rattle.cache.specs.Runs.{Machine, given}
use Rattle.doorclover.specs.Calls.{CallsTied}

-- a machine by its state and its store
equal_machines : (words' : List ℕ) {store' : List ℕ} {s : State} {bytes : List ℕ} → state_of words' ≡ s → store' ≡ bytes
    → ◌≡◌ {A = Machine} (given words' store') (record { state = s; store = bytes })
equal_machines words' e f = λ i. record { state = e i; store = f i }

pub calls_tied : CallsTied
calls_tied words store = record {
  begins = λ B. (B.answer, equal_machines _ B.state B.bytes);
  fetches = λ F. (F.answer, equal_machines _ F.state F.bytes, F.delivered);
  ends = λ E. (E.answer, equal_machines _ E.state E.bytes);
  host_writes = λ H. (H.answer, refl, H.host);
  own_writes = λ W. (W.answer, equal_machines _ W.state W.stored, W.host);
  shows = λ S. (S.answer, refl);
}
