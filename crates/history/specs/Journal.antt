-- The journal of a run: each call with its answer. What is told of a run from its journal is told from the calls and their
-- answers, and from no record and no store.
use Rattle.std.specs.Prelude.{ℕ, List, [], ◌∷◌, Bool, true, false}
use Rattle.state.specs.Verdict.{Reply, accepted}
use Rattle.cache.specs.Runs.{Call, begin, fetch, end, host_write, own_write, show, Machine, start, says, along}

pub record Event : Type 0 where
  pub call : Call
  pub answer : Reply

abbrev pub event : Machine → Call → Event
event m p = record { call = p; answer = says m p }

abbrev pub journal : List ℕ → List Call → List Event
journal store ps = along event (start store) ps

-- what f tells at each event of a journal, from the events before it, the latest first, and from the event itself
unfoldable pub told : {A : Type 0} → (List Event → Event → A) → List Event → List Event → List A
told f past [] = []
told f past (e ∷ es) = f past e ∷ told f (e ∷ past) es

-- the events of a journal, the latest first
unfoldable pub backwards : List Event → List Event → List Event
backwards past [] = past
backwards past (e ∷ es) = backwards (e ∷ past) es

-- What an event did: an accepted begin, fetch, own write or end of a command. A refused call, a host write and a show do nothing of these.
pub data Deed : Type 0 where
  began : (c : ℕ) → Deed
  fetched : (c a n : ℕ) (window : List ℕ) → Deed
  wrote : (c a : ℕ) (bytes : List ℕ) → Deed
  ended : (c : ℕ) → Deed
  other : Deed

abbrev pub deed_of : Bool → Call → Deed
deed_of false p = other
deed_of true (begin c) = began c
deed_of true (fetch c a n dest window) = fetched c a n window
deed_of true (end c) = ended c
deed_of true (host_write a bytes window) = other
deed_of true (own_write c a bytes window) = wrote c a bytes
deed_of true (show c i) = other

abbrev pub deed : Event → Deed
deed e = deed_of (accepted e.answer) e.call
