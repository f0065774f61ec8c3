-- What a command last wrote at an address since its begin, or else first fetched there, and so which fetches are first ones and which bytes are
-- owed, told from the journal (01, the agreed scope, "Two runs of one list", and request F-3 of 02, the agreed changes; docs/RULES.md has their
-- rules).
use Rattle.std.specs.Prelude.{ℕ, List, [], ◌∷◌, map, Bool, true, false, cond, ◌&&◌, eqb, length, get_or}
use Rattle.state.specs.Records.{in_span, span}
use Rattle.store.specs.Store.{from}
use Rattle.history.specs.Journal.{Event, Deed, began, fetched, wrote, ended, other, deed}

-- what a command has at an address: nothing, or a value that it wrote there, or that stood in the window given to its first fetch
pub data Value : Type 0 where
  none : Value
  some : ℕ → Value

-- what is there stays
abbrev pub or_else : Value → ℕ → Value
or_else none v = some v
or_else (some u) v = some u

-- for each command and address, what the command has there since its last accepted begin
abbrev pub Memory : Type 0
Memory = ℕ → ℕ → Value

-- A begin of c forgets what c has. A fetch by c adds each address of its span at which c has nothing. A write by c puts the written byte at each
-- address of its span, whatever c has there.
unfoldable pub remember : Memory → Deed → Memory
remember mem (began c) = λ d x. cond (eqb d c) none (mem d x)
remember mem (fetched c a n window) = λ d x. cond (eqb d c && in_span a n x) (or_else (mem d x) (get_or window x 0)) (mem d x)
remember mem (wrote c a bytes) = λ d x. cond (eqb d c && in_span a (length bytes) x) (some (from a bytes x)) (mem d x)
remember mem (ended c) = mem
remember mem other = mem

unfoldable pub memory : List Event → Memory
memory [] = λ c x. none
memory (e ∷ past) = remember (memory past) (deed e)

abbrev pub is_known : Value → Bool
is_known none = false
is_known (some v) = true

abbrev pub recall : Value → ℕ
recall none = 0
recall (some v) = v

-- What the memory has is what two searches back through the events find, each up to the command's last accepted begin. The value last written at
-- an address: the first accepted own write by c that is met, with the address in its span.
unfoldable pub write_in : Deed → (c x : ℕ) → Value → Value
write_in (began d) c x further = cond (eqb c d) none further
write_in (fetched d a n window) c x further = further
write_in (wrote d a bytes) c x further = cond (eqb c d && in_span a (length bytes) x) (some (from a bytes x)) further
write_in (ended d) c x further = further
write_in other c x further = further

unfoldable pub last_write : List Event → (c x : ℕ) → Value
last_write [] c x = none
last_write (e ∷ past) c x = write_in (deed e) c x (last_write past c x)

-- The value first fetched there: the last accepted fetch by c that is met, with the address in its span.
unfoldable pub fetch_in : Deed → (c x : ℕ) → Value → Value
fetch_in (began d) c x further = cond (eqb c d) none further
fetch_in (fetched d a n window) c x further = cond (eqb c d && in_span a n x) (or_else further (get_or window x 0)) further
fetch_in (wrote d a bytes) c x further = further
fetch_in (ended d) c x further = further
fetch_in other c x further = further

unfoldable pub first_fetch : List Event → (c x : ℕ) → Value
first_fetch [] c x = none
first_fetch (e ∷ past) c x = fetch_in (deed e) c x (first_fetch past c x)

-- 02's value at an address: the one last written, else the one first fetched
abbrev pub rather : Value → Value → Value
rather none v = v
rather (some u) v = some u

abbrev pub value_since : List Event → (c x : ℕ) → Value
value_since past c x = rather (last_write past c x) (first_fetch past c x)

-- has the command fetched or written the address since its begin?
abbrev pub held_since : List Event → (c x : ℕ) → Bool
held_since past c x = is_known (value_since past c x)

-- a first fetch: the address, and the value meant, which is the one in the window given to that fetch
pub record First : Type 0 where
  pub address : ℕ
  pub value : ℕ

abbrev pub first_if : Value → First → List First → List First
first_if none f fs = f ∷ fs
first_if (some u) f fs = fs

-- of these addresses, those not known yet
unfoldable pub firsts_among : (ℕ → Value) → List ℕ → List ℕ → List First
firsts_among known window [] = []
firsts_among known window (x ∷ xs) = first_if (known x) (record { address = x; value = get_or window x 0 }) (firsts_among known window xs)

unfoldable pub firsts_by : Memory → Deed → List First
firsts_by mem (began c) = []
firsts_by mem (fetched c a n window) = firsts_among (mem c) window (span a n)
firsts_by mem (wrote c a bytes) = []
firsts_by mem (ended c) = []
firsts_by mem other = []

-- 01's first fetches at an event, as 02 has them: those addresses of an accepted fetch's span that the command has neither fetched nor
-- written since its last accepted begin.
abbrev pub firsts : List Event → Event → List First
firsts past e = firsts_by (memory past) (deed e)

unfoldable pub owed_by : Memory → Deed → List ℕ
owed_by mem (began c) = []
owed_by mem (fetched c a n window) = map (λ x. recall (or_else (mem c x) (get_or window x 0))) (span a n)
owed_by mem (wrote c a bytes) = []
owed_by mem (ended c) = []
owed_by mem other = []

-- What the delivery rule asks of an accepted fetch: at each address of its span the value that the command last wrote there, else that of its
-- first fetch there, which may be this one.
abbrev pub owed : List Event → Event → List ℕ
owed past e = owed_by (memory past) (deed e)
