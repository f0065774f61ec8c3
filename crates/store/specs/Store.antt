-- The store: where the bytes of each command stand in it, and how a command sees a byte (01, the agreed scope, "The book and the store", and
-- request F-3 of 02, the agreed changes; docs/RULES.md has their rules).
use Rattle.std.specs.Prelude.{ℕ, ◌+◌, ◌*◌, ◌-◌, List, map, cond, length, get_or, replicate}
use Rattle.octets.specs.Lists.{overwrite}
use Rattle.state.specs.declared.Record.{Record}
use Rattle.state.specs.Limits.{held_limit}
use Rattle.state.specs.Records.{in_span, held, place, span, addresses}
use Rattle.state.specs.State.{State}

-- where command c's part begins; each part has room for all that a command may hold, and nothing else says where a part stands
abbrev pub part_start : ℕ → ℕ
part_start c = held_limit * c

-- where packed byte k of command c stands: the held bytes are side by side at the front of its part, whatever the state is
abbrev pub location : State → ℕ → ℕ → ℕ
location s c k = part_start c + k

-- the store with the first n bytes of command c's part set to zero, and with all of the part
abbrev pub cleared : List ℕ → (c n : ℕ) → List ℕ
cleared store c n = overwrite store (part_start c) (replicate n 0)

abbrev pub zeroed : List ℕ → ℕ → List ℕ
zeroed store c = cleared store c held_limit

-- the store with a value for each address of these records packed in command c's part, in the order of the addresses; the places
-- behind them stay
abbrev pub packed : List ℕ → ℕ → List Record → (ℕ → ℕ) → List ℕ
packed store c rs value = overwrite store (part_start c) (map value (addresses rs))

-- the first n of the packed bytes of command c
abbrev pub packed_bytes : State → (store : List ℕ) → (c n : ℕ) → List ℕ
packed_bytes s store c n = map (λ k. get_or store (location s c k) 0) (span 0 n)

-- the byte of a window at an address, and of other bytes, the first of which has the address `base`
abbrev pub byte_at : List ℕ → ℕ → ℕ
byte_at window x = get_or window x 0

abbrev pub from : (base : ℕ) → List ℕ → ℕ → ℕ
from base bytes x = get_or bytes (x - base) 0

-- A byte as a command sees it. A held one comes from the store, from the place among the packed bytes that its address has; any other
-- comes from the source.
abbrev pub sees : List Record → (location : ℕ → ℕ) → (store : List ℕ) → (source : ℕ → ℕ) → ℕ → ℕ
sees rs location store source x = cond (held rs x) (get_or store (location (place rs x)) 0) (source x)

-- the value at each address once bytes are written from an address on: the written byte in their span, and elsewhere the other value
abbrev pub written : (a : ℕ) (bytes : List ℕ) → (other : ℕ → ℕ) → ℕ → ℕ
written a bytes other x = cond (in_span a (length bytes) x) (from a bytes x) (other x)
