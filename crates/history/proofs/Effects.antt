-- What each call does to a machine: nothing, or one command replaced.
use Prim.Native.Nat.{ℕ, zero, ◌≤◌}
use native.Mathlib.Omega.{arith}
use mathlib.Core.Path.{◌≡◌, refl, ap, ◌∙◌}
use mathlib.Core.List.{List, [], map}
use mathlib.Core.Bool.{Bool, true, false}
use lib.ListN.{length, replicate, length-map, length-replicate}
use borrow.Author.Tests.{eq-eqb}
use Rattle.state.specs.declared.Record.{Record}
use Rattle.state.specs.Limits.{held_limit, record_limit}
use Rattle.state.specs.Records.{total, addresses, joined}
use Rattle.state.specs.State.{CommandState, records_of, open_with, closed, ascending, command_holds}
use Rattle.state.specs.Verdict.{accepted}
use Rattle.state.proofs.Laws.{ascending_joined, total_joined, length_addresses}
use Rattle.state.proofs.Commands.{closed_holds, open_with_holds, length_open_with, kept}
use Rattle.store.specs.Store.{location, byte_at, from, sees, written}
use Rattle.cache.specs.Begin.{begin_state, begin_store}
use Rattle.cache.specs.Fetch.{fetch_state, fetch_store}
use Rattle.cache.specs.End.{end_state, end_store}
use Rattle.cache.specs.OwnWrite.{own_state, own_store}
use Rattle.cache.proofs.Accepted.{Ready, begun, ended, Fetched, fetched, own_fetched}
use Rattle.cache.specs.Runs.{Call, begin, fetch, end, host_write, own_write, show, Machine, says, store_after, after}
use Rattle.cache.proofs.Unchanged.{refused_same}
use Rattle.history.specs.Claims.{may_change}
use Rattle.history.proofs.Replaced.{replaced, Fits, length_replaced}

-- a command's records before a span is held and after, and the bytes that it then holds, by the value at each address
abbrev pub old : Machine → ℕ → List Record
old m c = records_of m.state c

abbrev pub grown : Machine → (c a n : ℕ) → List Record
grown m c a n = joined (old m c) a n

abbrev pub packed : Machine → (c a n : ℕ) → (ℕ → ℕ) → List ℕ
packed m c a n value = map value (addresses (grown m c a n))

-- the values that a fetch finds, and those that an own write leaves
abbrev pub found : Machine → (c : ℕ) (window : List ℕ) → ℕ → ℕ
found m c window = sees (old m c) (location m.state c) m.store (byte_at window)

abbrev pub put : Machine → (c a : ℕ) (bytes : List ℕ) → ℕ → ℕ
put m c a bytes = written a bytes (sees (old m c) (location m.state c) m.store (from a bytes))

-- a machine whose command c holds a span more
abbrev pub grown_into : Machine → (c a n : ℕ) → (ℕ → ℕ) → Machine
grown_into m c a n value = replaced m c (open_with (grown m c a n)) (packed m c a n value)

abbrev pub zeros : List ℕ
zeros = replicate held_limit 0

module _ (m : Machine) (c : ℕ) where
  pub begin_after : accepted (says m (begin c)) ≡ true → after m (begin c) ≡ replaced m c (open_with []) zeros
  unfolding begin_state begin_store
  begin_after e = rw e

  pub end_after : accepted (says m (end c)) ≡ true → after m (end c) ≡ replaced m c closed zeros
  unfolding end_state end_store
  end_after e = rw e

  pub fetch_after :
      (a n : ℕ) (dest window : List ℕ) → accepted (says m (fetch c a n dest window)) ≡ true
      → after m (fetch c a n dest window) ≡ grown_into m c a n (found m c window)
  unfolding fetch_state fetch_store
  fetch_after a n dest window e = rw e

  pub own_after :
      (a : ℕ) (bytes window : List ℕ) → accepted (says m (own_write c a bytes window)) ≡ true
      → after m (own_write c a bytes window) ≡ grown_into m c a (length bytes) (put m c a bytes)
  unfolding own_state own_store
  own_after a bytes window e = rw e

-- Each replacement fits.

module _ (m : Machine) (c : ℕ) (R : Ready m.state (length m.store) c) (next : CommandState)
    (h : command_holds next ≡ true) (k : length next.records ≡ record_limit) where
  zeros_fit : Fits m c next zeros
  zeros_fit = record {
    command = R.command;
    size = R.size;
    small = omega (arith, length-replicate held_limit zero);
    whole = R.whole;
    sound = h;
    shaped = k;
  }

pub begin_fits : (m : Machine) (c : ℕ) → accepted (says m (begin c)) ≡ true → Fits m c (open_with []) zeros
unfolding ascending total
begin_fits m c e =
    zeros_fit m c (begun m.state (length m.store) c e) (open_with [])
    (open_with_holds [] (omega arith) refl (omega arith)) (length_open_with [] (omega arith))

pub end_fits : (m : Machine) (c : ℕ) → accepted (says m (end c)) ≡ true → Fits m c closed zeros
end_fits m c e = zeros_fit m c (ended m.state (length m.store) c e) closed closed_holds refl

-- what an accepted fetch and an accepted own write have seen to
abbrev pub Taken : Machine → (window_len dest_len c a n : ℕ) → Type 0
Taken m window_len dest_len c a n = Fetched m.state (length m.store) window_len dest_len c a n

pub fetch_taken : (m : Machine) (c a n : ℕ) (dest window : List ℕ) → accepted (says m (fetch c a n dest window)) ≡ true
    → Taken m (length window) (length dest) c a n
fetch_taken m c a n dest window e = fetched m.state (length m.store) (length window) (length dest) c a n e

pub own_taken_lem : (m : Machine) (c a : ℕ) (bytes window : List ℕ) → accepted (says m (own_write c a bytes window)) ≡ true
    → Taken m (length window) (length bytes) c a (length bytes)
own_taken_lem m c a bytes window e = own_fetched m.state (length m.store) (length window) c a (length bytes) e

module _ (m : Machine) {w d : ℕ} (c a n : ℕ) (value : ℕ → ℕ) (F : Taken m w d c a n) where
  pub total_grown : total (grown m c a n) ≤ held_limit
  total_grown = omega (arith, F.room, total_joined (old m c) a n (kept m.state c F.whole).up)

  pub ascending_grown : ascending 0 (grown m c a n) ≡ true
  ascending_grown = ascending_joined (old m c) a n (kept m.state c F.whole).up (omega (arith, F.inside, F.low))

  pub length_packed : length (packed m c a n value) ≡ total (grown m c a n)
  length_packed = simp (length-map, length_addresses)

  pub packed_fits : Fits m c (open_with (grown m c a n)) (packed m c a n value)
  packed_fits = record {
    command = F.command;
    size = F.size;
    small = omega (arith, length_packed, total_grown);
    whole = F.whole;
    sound = open_with_holds (grown m c a n) F.few ascending_grown total_grown;
    shaped = length_open_with (grown m c a n) F.few;
  }

-- Every call

pub data Effect (m : Machine) (p : Call) : Type 0 where
  nothing : after m p ≡ m → Effect m p
  replaces :
      (c : ℕ) (next : CommandState) (bytes : List ℕ) → may_change p c ≡ true → Fits m c next bytes
      → after m p ≡ replaced m c next bytes → Effect m p

pub effect : (m : Machine) (p : Call) → Effect m p
effect m p = go p (accepted (says m p)) refl
  where
    go : (q : Call) (b : Bool) → accepted (says m q) ≡ b → Effect m q
    go q false e = nothing (refused_same m q e)
    go (begin c) true e = replaces c (open_with []) zeros (eq-eqb c c refl) (begin_fits m c e) (begin_after m c e)
    go (fetch c a n dest window) true e =
        replaces c (open_with (grown m c a n)) (packed m c a n (found m c window)) (eq-eqb c c refl)
        (packed_fits m c a n (found m c window) (fetch_taken m c a n dest window e))
        (fetch_after m c a n dest window e)
    go (end c) true e = replaces c closed zeros (eq-eqb c c refl) (end_fits m c e) (end_after m c e)
    go (host_write a bytes window) true e = nothing refl
    go (own_write c a bytes window) true e =
        replaces c (open_with (grown m c a (length bytes))) (packed m c a (length bytes) (put m c a bytes)) (eq-eqb c c refl)
        (packed_fits m c a (length bytes) (put m c a bytes) (own_taken_lem m c a bytes window e))
        (own_after m c a bytes window e)
    go (show c i) true e = nothing refl

-- no call changes the length of the store
pub length_after : (m : Machine) (p : Call) → length (store_after m p) ≡ length m.store
length_after m p = go (effect m p)
  where
    go : Effect m p → length (store_after m p) ≡ length m.store
    go (nothing e) = ap (λ (k : Machine). length k.store) e
    go (replaces c next bytes h F e) = ap (λ (k : Machine). length k.store) e ∙ length_replaced F
