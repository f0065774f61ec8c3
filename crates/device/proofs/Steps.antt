-- A call made, put together from what its parts give.
use Prim.Native.Nat.{ℕ, ◌≤◌}
use native.Mathlib.Omega.{arith}
use mathlib.Core.Path.{◌≡◌, refl, ap, ◌∙◌}
use mathlib.Core.List.{List, []}
use mathlib.Core.Bool.{Bool, true, false, cond}
use lib.ListN.{length, take}
use Rattle.state.specs.State.{State}
use Rattle.state.specs.Verdict.{accepted}
use Rattle.cache.proofs.Accepted.{fetched}
use Rattle.cache.specs.Runs.{fetch, Machine, says, dest_after, delivers}
use Rattle.device.specs.Step.{Device}

-- devices of equal parts are equal
pub equal_devices :
    {state state' : State} {store store' window window' dest dest' : List ℕ} → state ≡ state' → store ≡ store' → window ≡ window' → dest ≡ dest'
    → ◌≡◌ {A = Device} (record { machine = record { state = state; store = store }; window = window; dest = dest })
    (record { machine = record { state = state'; store = store' }; window = window'; dest = dest' })
equal_devices s m w d = λ i. record { machine = record { state = s i; store = m i }; window = w i; dest = d i }

-- a fetch delivers the bytes that it asks for, or is refused
module _ (m : Machine) (c a n : ℕ) (dest window dest' : List ℕ) (k : ℕ) (count : k ≡ cond (accepted (says m (fetch c a n dest window))) n 0) where
  abbrev is_done : Bool
  is_done = accepted (says m (fetch c a n dest window))

  front : (b : Bool) (dest : List ℕ) → take (cond b n 0) dest ≡ cond b (take n dest) []
  front true dest = refl
  front false dest = refl

  -- they are the front of the destination after it
  pub fetch_delivers : dest' ≡ dest_after m (fetch c a n dest window) → take k dest' ≡ delivers m (fetch c a n dest window)
  fetch_delivers is = ap (λ (j : ℕ). take j dest') count ∙ ap (take (cond is_done n 0)) is ∙ front is_done (dest_after m (fetch c a n dest window))

  -- and there is room for them, since 10 does not apply
  pub fetch_within : length dest' ≡ length dest → k ≤ length dest'
  fetch_within same = go is_done refl count
    where
      go : (b : Bool) → is_done ≡ b → k ≡ cond b n 0 → k ≤ length dest'
      go true e is = omega (arith, (fetched m.state (length m.store) (length window) (length dest) c a n e).dest)
      go false e is = omega arith
