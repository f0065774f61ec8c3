-- A command replaced, and bytes written to the front of its part of the store: this is all that any call does to a machine.
use Prim.Native.Nat.{ℕ, ◌+◌, ◌<◌, ◌≤◌}
use native.Mathlib.Omega.{arith}
use mathlib.Core.Path.{◌≡◌, refl}
use mathlib.Core.Logic.{◌≢◌}
use mathlib.Core.List.{List}
use mathlib.Core.Bool.{Bool, true, false}
use lib.Dec.{ltb}
use lib.ListN.{length, get_or}
use borrow.Author.Tests.{ltb-true, ltb-false}
use Rattle.octets.specs.Lists.{overwrite}
use Rattle.octets.proofs.Overwrite.{length_overwrite, overwrite_below, overwrite_above, part_beside}
use Rattle.state.specs.Limits.{command_limit, record_limit, held_limit, store_size}
use Rattle.state.specs.State.{CommandState, with_command, command_holds, holds}
use Rattle.store.specs.Store.{part_start}
use Rattle.cache.specs.Runs.{Machine}
use Rattle.history.specs.Claims.{part_in}

abbrev pub replaced : Machine → ℕ → CommandState → List ℕ → Machine
replaced m c next bytes = record { state = with_command m.state c next; store = overwrite m.store (part_start c) bytes }

-- what every such call has seen to
pub record Fits (m : Machine) (c : ℕ) (next : CommandState) (bytes : List ℕ) : Type 0 where
  pub command : c < command_limit
  pub size : length m.store ≡ store_size
  pub small : length bytes ≤ held_limit
  pub whole : holds m.state ≡ true
  pub sound : command_holds next ≡ true
  pub shaped : length next.records ≡ record_limit

module _ {m : Machine} {c : ℕ} {next : CommandState} {bytes : List ℕ} (F : Fits m c next bytes) where
  inside : part_start c + length bytes ≤ length m.store
  inside = omega arith

  pub length_replaced : length (replaced m c next bytes).store ≡ length m.store
  length_replaced = length_overwrite m.store bytes (part_start c) inside

  -- the other commands' parts stay
  pub byte_other : (d i : ℕ) → d ≢ c → i < held_limit → get_or (replaced m c next bytes).store (part_start d + i) 0 ≡ get_or m.store (part_start d + i) 0
  byte_other d i apart h = go (ltb d c) refl
    where
      go : (b : Bool) → ltb d c ≡ b → get_or (replaced m c next bytes).store (part_start d + i) 0 ≡ get_or m.store (part_start d + i) 0
      go true e = overwrite_below m.store bytes (part_start c) inside (part_start d + i) 0 (omega (arith, ltb-true))
      go false e = overwrite_above m.store bytes (part_start c) inside (part_start d + i) 0 (omega (arith, ltb-false))

  pub part_other : (d : ℕ) → d ≢ c → part_in (replaced m c next bytes) d ≡ part_in m d
  part_other d apart = part_beside m.store bytes (part_start c) inside (part_start d) held_limit (λ i h. byte_other d i apart h)
