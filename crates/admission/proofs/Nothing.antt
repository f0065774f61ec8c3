-- A span of no bytes: records and store are already what joining it would leave.
use Prim.Native.Nat.{ℕ, ◌+◌, ◌≤◌}
use native.Mathlib.Omega.{arith}
use mathlib.Core.Path.{◌≡◌, sym}
use mathlib.Core.List.{List}
use lib.ListN.{length, length-take}
use Rattle.state.specs.declared.Record.{Record}
use Rattle.state.specs.Limits.{record_limit, held_limit}
use Rattle.state.specs.Records.{span, total, count_fresh, fresh, joined}
use Rattle.state.specs.State.{State, command_of, records_of, open_with, with_command}
use Rattle.state.specs.Words.{state_of}
use Rattle.state.proofs.Commands.{Kept, kept, command_kept, open_with_own}
use Rattle.words.proofs.StateWords.{shape_of}
use Rattle.store.specs.Store.{location, packed, sees}
use Rattle.store.proofs.Parts.{own_bytes}
use Rattle.admission.proofs.Admitted.{Admits}

module _ (words store : List ℕ) (window_len room c a : ℕ) (A : Admits (state_of words) (length store) window_len room c a 0) where
  abbrev s : State
  s = state_of words

  abbrev rs : List Record
  rs = records_of s c

  K : Kept (command_of s c)
  K = kept s c A.whole

  pub nothing_joined : s ≡ with_command s c (open_with (joined rs a 0))
  unfolding joined
  nothing_joined = sym (command_kept s c (open_with rs) (open_with_own s c (shape_of words) A.whole A.opened))

  pub nothing_held : (source : ℕ → ℕ) → packed store c (joined rs a 0) (sees rs (location s c) store source) ≡ store
  unfolding joined
  nothing_held source = own_bytes rs c store source K.up (omega (arith, K.small, A.command, A.size))

  pub nothing_new : total rs + fresh rs a 0 ≤ held_limit
  unfolding span count_fresh
  nothing_new = omega (arith, K.small)

  pub nothing_added : length (joined rs a 0) ≤ record_limit
  unfolding joined
  nothing_added = omega (arith, K.few, length-take (command_of s c).count (command_of s c).records)
