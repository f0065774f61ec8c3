-- The loop's invariant: the bytes from k on stand in their new place, and all else is as it was.
use Prim.Native.Nat.{◌+◌, ◌-◌}
use mathlib.Core.Path.{◌≡◌}
use Rattle.octets.specs.Lists.{overwrite, part}
use Rattle.octets.proofs.shift.move_up.Given as goal

abbrev pub invariant-loop-k : goal.invariant-loop-k
invariant-loop-k l = l.buffer ≡ overwrite l.initial.buffer (l.to + l.k) (part l.initial.buffer (l.from + l.k) (l.n - l.k))
