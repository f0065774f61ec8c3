-- The difference is compared where it exists.
use Prim.Native.Nat.{suc, ◌+◌, ◌-◌}
use native.Mathlib.Omega.{arith}
use mathlib.Core.Path.{sym}
use borrow.Author.Tests.{lt-ltb}
use Rattle.state.proofs.Cases.{leb_same}
use Rattle.state.proofs.range.outside.Goals as goal

pub returns-then-window_len-size : goal.returns-then-window_len-size
returns-then-window_len-size c = sym (lt-ltb c.args.window_len (c.args.address + c.args.size) (omega arith))

pub returns : goal.returns
returns c = leb_same (suc (c.args.window_len - c.args.size)) c.args.address (suc c.args.window_len) (c.args.address + c.args.size) (λ h. omega arith) (λ h. omega arith)
