-- What is lent of the window is copied whole.
use Prim.Native.Nat.{◌-◌}
use native.Mathlib.Omega.{arith}
use mathlib.Core.Path.{ap, ◌∙◌}
use lib.ListN.{length}
use Rattle.octets.specs.Lists.{overwrite}
use Rattle.stretches.proofs.Taking.{lent_part}
use Rattle.stretches.proofs.take.read_host.Goals as goal

pub returns : goal.returns
returns c =
    let a = c.args in
    c.copy_at.ensures
    ∙ ap (overwrite a.values.now a.address) (lent_part a.window.now (length a.values.now - a.address) a.address a.n (omega arith))
