-- Of the two counts of a span the one is what the other leaves.
use Prim.Native.Nat.{◌+◌, ◌-◌}
use native.Mathlib.Omega.{arith}
use mathlib.Core.Path.{◌≡◌, sym}
use Rattle.bits.specs.Bits.{is_set}
use Rattle.mapfetch.proofs.Counting.{other_count}
use Rattle.mapfetch.proofs.judge.counted.Goals as goal

pub returns : goal.returns
returns c =
    let a = c.args in
    let size : a.address + a.size - a.address ≡ a.size = omega arith in
    let replayed = rw size at c.count_span-replayed.ensures in
    let fresh = other_count (is_set a.words.now) a.address a.size c.count_span-replayed.result replayed in
    record { fresh = sym fresh.0; replayed = replayed }

pub overflow_sub-result : goal.overflow_sub-result
overflow_sub-result c =
    let a = c.args in
    let size : a.address + a.size - a.address ≡ a.size = omega arith in
    (other_count (is_set a.words.now) a.address a.size c.count_span-replayed.result (rw size at c.count_span-replayed.ensures)).1
