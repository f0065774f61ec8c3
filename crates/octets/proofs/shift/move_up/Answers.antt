use Prim.Native.Nat.{ℕ, suc, ◌+◌, ◌-◌, ◌≤◌, ◌<◌, min}
use native.Mathlib.Nat.{add-zero, sub-zero}
use native.Mathlib.Omega.{arith}
use mathlib.Core.Path.{◌≡◌, ap, sym, ◌∙◌}
use mathlib.Core.List.{List}
use lib.ListN.{length, get_or, set, length-take, length-drop}
use lib.Seq.{drop-cons}
use Rattle.octets.specs.Lists.{overwrite, part}
use Rattle.octets.proofs.Overwrite.{overwrite_same, overwrite_none, overwrite_below, overwrite_more}
use Rattle.octets.proofs.shift.move_up.Goals as goal

-- where the lowest byte has no room, nothing moves
no_room :
    (buffer : List ℕ) (from count by : ℕ) → length buffer ≤ from + by
    → buffer ≡ overwrite buffer (from + by) (part buffer from (min count (length buffer - (from + by))))
no_room buffer from count by past =
    let none : min count (length buffer - (from + by)) ≡ 0 = omega arith in
    rw none (sym (overwrite_none buffer (from + by)))

-- by no place, the bytes are written over themselves
same_place :
    (buffer : List ℕ) (from count by : ℕ) → from ≤ length buffer → by ≡ 0
    → buffer ≡ overwrite buffer (from + by) (part buffer from (min count (length buffer - (from + by))))
same_place buffer from count by inside none =
    let at : from + by ≡ from = omega arith in
    rw at (sym (overwrite_same buffer from (min count (length buffer - from)) (omega arith)))

-- a turn's store: the byte that it reads is as it was at entry, and goes just before those that have moved
module _ (buffer : List ℕ) (from to k n : ℕ) (up : from ≤ to) (room : to + n ≤ length buffer) (some : 0 < k) (within : k ≤ n) where
  abbrev moved : ℕ → List ℕ
  moved j = overwrite buffer (to + j) (part buffer (from + j) (n - j))

  read : get_or (moved k) (from + (k - 1)) 0 ≡ get_or buffer (from + (k - 1)) 0
  read =
      let size : length (part buffer (from + k) (n - k)) ≡ n - k = simp (length-take, length-drop) (omega arith) in
      overwrite_below buffer (part buffer (from + k) (n - k)) (to + k) (rw size (omega arith)) (from + (k - 1)) 0 (omega arith)

  store : set (moved k) (to + (k - 1)) (get_or (moved k) (from + (k - 1)) 0) ≡ moved (k - 1)
  store =
      let to' : to + k ≡ suc (to + (k - 1)) = omega arith in
      let from' : from + k ≡ suc (from + (k - 1)) = omega arith in
      let count' : n - (k - 1) ≡ suc (n - k) = omega arith in
      rw (read, to', from', count', drop-cons buffer (from + (k - 1)) 0 (omega arith))
      (overwrite_more buffer (part buffer (suc (from + (k - 1))) (n - k)) (to + (k - 1)) (get_or buffer (from + (k - 1)) 0) (omega arith))

both_off : (n a b : ℕ) → n - a - b ≡ n - (a + b)
both_off n a b = omega arith

pub returns-then-buffer-from : goal.returns-then-buffer-from
returns-then-buffer-from c =
    let args = c.args in
    no_room args.buffer.now args.from args.count args.by (omega arith)

pub returns-then-by-eq0 : goal.returns-then-by-eq0
returns-then-by-eq0 c =
    let args = c.args in
    same_place args.buffer.now args.from args.count args.by (omega arith) (omega arith)

pub returns-then-above-by : goal.returns-then-above-by
returns-then-above-by c =
    let args = c.args in
    no_room args.buffer.now args.from args.count args.by (omega arith)

pub loop-k-init : goal.loop-k-init
loop-k-init c =
    let args = c.args in
    let n = c.min-n.result in
    let none : n - n ≡ 0 = omega arith in
    rw none (sym (overwrite_none args.buffer.now (args.from + args.by + n)))

pub loop-k-preserved : goal.loop-k-preserved
loop-k-preserved c =
    let args = c.args in
    rw c.loop-k.invariant
    (store args.buffer.now args.from (args.from + args.by) c.loop-k.k c.min-n.result (omega arith) (omega arith) (omega arith) (omega arith))

pub returns : goal.returns
returns c =
    let args = c.args in
    let none : c.loop-k.k ≡ 0 = omega arith in
    let most : c.min-n.result ≡ min args.count (length args.buffer.now - (args.from + args.by)) =
    c.min-n.ensures ∙ ap (λ (n : ℕ). min args.count n) (both_off (length args.buffer.now) args.from args.by) in
    rw (c.loop-k.invariant, none) (simp (add-zero, sub-zero, most))
