-- In each case the entries stand where they are wanted, and then the union is written.
use native.Mathlib.Omega.{arith}
use Prim.Native.Nat.{ℕ, ◌+◌, min}
use mathlib.Core.Path.{◌≡◌, refl, subst}
use Rattle.state.specs.Limits.{record_limit}
use Rattle.join.specs.Splice.{MovedDown}
use Rattle.join.proofs.Splicing.{replaces_one, replaces_none, replaces_more}
use Rattle.join.proofs.splice.splice.Goals as goal

pub returns-then-last-first : goal.returns-then-last-first
returns-then-last-first c =
    let u = c.used-n in
    let s = c.seal in
    let words = c.args.words.now in
    (replaces_one words words s.new.words c.args.m c.requires.1 u.result u.ensures.0 s.ensures (omega arith) refl, omega arith)

pub returns-then-last-first-2 : goal.returns-then-last-first-2
returns-then-last-first-2 c =
    let u = c.used-n in
    let up = c.move_up in
    let s = c.seal-then-last-first-2 in
    let laid = replaces_none c.args.words.now up.new.words s.new.words c.args.m c.requires.1 u.result u.ensures.0 s.ensures in
    (laid (omega arith) (omega arith) (omega arith) up.ensures, omega arith)

pub returns : goal.returns
returns c =
    let u = c.used-n in
    let down = c.move_down in
    let s = c.seal-2 in
    let words = c.args.words.now in
    let m = c.args.m in
    let end : c.min-end.result ≡ min (u.result + 1) record_limit = omega arith in
    let moved = subst (λ (k : ℕ). MovedDown words (m.first + 1) m.last k down.new.words) end down.ensures in
    let laid = replaces_more words down.new.words s.new.words m c.requires.1 u.result u.ensures.0 s.ensures in
    (laid (omega arith) (omega arith) (omega arith) moved, omega arith)
