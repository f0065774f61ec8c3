-- The words below the span and those behind it are as they would be with the span, and between them the walk puts the span's bits to them.
use Prim.Native.Nat.{ℕ, ◌+◌, ◌/◌}
use native.Mathlib.Omega.{arith}
use mathlib.Core.Path.{◌≡◌, sym}
use mathlib.Core.Bool.{Bool}
use lib.ListN.{get_or}
use Rattle.std.proofs.Common.{rules}
use Rattle.bits.specs.Walk.{Walked}
use Rattle.bits.proofs.Joined.{or-zero}
use Rattle.bits.proofs.Words.{Words}
use Rattle.bits.proofs.Spans.{either, kept_below, kept_behind}
use Rattle.bits.proofs.Starts.{walk_from, walk_small, walk_all}
use Rattle.bits.proofs.walk.runs_with.Goals as goal

pub walk_span-over-requires : goal.walk_span-over-requires
walk_span-over-requires c =
    let a = c.args in
    let words = a.words.now in
    let test : ℕ → Bool = either words a.low a.high in
    let known : Words words = record { size = c.told-words; small = c.fits-words } in
    let below : Walked test c.walk_on-below.result (a.low / 64) =
    c.walk_on-below.ensures words (λ j r h k e. let none : r ≡ 0 = search rules in rw none (sym (or-zero (get_or words j 0)))) test
    (λ j h i. kept_below words known a.low a.high (omega arith) j i) (walk_from test) in
    (omega arith, omega arith, walk_small below)

pub walk_on-w-requires-clause-within : goal.walk_on-w-requires-clause-within
walk_on-w-requires-clause-within c =
    let a = c.args in
    let words = a.words.now in
    let test : ℕ → Bool = either words a.low a.high in
    let known : Words words = record { size = c.told-words; small = c.fits-words } in
    let below : Walked test c.walk_on-below.result (a.low / 64) =
    c.walk_on-below.ensures words (λ j r h k e. let none : r ≡ 0 = search rules in rw none (sym (or-zero (get_or words j 0)))) test
    (λ j h i. kept_below words known a.low a.high (omega arith) j i) (walk_from test) in
    let over : Walked test c.walk_span-over.result ((a.high + 63) / 64) = c.walk_span-over.ensures below in
    (omega arith, omega arith, walk_small over)

pub returns : goal.returns
returns c =
    let a = c.args in
    let words = a.words.now in
    let test : ℕ → Bool = either words a.low a.high in
    let known : Words words = record { size = c.told-words; small = c.fits-words } in
    let below : Walked test c.walk_on-below.result (a.low / 64) =
    c.walk_on-below.ensures words (λ j r h k e. let none : r ≡ 0 = search rules in rw none (sym (or-zero (get_or words j 0)))) test
    (λ j h i. kept_below words known a.low a.high (omega arith) j i) (walk_from test) in
    let over : Walked test c.walk_span-over.result ((a.high + 63) / 64) = c.walk_span-over.ensures below in
    walk_all test c.walk_on-w.result
    (c.walk_on-w.ensures words (λ j r h k e. let none : r ≡ 0 = search rules in rw none (sym (or-zero (get_or words j 0)))) test
    (λ j h i. kept_behind words known a.low a.high (omega arith) j (omega arith)) over)
