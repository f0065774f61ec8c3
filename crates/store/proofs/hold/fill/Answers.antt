-- Before each turn the joined record is filled from `top` on; behind the last the lowest stretch is left.
use Prim.Native.Nat.{ℕ, suc, ◌-◌, ◌<◌}
use native.Mathlib.Omega.{arith}
use mathlib.Core.Path.{◌≡◌, ap, sym, subst, ◌∙◌}
use mathlib.Core.List.{List}
use lib.ListN.{length, length-take}
use lib.Seq.{get_or-take}
use Rattle.state.specs.declared.Record.{Record}
use Rattle.state.specs.State.{no_record, records_in}
use Rattle.state.specs.declared.Meeting.{Meeting}
use Rattle.state.specs.Limits.{record_limit}
use Rattle.store.specs.Hold.{Fits}
use Rattle.state.specs.Words.{record_at, command_in}
use Rattle.words.proofs.EntryWords.{entry_at}
use Rattle.store.proofs.Filling.{Filling, Turn, filling_room, filling_start, filling_end, turn, last_inside}
use Rattle.store.proofs.hold.fill.Goals as goal

module _ (ws : List ℕ) (m : Meeting) (fresh base : ℕ) (l w : List ℕ) (fits : Fits (command_in ws) m fresh (length l) base (length w)) where
  abbrev rs : List Record
  rs = records_in (command_in ws)

  abbrev Before : (k gap old top : ℕ) → List ℕ → Type 0
  Before = Filling rs l base w m.first m.last m.low m.high

  turning : (k gap old top : ℕ) (bytes : List ℕ) → Before k gap old top bytes → m.first < k
      → (r : Record) → r ≡ record_at ws (k - 1) → (start len : ℕ) → start ≡ r.start → len ≡ r.len
      → Turn rs l base w m.first m.last m.low m.high (k - 1) gap old top bytes start len
  turning k gap old top bytes before more r read start len is-start is-len =
      let p = command_in ws in
      let inside : k - 1 < length rs = omega (arith, before.upto, fits.cut.most) in
      let short : k - 1 < p.count = omega (arith, inside, length-take p.count p.records) in
      let below : k - 1 < record_limit = omega (arith, inside, fits.few) in
      let is = read ∙ sym (get_or-take p.count p.records (k - 1) no_record short ∙ entry_at ws (k - 1) below) in
      let next : k ≡ suc (k - 1) = omega arith in
      turn rs l base w m fresh fits.cut fits.room (k - 1) inside gap old top bytes
      (subst (λ (n : ℕ). Before n gap old top bytes) next before) (omega arith) start len
      (is-start ∙ ap (λ (r : Record). r.start) is) (is-len ∙ ap (λ (r : Record). r.len) is)

  turned : (k gap old top : ℕ) (bytes : List ℕ) → Before k gap old top bytes → k ≡ m.first → Before m.first gap old top bytes
  turned k gap old top bytes before last = subst (λ (n : ℕ). Before n gap old top bytes) last before

pub overflow_add-old : goal.overflow_add-old
overflow_add-old c =
    let a = c.args in
    let l = a.part.now in
    let rs = records_in (command_in a.words.now) in
    let begun = filling_start rs l a.base a.source.now a.m a.fresh c.requires.1.cut c.requires.1.room in
    omega (arith, filling_room rs l a.base a.source.now a.m a.fresh c.requires.1.cut c.requires.1.room _ _ _ _ _ begun)

pub loop-k-init : goal.loop-k-init
loop-k-init c =
    let a = c.args in
    filling_start (records_in (command_in a.words.now)) a.part.now a.base a.source.now a.m a.fresh c.requires.1.cut c.requires.1.room

pub overflow_sub-gap : goal.overflow_sub-gap
overflow_sub-gap c =
    let a = c.args in
    let i = c.loop-k in
    let here = turning a.words.now a.m a.fresh a.base a.part.now a.source.now c.requires.1 i.k i.gap i.old i.top i.part i.invariant (omega arith)
    c.entry-r.result c.entry-r.ensures c.from-start.result c.from-len.result c.from-start.ensures c.from-len.ensures in
    here.ends

pub overflow_sub-gap-in-loop-k : goal.overflow_sub-gap-in-loop-k
overflow_sub-gap-in-loop-k c =
    let a = c.args in
    let i = c.loop-k in
    let here = turning a.words.now a.m a.fresh a.base a.part.now a.source.now c.requires.1 i.k i.gap i.old i.top i.part i.invariant (omega arith)
    c.entry-r.result c.entry-r.ensures c.from-start.result c.from-len.result c.from-start.ensures c.from-len.ensures in
    here.stretch

pub overflow_add-old-in-loop-k : goal.overflow_add-old-in-loop-k
overflow_add-old-in-loop-k c =
    let a = c.args in
    let i = c.loop-k in
    omega (
      arith,
      filling_room (records_in (command_in a.words.now)) a.part.now a.base a.source.now a.m a.fresh c.requires.1.cut c.requires.1.room
          i.k i.gap i.old i.top i.part i.invariant,
    )

pub read_host-requires : goal.read_host-requires
read_host-requires c =
    let a = c.args in
    let i = c.loop-k in
    let here = turning a.words.now a.m a.fresh a.base a.part.now a.source.now c.requires.1 i.k i.gap i.old i.top i.part i.invariant (omega arith)
    c.entry-r.result c.entry-r.ensures c.from-start.result c.from-len.result c.from-start.ensures c.from-len.ensures in
    here.inside

pub overflow_sub-old : goal.overflow_sub-old
overflow_sub-old c =
    let a = c.args in
    let i = c.loop-k in
    let here = turning a.words.now a.m a.fresh a.base a.part.now a.source.now c.requires.1 i.k i.gap i.old i.top i.part i.invariant (omega arith)
    c.entry-r.result c.entry-r.ensures c.from-start.result c.from-len.result c.from-start.ensures c.from-len.ensures in
    here.own

pub loop-k-preserved : goal.loop-k-preserved
loop-k-preserved c =
    let a = c.args in
    let i = c.loop-k in
    let here = turning a.words.now a.m a.fresh a.base a.part.now a.source.now c.requires.1 i.k i.gap i.old i.top i.part i.invariant (omega arith)
    c.entry-r.result c.entry-r.ensures c.from-start.result c.from-len.result c.from-start.ensures c.from-len.ensures in
    here.again c.read_host.new.part c.move_up.new.buffer c.read_host.ensures c.move_up.ensures

pub read_host-requires-2 : goal.read_host-requires-2
read_host-requires-2 c =
    let a = c.args in
    let i = c.loop-k in
    let none_left = turned a.words.now a.m a.fresh a.base a.part.now a.source.now c.requires.1 i.k i.gap i.old i.top i.part i.invariant (omega arith) in
    last_inside (records_in (command_in a.words.now)) a.part.now a.base a.source.now a.m a.fresh c.requires.1.cut c.requires.1.room
    i.gap i.old i.top i.part none_left

pub returns : goal.returns
returns c =
    let a = c.args in
    let i = c.loop-k in
    let none_left = turned a.words.now a.m a.fresh a.base a.part.now a.source.now c.requires.1 i.k i.gap i.old i.top i.part i.invariant (omega arith) in
    c.read_host-2.ensures
    ∙ filling_end (records_in (command_in a.words.now)) a.part.now a.base a.source.now a.m a.fresh c.requires.1.cut c.requires.1.room
    i.gap i.old i.top i.part none_left
