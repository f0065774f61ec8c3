-- The checks in their order: the first that fails decides, and then the unused entries.
use Rattle.std.proofs.Common.{◌≡◌, ℕ, ◌-◌, get_or, drop, sym, ap, ◌∙◌, arith, lt-ltb}
use Rattle.octets.specs.Lists.{all}
use Rattle.state.specs.State.{is_zero}
use Rattle.state.proofs.Commands.{no_records, too_many, records_fail, unused_decide}
use Rattle.state.specs.Words.{entries_in, command_in}
use Rattle.words.proofs.EntryWords.{used_is}
use Rattle.integrity.proofs.command_holds.Goals as goal

pub returns-then-word-le1 : goal.returns-then-word-le1
returns-then-word-le1 c =
    let ws = c.args.words.now in
    let none : get_or ws 0 0 - 1 ≡ 0 = omega arith in
    c.unused_zero.ensures ∙ ap (λ (k : ℕ). all is_zero (drop k (entries_in ws))) (sym none) ∙ sym (no_records (command_in ws) none)

pub returns-then-count-gt-RECORDS : goal.returns-then-count-gt-RECORDS
returns-then-count-gt-RECORDS c = sym (too_many (command_in c.args.words.now) (omega arith))

pub records_hold-requires : goal.records_hold-requires
records_hold-requires c =
    let count = used_is c.args.words.now in
    (omega arith, omega (arith, count), omega arith)

pub returns-then-not-records_hold : goal.returns-then-not-records_hold
returns-then-not-records_hold c =
    let ws = c.args.words.now in
    sym (records_fail (command_in ws) (sym c.records_hold.ensures ∙ c.if-not-records_hold.true))

pub returns : goal.returns
returns c =
    let ws = c.args.words.now in
    let count : c.from-word.result - 1 ≡ get_or ws 0 0 - 1 = omega arith in
    let kept = sym c.records_hold.ensures ∙ c.if-not-records_hold.false in
    c.unused_zero-2.ensures ∙ ap (λ (k : ℕ). all is_zero (drop k (entries_in ws))) count
    ∙ sym (unused_decide (command_in ws) (lt-ltb 0 (get_or ws 0 0) (omega arith)) (omega arith) kept)
