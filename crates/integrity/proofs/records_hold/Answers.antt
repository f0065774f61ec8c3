use Rattle.std.proofs.Common.{◌≡◌, ℕ, suc, ◌+◌, ◌<◌, ◌≤◌, ◌&&◌, leb, List, [], length, get_or, drop, sym, ap, ◌∙◌, subst, add-zero, add_assoc, arith, le-ltb, lt-ltb, le-leb}
use mathlib.Core.Bool.{and-true, and_assoc}
use borrow.Author.Tests.{lt-leb}
use Rattle.state.specs.declared.Record.{Record}
use Rattle.state.specs.Limits.{held_limit, window_limit}
use Rattle.state.specs.Records.{total}
use Rattle.state.specs.State.{no_record, records_in, ascending}
use Rattle.state.specs.Words.{command_in}
use Rattle.state.proofs.Walk.{at_next, no_record_lem}
use Rattle.integrity.specs.declared.Walk.{Walk}
use Rattle.integrity.specs.Holds.{is_faultless, Walked}
use Rattle.words.proofs.EntryWords.{entry_at}
use Rattle.integrity.proofs.Chain.{chained, chain_low, kept_by}
use Rattle.integrity.proofs.records_hold.Goals as goal

-- where no record is left, what was found is what all records give
told : (words : List ℕ) (i : ℕ) (w : Walk) → length (records_in (command_in words)) ≤ i
    → (is_faultless w.faults && chained w.low (drop i (records_in (command_in words)))) ≡ chained 0 (records_in (command_in words))
    → chain_low w.low (drop i (records_in (command_in words))) ≡ chain_low 0 (records_in (command_in words))
    → w.sum + total (drop i (records_in (command_in words))) ≡ total (records_in (command_in words))
    → (is_faultless w.faults && leb w.low (suc window_limit) && leb w.sum held_limit)
    ≡ (ascending 0 (records_in (command_in words)) && leb (total (records_in (command_in words))) held_limit)
unfolding chained chain_low total
told words i w all chain low sum =
    let rs : List Record = records_in (command_in words) in
    let none : drop i rs ≡ [] = no_record_lem (command_in words) i all in
    let chain_is = sym (and-true (is_faultless w.faults)) ∙ ap (λ (l : List Record). is_faultless w.faults && chained w.low l) (sym none) ∙ chain in
    let low_is = ap (chain_low w.low) (sym none) ∙ low in
    let sum_is = sym (add-zero w.sum) ∙ ap (λ (l : List Record). w.sum + total l) (sym none) ∙ sum in
    kept_by rs (is_faultless w.faults) w.low w.sum chain_is low_is sum_is

pub loop-i-preserved : goal.loop-i-preserved
unfolding chained chain_low total
loop-i-preserved c =
    let words = c.args.words.now in
    let p = command_in words in
    let i = c.loop-i.i in
    let w = c.loop-i.w in
    let r = get_or p.records i no_record in
    let is = c.entry.ensures ∙ sym (entry_at words i (omega arith)) in
    let W = subst (λ (r : Record). Walked w r c.walked-w.result) is c.walked-w.ensures in
    let more : i < length (records_in p) = omega arith in
    let chain_left = at_next p i more (λ (rs : List Record). is_faultless w.faults && chained w.low rs) c.loop-i.invariant.0 in
    let sum_left = at_next p i more (λ (rs : List Record). w.sum + total rs) c.loop-i.invariant.2 in (
      rw (W.faults, W.low, and_assoc) chain_left,
      rw W.low (at_next p i more (chain_low w.low) c.loop-i.invariant.1),
      rw (W.sum, add_assoc) sum_left,
      record { low = W.least; sum = omega (arith, W.most) },
    )

pub returns-then-w-ge2147483648 : goal.returns-then-w-ge2147483648
returns-then-w-ge2147483648 c =
    let w = c.loop-i.w in
    let v = c.loop-i.invariant in
    rw (le-ltb w.faults 2147483648 (omega arith)) at (told c.args.words.now c.loop-i.i w (omega arith) v.0 v.1 v.2)

pub returns-then-w : goal.returns-then-w
returns-then-w c =
    let w = c.loop-i.w in
    let v = c.loop-i.invariant in
    rw (lt-ltb w.faults 2147483648 (omega arith), lt-leb w.low (suc window_limit) (omega arith)) at (told c.args.words.now c.loop-i.i w (omega arith) v.0 v.1 v.2)

pub returns : goal.returns
returns c =
    let w = c.loop-i.w in
    let v = c.loop-i.invariant in
    rw (lt-ltb w.faults 2147483648 (omega arith), le-leb w.low (suc window_limit) (omega arith)) at (told c.args.words.now c.loop-i.i w (omega arith) v.0 v.1 v.2)
