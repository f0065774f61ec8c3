-- The record that is asked for is none of the command's, or it stands in the command's words as it does among its records.
use Rattle.std.proofs.Common.{arith, ◌<◌, ◌≤◌, ap, sym, ◌∙◌, length, get_or}
use Rattle.std.proofs.lemmas.Bool.Decides.{nat_tests}
use lib.ListN.{length-take}
use lib.Seq.{get_or-take}
use Rattle.state.specs.State.{CommandState, no_record, records_in, records_of}
use Rattle.state.specs.Words.{command_in, state_of}
use Rattle.state.specs.Verdict.{verdict}
use Rattle.words.proofs.EntryWords.{entry_at}
use Rattle.words.proofs.StateWords.{lent, lent_command_lem}
use Rattle.cache.specs.Show.{show_says}
use Rattle.show.proofs.show.Goals as goal

pub returns-then-used-index : goal.returns-then-used-index
unfolding show_says verdict
returns-then-used-index c =
    let a = c.args in
    let own = lent_command_lem a.state.now a.command c.told-state (omega arith) in
    let many = c.used.ensures.0 ∙ ap (λ (p : CommandState). length (records_in p)) own in
    let none_left : length (records_of (state_of a.state.now) a.command) ≤ a.index = omega (arith, many) in
    grind (arith, nat_tests)

pub returns : goal.returns
unfolding show_says verdict
returns c =
    let a = c.args in
    let words = lent a.state.now a.command in
    let p = command_in words in
    let own = lent_command_lem a.state.now a.command c.told-state (omega arith) in
    let many = c.used.ensures.0 ∙ ap (λ (q : CommandState). length (records_in q)) own in
    let below : a.index < p.count = omega (arith, length-take p.count p.records) in
    let stands = c.entry.ensures ∙ sym (get_or-take p.count p.records a.index no_record below ∙ entry_at words a.index (omega arith)) in
    let found = stands ∙ ap (λ (q : CommandState). get_or (records_in q) a.index no_record) own in
    grind (arith, nat_tests)
