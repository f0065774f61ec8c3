use Rattle.std.proofs.Common.{◌≡◌, ◌+◌, ◌-◌, ◌*◌, true, false, get_or, sym, refl, ap, ◌∙◌, arith, drop_of_length-le}
use Rattle.octets.specs.Lists.{all}
use Rattle.state.specs.State.{command_holds, holds, closed}
use Rattle.state.proofs.Walk.{command_fails, command_next}
use Rattle.state.specs.Words.{state_of}
use Rattle.words.proofs.StateWords.{commands_in, commands_size, command_at}
use Rattle.integrity.proofs.holds.Goals as goal

pub loop-c-init : goal.loop-c-init
unfolding holds state_of
loop-c-init c = refl

pub returns-then-not-command_holds : goal.returns-then-not-command_holds
returns-then-not-command_holds c =
    let words = c.args.state.now in
    let i = c.loop-c.c in
    let size : 129 * i + 129 - 129 * i ≡ 129 = omega arith in
    let own : command_holds (get_or (commands_in words) i closed) ≡ false
    = ap command_holds (command_at words i closed (omega arith)) ∙ rw size at (sym c.command_holds.ensures) ∙ c.if-not-command_holds.true in
    command_fails command_holds (commands_in words) i closed (omega (arith, commands_size words)) c.loop-c.invariant own

pub loop-c-preserved : goal.loop-c-preserved
loop-c-preserved c =
    let words = c.args.state.now in
    let i = c.loop-c.c in
    let size : 129 * i + 129 - 129 * i ≡ 129 = omega arith in
    let own : command_holds (get_or (commands_in words) i closed) ≡ true
    = ap command_holds (command_at words i closed (omega arith)) ∙ rw size at (sym c.command_holds.ensures) ∙ c.if-not-command_holds.false in
    command_next command_holds (commands_in words) i closed (omega (arith, commands_size words)) c.loop-c.invariant own

pub returns : goal.returns
returns c =
    let words = c.args.state.now in
    let none = drop_of_length-le (commands_in words) {i = c.loop-c.c} (omega (arith, commands_size words)) in
    sym (sym c.loop-c.invariant ∙ ap (all command_holds) none ∙ unfold all in refl)
