use native.Mathlib.Omega.{arith}
use mathlib.Core.Path.{ap, sym, ◌∙◌}
use lib.Dec.{ltb}
use Rattle.state.specs.State.{CommandState}
use Rattle.words.proofs.StateWords.{command_of_lem, words_head}
use Rattle.words.proofs.command.is_open.Goals as goal

pub returns : goal.returns
returns c =
    ap (ltb 0) (sym (words_head c.args.state.now c.args.command))
    ∙ ap (λ (p : CommandState). p.opened) (sym (command_of_lem c.args.state.now c.args.command (omega arith)))
