-- All words are zero, and the first is 1 or 0.
use Rattle.std.proofs.Common.{◌≡◌, ℕ, Bool, true, false, set, replicate, refl, ap, ◌∙◌}
use Rattle.std.specs.Int.{from_bool}
use Rattle.state.specs.State.{empty}
use Rattle.state.specs.Records.{span}
use Rattle.state.specs.Words.{command_in, entries_in}
use Rattle.words.proofs.command.reset.Goals as goal

nothing : (opened : Bool) → command_in (set (replicate 129 0) 0 (from_bool opened)) ≡ empty opened
unfolding entries_in span
nothing true = refl
nothing false = refl

pub returns : goal.returns
returns c =
    let zeros : c.fill.new.self ≡ replicate 129 0 = c.fill.ensures.after (λ y same. same) ∙ ap (λ (n : ℕ). replicate n 0) c.requires in
    rw (zeros, c.from.ensures) (nothing c.args.opened, refl)
