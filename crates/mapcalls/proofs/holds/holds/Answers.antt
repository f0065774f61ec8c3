-- The three rules in their order: the first that is broken decides.
use mathlib.Core.Path.{sym, ◌∙◌}
use Rattle.bytemap.specs.Map.{holds}
use Rattle.mapcalls.proofs.holds.holds.Goals as goal

pub returns-then-not-open_or_empty : goal.returns-then-not-open_or_empty
unfolding holds
returns-then-not-open_or_empty c = rw (sym c.open_or_empty.ensures ∙ c.if-not-open_or_empty.true)

pub returns-then-not-clean : goal.returns-then-not-clean
unfolding holds
returns-then-not-clean c = rw (sym c.open_or_empty.ensures ∙ c.if-not-open_or_empty.false, sym c.clean.ensures ∙ c.if-not-clean.true)

pub returns : goal.returns
unfolding holds
returns c =
    rw (
      sym c.open_or_empty.ensures ∙ c.if-not-open_or_empty.false,
      sym c.clean.ensures ∙ c.if-not-clean.false,
      c.requires,
    )
