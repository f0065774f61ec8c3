use native.Mathlib.Omega.{arith}
use mathlib.Core.Path.{◌≡◌, ap, ◌∙◌}
use lib.ListN.{drop}
use lib.Seq.{drop-drop}
use Rattle.scan.specs.Scan.{word_end}
use Rattle.expect.specs.Expect.{words_of}
use Rattle.scan.proofs.Scanning.{word_end_most}
use Rattle.expect.proofs.Words.{others_behind}
use Rattle.expect.proofs.behind.Goals as goal

pub loop-preserved : goal.loop-preserved
loop-preserved c =
    let text = c.args.text.now in
    let end : c.until-at.result ≡ word_end text c.loop.at = rw (← c.until.ensures) c.until-at.ensures in (
      rw end (word_end_most text c.loop.at c.loop.invariant.0),
      rw end (others_behind text c.loop.at ∙ ap (drop 1) c.loop.invariant.1 ∙ drop-drop 1 c.loop.counter (words_of text)),
    )

pub returns : goal.returns
returns c = let all : c.loop.counter ≡ c.args.n = omega arith in record { inside = c.loop.invariant.0; rest = rw (← all) c.loop.invariant.1 }
