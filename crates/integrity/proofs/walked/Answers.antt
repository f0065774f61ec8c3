-- Each number is that of the definition; one record adds at most 65,535 to the sum.
use Rattle.std.proofs.Common.{Bool, ◌&&◌, ltb, leb, ap, ◌∙◌, ap₂, arith}
use Rattle.integrity.specs.Holds.{is_faultless}
use Rattle.integrity.proofs.Chain.{or_faultless}
use Rattle.integrity.proofs.walked.Goals as goal

pub returns : goal.returns
returns c =
    let start = c.from-start.ensures in
    let len = c.from-len.ensures in
    let w = c.args.w in
    record {
      faults =
          or_faultless w.faults c.fault.result
          ∙ ap (λ (b : Bool). is_faultless w.faults && b) (c.fault.ensures ∙ ap₂ (λ s l. leb w.low s && ltb 0 l) start len);
      low = omega (arith, start, len);
      sum = omega (arith, len);
      least = omega arith;
      most = omega arith;
    }
