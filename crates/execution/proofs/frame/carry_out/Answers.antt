-- Unreadable, everything is as it was; else the step is made as a call.
use Rattle.state.proofs.Verdict.{says_of}
use Rattle.frames.specs.Read.{read_reply}
use Rattle.device.proofs.Frames.{carries_unreadable, carries_step}
use Rattle.execution.proofs.frame.carry_out.Goals as goal

pub returns-in-Err : goal.returns-in-Err
returns-in-Err c =
    let a = c.args in
    carries_unreadable a.state.now a.store.now a.window.now a.destination.now a.frame.now _
    (says_of read_reply c.read.ensures c.in-Err.is)

pub returns-in-Ok : goal.returns-in-Ok
returns-in-Ok c =
    let a = c.args in
    let parsed = c.in-Ok.parsed in
    carries_step _ a.frame.now parsed.consumed parsed.step
    (says_of read_reply c.read.ensures c.in-Ok.is) _ c.data-bytes.ensures c.letter.ensures c.make-made.ensures
