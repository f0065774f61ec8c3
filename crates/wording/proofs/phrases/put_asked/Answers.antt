-- Each arm knows which case it is, so its words are the definition's at that case.
use mathlib.Core.Path.{◌≡◌, ap, sym}
use Rattle.text.proofs.Putting.{puts_is}
use Rattle.frames.specs.declared.Step.{Step}
use Rattle.wording.specs.Words.{asked}
use Rattle.wording.proofs.phrases.put_asked.Goals as goal

-- the words of a step that is known to be this case
of : {s case : Step} → s ≡ case → asked case ≡ asked s
of e = sym (ap asked e)

pub returns-in-Begin : goal.returns-in-Begin
returns-in-Begin c = puts_is c.put_act.ensures (of c.in-Begin.is)

pub returns-in-Fetch : goal.returns-in-Fetch
returns-in-Fetch c = puts_is c.put_access.ensures (of c.in-Fetch.is)

pub returns-in-End : goal.returns-in-End
returns-in-End c = puts_is c.put_act-in-End.ensures (of c.in-End.is)

pub returns-in-HostWrite : goal.returns-in-HostWrite
returns-in-HostWrite c = puts_is c.put_host_write.ensures (of c.in-HostWrite.is)

pub returns-in-OwnWrite : goal.returns-in-OwnWrite
returns-in-OwnWrite c = puts_is c.put_access-in-OwnWrite.ensures (of c.in-OwnWrite.is)
