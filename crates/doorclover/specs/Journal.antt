-- A journal run from the fresh state, as C calls it: its log, the figures of the reply, and what every buffer holds afterwards.
use Rattle.std.specs.Prelude.{ℕ, ◌≡◌, List, cond}
use Rattle.octets.specs.Lists.{count}
use Rattle.octets.specs.Text.{Puts}
use Rattle.device.specs.Step.{Device}
use Rattle.journal.specs.Run.{Entry, entries, journal_leaves, fresh_device, log_from, was_carried, was_refused, ends_early}
use Rattle.doorclover.specs.declared.run.Replayed.{Replayed}

module _ (input store window dest : List ℕ) where
  abbrev pub told : List Entry
  told = entries (fresh_device store window dest) input

  abbrev pub left : Device
  left = journal_leaves (fresh_device store window dest) input

pub record Replays (input store window dest out : List ℕ) (r : Replayed) (store' window' dest' out' : List ℕ) : Type 0 where
  pub log : Puts out 0 (log_from 1 (told input store window dest)) r.written out'
  pub carried : r.carried ≡ count was_carried (told input store window dest)
  pub refused : r.refused ≡ count was_refused (told input store window dest)
  pub early : r.early ≡ cond (ends_early (told input store window dest)) 1 0
  pub stored : store' ≡ (left input store window dest).machine.store
  pub host : window' ≡ (left input store window dest).window
  pub given : dest' ≡ (left input store window dest).dest
