-- What holds between a machine and the events that led to it, and so which commands are open.
use Prim.Native.Nat.{ℕ, ◌<◌}
use native.Mathlib.Omega.{arith}
use mathlib.Core.Path.{◌≡◌, refl, ap, sym, ◌∙◌}
use mathlib.Core.List.{List, [], ◌∷◌}
use mathlib.Core.Bool.{Bool, true, false, cond}
use lib.Dec.{eqb}
use lib.ListN.{length}
use borrow.Author.Tests.{eqb-true, eqb-false}
use Rattle.octets.proofs.Lists.{get_d_same_lem}
use Rattle.state.specs.Limits.{command_limit}
use Rattle.state.specs.State.{CommandState, State, is_open, with_command, open_with, closed}
use Rattle.state.specs.Verdict.{accepted}
use Rattle.state.proofs.Commands.{command_same, command_other, eight}
use Rattle.cache.specs.Runs.{Call, begin, fetch, end, host_write, own_write, show, Machine, start, says, after, along, ran}
use Rattle.cache.proofs.Unchanged.{refused_same}
use Rattle.history.specs.Journal.{Event, event, backwards, deed_of}
use Rattle.history.specs.Firsts.{memory}
use Rattle.history.specs.Counts.{fresh_since}
use Rattle.history.specs.Stores.{Phase, running, finished, phase_by, phase}
use Rattle.history.specs.Answers.{is_running, open_since, OpenTold}
use Rattle.history.proofs.Effects.{grown, found, put, grown_into, begin_after, end_after, fetch_after, own_after, begin_fits, end_fits}
use Rattle.history.proofs.Effects.{Taken, fetch_taken, own_taken_lem, length_after}
use Rattle.history.proofs.Invariant.{Whole}
use Rattle.history.proofs.Sound.{Sound, sound_start, sound_after}
use Rattle.history.proofs.Counts.{Summed, summed_start, summed_after}

-- Open and closed: a call leaves a command open exactly if the search, one event further, finds it so.

opened_with : (s : State) (c : ℕ) (next : CommandState) (d : ℕ) → c < length s.commands
    → is_open (with_command s c next) d ≡ cond (eqb d c) next.opened (is_open s d)
opened_with s c next d h = go (eqb d c) refl
  where
    go : (b : Bool) → eqb d c ≡ b → is_open (with_command s c next) d ≡ cond b next.opened (is_open s d)
    go true e =
        ap (λ (k : ℕ). is_open (with_command s c next) k) (eqb-true d c e) ∙ ap (λ (p : CommandState). p.opened) (command_same s c next h)
    go false e = ap (λ (p : CommandState). p.opened) (command_other s c next d (eqb-false d c e))

-- a phase that a search finds, or else the one from further back
phase_found : (b : Bool) (here before : Phase) (o : Bool) → o ≡ is_running before → cond b (is_running here) o ≡ is_running (cond b here before)
phase_found true here before o is = refl
phase_found false here before o is = is

module _ (m : Machine) (d : ℕ) (before : Phase) (is : is_open m.state d ≡ is_running before) (W : Whole m.state) where
  abbrev opened_in : Machine → Bool
  opened_in k = is_open k.state d

  -- where the command takes the place of one in the state
  placed : (c : ℕ) (next : CommandState) → c < command_limit → is_open (with_command m.state c next) d ≡ cond (eqb d c) next.opened (is_open m.state d)
  placed c next h = opened_with m.state c next d (omega (arith, eight m.state W.shape))

  -- a span more leaves an open command open
  grown_open : {k : Machine} {w v : ℕ} (c a n : ℕ) (value : ℕ → ℕ) → k ≡ grown_into m c a n value → Taken m w v c a n → is_open k.state d ≡ is_running before
  grown_open c a n value grows F =
      ap opened_in grows ∙ placed c (open_with (grown m c a n)) F.command ∙ go F.opened (eqb d c) refl ∙ is
    where
      go : is_open m.state c ≡ true → (b : Bool) → eqb d c ≡ b → cond b true (is_open m.state d) ≡ is_open m.state d
      go o true q = sym (ap (is_open m.state) (eqb-true d c q) ∙ o)
      go o false q = refl

  opened_after : (p : Call) (b : Bool) → accepted (says m p) ≡ b → is_open (after m p).state d ≡ is_running (phase_by (deed_of b p) d before)
  unfolding phase_by
  opened_after p false e = ap opened_in (refused_same m p e) ∙ is
  opened_after (begin c) true e =
      ap opened_in (begin_after m c e) ∙ placed c (open_with []) (begin_fits m c e).command ∙ phase_found (eqb d c) running before (is_open m.state d) is
  opened_after (fetch c a n dest window) true e =
      grown_open c a n (found m c window) (fetch_after m c a n dest window e) (fetch_taken m c a n dest window e)
  opened_after (end c) true e =
      ap opened_in (end_after m c e) ∙ placed c closed (end_fits m c e).command ∙ phase_found (eqb d c) finished before (is_open m.state d) is
  opened_after (host_write a bytes window) true e = is
  opened_after (own_write c a bytes window) true e =
      grown_open c a (length bytes) (put m c a bytes) (own_after m c a bytes window e) (own_taken_lem m c a bytes window e)
  opened_after (show c i) true e = is

-- What holds between a machine and the events that led to it
pub record Tied (store_len : ℕ) (m : Machine) (past : List Event) : Type 0 where
  pub sound : Sound m (memory past)
  pub summed : Summed m (fresh_since past)
  pub opened : (c : ℕ) → is_open m.state c ≡ open_since past c
  pub size : length m.store ≡ store_len

pub tied_start : (store : List ℕ) → Tied (length store) (start store) []
unfolding phase
tied_start store = record {
  sound = sound_start store;
  summed = summed_start store;
  opened = λ c. ap (λ (p : CommandState). p.opened) (get_d_same_lem command_limit c closed);
  size = refl;
}

pub tied_after : (store_len : ℕ) (m : Machine) (past : List Event) (p : Call) → Tied store_len m past → Tied store_len (after m p) (event m p ∷ past)
unfolding memory fresh_since phase
tied_after store_len m past p T =
    let ok = accepted (says m p) in
    record {
      sound = sound_after m (memory past) p ok refl T.sound;
      summed = summed_after m (memory past) (fresh_since past) p ok refl T.sound T.summed;
      opened = λ d. opened_after m d (phase past d) (T.opened d) T.sound.state p ok refl;
      size = length_after m p ∙ T.size;
    }

pub tied_ran : (store_len : ℕ) (m : Machine) (past : List Event) (ps : List Call) → Tied store_len m past
    → Tied store_len (ran m ps) (backwards past (along event m ps))
unfolding ran along backwards
tied_ran store_len m past [] T = T
tied_ran store_len m past (p ∷ ps) T = tied_ran store_len (after m p) (event m p ∷ past) ps (tied_after store_len m past p T)

pub open_told : OpenTold
open_told store ps = (tied_ran (length store) (start store) [] ps (tied_start store)).opened
