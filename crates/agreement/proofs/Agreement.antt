-- The byte map and the record engine agree on every list of calls of one command.
use Prim.Native.Nat.{ℕ, ◌<◌}
use mathlib.Core.Path.{◌≡◌, refl, ap, ap₂, sym, fun_ext, ◌∙◌}
use mathlib.Core.List.{List, [], ◌∷◌, map}
use mathlib.Core.Bool.{Bool, true, false, ◌&&◌, ◌||◌}
use lib.Dec.{leb, eqb}
use lib.ListN.{length, take, drop}
use borrow.Author.Tests.{eqb-true}
use Rattle.octets.specs.Lists.{all}
use Rattle.octets.proofs.Lists.{and_left, and_right}
use Rattle.state.specs.Limits.{command_limit, record_limit, held_limit, store_size}
use Rattle.state.specs.Records.{held, total}
use Rattle.state.specs.Runs.{runs}
use Rattle.state.specs.State.{State, command_of, records_in, records_of, is_open, holds, command_holds, ascending, is_zero}
use Rattle.state.specs.Verdict.{without_looked}
use Rattle.state.proofs.Commands.{kept, each_holds}
use Rattle.state.proofs.Runs.{records_runs}
use Rattle.bits.specs.Bits.{map_limit}
use Rattle.bits.proofs.Counts.{count_none}
use Rattle.bytemap.specs.Map.{Map, is_held, held_count, runs_of, fresh, is_open as isMapOpen}
use Rattle.bytemap.specs.Runs as bytemap
use Rattle.cache.specs.Runs.{Call, Machine, start, along, ran, says, after, delivers, dest_after, window_after}
use Rattle.history.specs.Firsts.{memory, held_since}
use Rattle.history.specs.Stores.{phase}
use Rattle.history.specs.Answers.{open_since}
use Rattle.history.proofs.Stored.{memory_held, held_known}
use Rattle.history.proofs.Tied.{tied_start}
use Rattle.history.proofs.Answers.{total_told}
use Rattle.agreement.specs.Agreement.{as_command, is_small, Agreement}
use Rattle.agreement.proofs.Spans.{runs_none}
use Rattle.agreement.proofs.Follows.{cleared_follows}
use Rattle.agreement.proofs.Beside.{Beside, held_count_lem, runs_here, answer_same}
use Rattle.agreement.proofs.After.{dest_same, window_same, delivered_same, beside_after}

-- a closed command has no records
closed_empty : (s : State) (c : ℕ) → holds s ≡ true → is_open s c ≡ false → records_of s c ≡ []
unfolding command_holds
closed_empty s c h closed =
    let p = command_of s c in
    let none : (p.opened || eqb p.count 0) ≡ true =
    and_right
    (leb p.count record_limit && ascending 0 (records_in p) && leb (total (records_in p)) held_limit && all is_zero (drop p.count p.records))
    (p.opened || eqb p.count 0) (each_holds s c h) in
    ap (λ (k : ℕ). take k p.records) (eqb-true p.count 0 (rw closed at none))

-- What the two hold, one beside the other

record SameHeld (c : ℕ) (m : Map) (j : Machine) : Type 0 where
  records : runs_of m ≡ records_of j.state c
  bytes : held_count m ≡ total (records_of j.state c)

module _ {c : ℕ} {m : Map} {j : Machine} (B : Beside c m j) where
  opened_same : isMapOpen m ≡ is_open j.state c
  opened_same = B.follows.same ∙ sym (B.tied.opened c)

  -- the records of an open command are the runs of what it has fetched or written, and so are those of the map
  same_held_open : open_since B.past c ≡ true → SameHeld c m j
  same_held_open o =
      let past = B.past in
      let rs = records_of j.state c in
      let opened = B.tied.opened c ∙ o in
      let held_told : held rs ≡ held_since past c = fun_ext λ x. held_known j (memory past) B.tied.sound c opened x ∙ memory_held past c x in
      record {
        records = sym (records_runs rs (kept j.state c B.tied.sound.state.whole).up ∙ ap runs held_told ∙ runs_here B o);
        bytes = B.follows.ones ∙ sym (total_told B.tied c opened ∙ held_count_lem B o);
      }

  -- closed, neither holds anything
  same_held_closed : open_since B.past c ≡ false → SameHeld c m j
  unfolding total
  same_held_closed o =
      let empty = closed_empty j.state c B.tied.sound.state.whole (B.tied.opened c ∙ o) in
      let none_held : (x : ℕ) → is_held m x ≡ false = λ x. B.follows.held x ∙ rw o in
      record {
        records = rw empty (runs_none (is_held m) 0 map_limit (λ x h. none_held x));
        bytes = rw empty (B.follows.ones ∙ count_none (is_held m) 0 map_limit (λ x h k. none_held x));
      }

  same_held : SameHeld c m j
  same_held = go (open_since B.past c) refl
    where
      go : (b : Bool) → open_since B.past c ≡ b → SameHeld c m j
      go true o = same_held_open o
      go false o = same_held_closed o

-- Lists of calls

module _ (c : ℕ) (low : c < command_limit) where
  -- what is alike at each call is alike along a list
  along_same :
      {A : Type 0} (f : Map → bytemap.Call → A) (g : Machine → Call → A)
      → ((m : Map) (j : Machine) (p : bytemap.Call) → Beside c m j → is_small p ≡ true → f m p ≡ g j (as_command c p))
      → (m : Map) (j : Machine) (ps : List bytemap.Call) → Beside c m j → all is_small ps ≡ true
      → bytemap.along f m ps ≡ along g j (map (as_command c) ps)
  unfolding bytemap.along along all
  along_same f g alike m j [] B h = refl
  along_same f g alike m j (p ∷ ps) B h =
      let small = and_left (is_small p) (all is_small ps) h in
      ap₂ ◌∷◌ (alike m j p B small)
      (along_same f g alike (bytemap.after m p) (after j (as_command c p)) ps (beside_after B low p small) (and_right (is_small p) (all is_small ps) h))

  beside_ran : (m : Map) (j : Machine) (ps : List bytemap.Call) → Beside c m j → all is_small ps ≡ true
      → Beside c (bytemap.ran m ps) (ran j (map (as_command c) ps))
  unfolding bytemap.ran ran all
  beside_ran m j [] B h = B
  beside_ran m j (p ∷ ps) B h =
      beside_ran (bytemap.after m p) (after j (as_command c p)) ps
      (beside_after B low p (and_left (is_small p) (all is_small ps) h))
      (and_right (is_small p) (all is_small ps) h)

-- what is made of each answer along a list
along_map : {A B : Type 0} (f : A → B) (g : Machine → Call → A) (j : Machine) (ps : List Call) → along (λ k p. f (g k p)) j ps ≡ map f (along g j ps)
unfolding along
along_map f g j [] = refl
along_map f g j (p ∷ ps) = ap₂ ◌∷◌ refl (along_map f g (after j p) ps)

-- before any call
beside_start : (store : List ℕ) (c : ℕ) → length store ≡ store_size → Beside c fresh (start store)
unfolding phase
beside_start store c size = record { past = []; tied = rw size at (tied_start store); follows = cleared_follows 0 }

pub agreement : Agreement
agreement store c ps size low small =
    let B = beside_start store c size in
    let then = beside_ran c low fresh (start store) ps B small in
    record {
      answers =
          along_same c low bytemap.says (λ j p. without_looked (says j p)) (λ m j p B h. answer_same B low p h) fresh (start store) ps B small
          ∙ along_map without_looked says (start store) (map (as_command c) ps);
      delivered = along_same c low bytemap.delivers delivers (λ m j p B h. delivered_same B low p h) fresh (start store) ps B small;
      destinations = along_same c low bytemap.dest_after dest_after (λ m j p B h. dest_same B low p h) fresh (start store) ps B small;
      windows = along_same c low bytemap.window_after window_after (λ m j p B h. window_same B low p h) fresh (start store) ps B small;
      opened = opened_same then;
      records = (same_held then).records;
      bytes = (same_held then).bytes;
    }
