-- After every list the records of an open command are the runs of what it has fetched or written since its begin, and the bytes of these
-- addresses stand packed at the front of its part.
use Prim.Native.Nat.{ℕ, ◌+◌, ◌≤◌}
use native.Mathlib.Omega.{arith}
use mathlib.Core.Path.{◌≡◌, refl, ap, sym, ◌∙◌}
use mathlib.Core.List.{List, [], ◌∷◌, map}
use mathlib.Core.Bool.{Bool, true, false, cond, ◌&&◌}
use lib.Dec.{eqb}
use lib.ListN.{length, get_or}
use Rattle.state.specs.declared.Record.{Record}
use Rattle.state.specs.Records.{in_span, held, place, addresses, total}
use Rattle.state.specs.State.{command_of, records_of, is_open}
use Rattle.state.proofs.Laws.{map_held, packed_back}
use Rattle.state.proofs.Commands.{Kept, kept, open_below}
use Rattle.state.proofs.Runs.{runs_same, records_runs}
use Rattle.store.specs.Store.{part_start, packed_bytes, from}
use Rattle.store.proofs.Parts.{packed_part}
use Rattle.cache.specs.Runs.{Machine, start, ran}
use Rattle.history.specs.Journal.{Event, Deed, began, fetched, wrote, ended, other, deed, journal, backwards}
use Rattle.history.specs.Firsts.{Value, none, some, or_else, Memory, remember, memory, is_known, recall}
use Rattle.history.specs.Firsts.{write_in, last_write, fetch_in, first_fetch, rather, held_since}
use Rattle.history.specs.Claims.{MemorySearch, RecordsTold, StoredBytes}
use Rattle.history.proofs.Sound.{known_held, Sound, sound_start, sound_ran}

-- The memory and the two searches

-- one event more
search_step : (v : Value) (d : Deed) (c x : ℕ) (w f : Value) → v ≡ rather w f → (mem : Memory) → mem c x ≡ v
    → remember mem d c x ≡ rather (write_in d c x w) (fetch_in d c x f)
unfolding remember write_in fetch_in
search_step v (began d) c x w f is mem here = rw here (go (eqb c d))
  where
    go : (b : Bool) → cond b none v ≡ rather (cond b none w) (cond b none f)
    go true = refl
    go false = is
search_step v (fetched d a n window) c x w f is mem here = rw (here, is) (go (eqb c d && in_span a n x) w)
  where
    go : (b : Bool) (w : Value) → cond b (or_else (rather w f) (get_or window x 0)) (rather w f) ≡ rather w (cond b (or_else f (get_or window x 0)) f)
    go true none = refl
    go true (some u) = refl
    go false w = refl
search_step v (wrote d a bytes) c x w f is mem here = rw here (go (eqb c d && in_span a (length bytes) x))
  where
    go : (b : Bool) → cond b (some (from a bytes x)) v ≡ rather (cond b (some (from a bytes x)) w) f
    go true = refl
    go false = is
search_step v (ended d) c x w f is mem here = here ∙ is
search_step v other c x w f is mem here = here ∙ is

pub memory_search : MemorySearch
unfolding memory last_write first_fetch
memory_search [] c x = refl
memory_search (e ∷ past) c x =
    search_step (memory past c x) (deed e) c x (last_write past c x) (first_fetch past c x) (memory_search past c x) (memory past) refl

-- so it knows an address exactly if the command has fetched or written it
pub memory_held : (past : List Event) (c x : ℕ) → is_known (memory past c x) ≡ held_since past c x
memory_held past c x = ap is_known (memory_search past c x)

-- Records and bytes

module _ (m : Machine) (mem : Memory) (S : Sound m mem) (c : ℕ) (o : is_open m.state c ≡ true) where
  abbrev rs : List Record
  rs = records_of m.state c

  pub held_known : (x : ℕ) → held rs x ≡ is_known (mem c x)
  held_known x = rw (S.known c x o) (known_held (held rs x) (get_or m.store (part_start c + place rs x) 0))

  pub K : Kept (command_of m.state c)
  K = kept m.state c S.state.whole

  pub part_fits : part_start c + total rs ≤ length m.store
  part_fits = omega (arith, K.small, open_below m.state c S.state.shape o, S.size c o)

  pub part_known : packed_bytes m.state m.store c (total rs) ≡ map (λ x. recall (mem c x)) (addresses rs)
  part_known =
      packed_part m.state m.store c (total rs) part_fits
      ∙ sym
      (map_held (λ x. recall (mem c x)) (λ x. get_or m.store (part_start c + place rs x) 0) rs (λ x h. rw (S.known c x o, h))
      ∙ packed_back m.store (part_start c) 0 rs K.up part_fits)

pub records_told : RecordsTold
records_told store ps c o =
    let past = backwards [] (journal store ps) in
    let m = ran (start store) ps in
    let S = sound_ran [] (start store) ps (sound_start store) in
    let rs = records_of m.state c in
    records_runs rs (K m (memory past) S c o).up
    ∙ runs_same (held rs) (held_since past c) 0 65536 (λ x h. held_known m (memory past) S c o x ∙ memory_held past c x)

pub stored_bytes : StoredBytes
stored_bytes store ps c o =
    let S = sound_ran [] (start store) ps (sound_start store) in
    record {
      within = λ k h. omega (arith, part_fits (ran (start store) ps) (memory (backwards [] (journal store ps))) S c o);
      bytes = part_known (ran (start store) ps) (memory (backwards [] (journal store ps))) S c o;
    }
