-- What holds between the state, the store and the memory after every call: an open command holds just the addresses that it has fetched or
-- written since its begin, each with the value last written there, else the one first fetched.
use Prim.Native.Nat.{ℕ, ◌+◌, ◌<◌, ◌≤◌}
use native.Mathlib.Omega.{arith}
use mathlib.Core.Path.{◌≡◌, refl, ap, subst, sym, ◌∙◌}
use mathlib.Core.Logic.{◌≢◌}
use mathlib.Core.List.{List, [], ◌∷◌}
use mathlib.Core.Bool.{Bool, true, false, false≢true, cond, ◌||◌}
use lib.Dec.{eqb}
use lib.ListN.{length, get_or}
use borrow.Author.Tests.{eqb-true, eqb-false, eq-eqb, ne_eqb}
use Rattle.octets.proofs.Lists.{get_d_same_lem}
use Rattle.octets.proofs.Overwrite.{overwrite_inside}
use Rattle.state.specs.declared.Record.{Record}
use Rattle.state.specs.Limits.{command_limit, store_size}
use Rattle.state.specs.Records.{in_span, held, place}
use Rattle.state.specs.State.{CommandState, command_of, records_in, records_of, is_open, closed, open_with}
use Rattle.state.specs.Verdict.{accepted}
use Rattle.state.proofs.Laws.{held_joined, place_below, at_place}
use Rattle.state.proofs.Commands.{command_same, command_other, records_open_with, Kept, kept, eight}
use Rattle.store.specs.Store.{part_start, location, from}
use Rattle.cache.specs.Runs.{Call, begin, fetch, end, host_write, own_write, show, Machine, start, says, after, along, ran}
use Rattle.cache.proofs.Unchanged.{refused_same}
use Rattle.history.specs.Journal.{Event, event, backwards, fetched, wrote, deed_of}
use Rattle.history.specs.Firsts.{Value, none, some, or_else, Memory, remember, memory, is_known}
use Rattle.history.proofs.Replaced.{replaced, Fits, byte_other, length_replaced}
use Rattle.history.proofs.Effects.{old, grown, packed, zeros, found, put, grown_into, begin_after, end_after, fetch_after, own_after}
use Rattle.history.proofs.Effects.{begin_fits, end_fits, Taken, fetch_taken, own_taken_lem, packed_fits, length_packed, ascending_grown, total_grown}
use Rattle.history.proofs.Invariant.{Whole, whole_start, whole_replaced}

-- what the records and the store say of an address
abbrev pub stored : List Record → (location : ℕ → ℕ) → (store : List ℕ) → ℕ → Value
stored rs location store x = cond (held rs x) (some (get_or store (location (place rs x)) 0)) none

-- a value is known there exactly if the records hold the address
pub known_held : (h : Bool) (u : ℕ) → h ≡ is_known (cond h (some u) none)
known_held true u = refl
known_held false u = refl

-- the memory of an open command is what it holds
abbrev pub Known : CommandState → (location : ℕ → ℕ) → (store : List ℕ) → Memory → (c x : ℕ) → Type 0
Known p location store mem c x = p.opened ≡ true → mem c x ≡ stored (records_in p) location store x

-- the same of a machine: what its store says, and what a command knows in it
abbrev stored_in : Machine → List Record → (c x : ℕ) → Value
stored_in m rs c x = stored rs (location m.state c) m.store x

abbrev KnownIn : Machine → CommandState → Memory → (c x : ℕ) → Type 0
KnownIn m p mem c x = Known p (location m.state c) m.store mem c x

pub record Sound (m : Machine) (mem : Memory) : Type 0 where
  pub state : Whole m.state
  pub known : (c x : ℕ) → Known (command_of m.state c) (location m.state c) m.store mem c x
  pub size : (c : ℕ) → is_open m.state c ≡ true → length m.store ≡ store_size

pub sound_start : (store : List ℕ) → Sound (start store) (memory [])
unfolding memory
sound_start store = record { state = whole_start store; known = λ c x o. none_open c o; size = λ c o. none_open c o }
  where
    none_open : {A : Type 0} (c : ℕ) → (command_of (start store).state c).opened ≡ true → A
    none_open c o = absurd (false≢true (rw (get_d_same_lem command_limit c closed) at o))

-- A command replaced: the others know what they knew.

module _ (m : Machine) (c : ℕ) (next : CommandState) (bytes : List ℕ) (F : Fits m c next bytes) (mem mem' : Memory) (S : Sound m mem)
    (others : (d x : ℕ) → d ≢ c → mem' d x ≡ mem d x) (own : (x : ℕ) → KnownIn (replaced m c next bytes) next mem' c x) where
  abbrev changed : Machine
  changed = replaced m c next bytes

  stored_other : (d x : ℕ) → d ≢ c → stored_in changed (records_of m.state d) d x ≡ stored_in m (records_of m.state d) d x
  stored_other d x apart = go (held (records_of m.state d) x) refl
    where
      rs : List Record
      rs = records_of m.state d

      K : Kept (command_of m.state d)
      K = kept m.state d S.state.whole

      go : (b : Bool) → held rs x ≡ b → stored_in changed rs d x ≡ stored_in m rs d x
      go true h = rw h (ap some (byte_other F d (place rs x) apart (omega (arith, place_below 0 rs x K.up h, K.small))))
      go false h = rw h

  known_replaced : (d x : ℕ) → KnownIn changed (command_of changed.state d) mem' d x
  known_replaced d x = go (eqb d c) refl
    where
      go : (b : Bool) → eqb d c ≡ b → KnownIn changed (command_of changed.state d) mem' d x
      go true e =
          subst (λ (k : ℕ). KnownIn changed (command_of changed.state k) mem' k x) (sym (eqb-true d c e))
          (subst (λ (p : CommandState). KnownIn changed p mem' c x)
          (sym (command_same m.state c next (omega (arith, eight m.state S.state.shape, F.command)))) (own x))
      go false e =
          let apart = eqb-false d c e in
          subst (λ (p : CommandState). KnownIn changed p mem' d x) (sym (command_other m.state c next d apart))
          (λ o. others d x apart ∙ S.known d x o ∙ sym (stored_other d x apart))

  sound_replaced : Sound changed mem'
  sound_replaced = record { state = whole_replaced F S.state; known = known_replaced; size = λ d o. length_replaced F ∙ F.size }

-- A span held: what the command holds then is what its memory then has.

module _ (m : Machine) {w d : ℕ} (c a n : ℕ) (value : ℕ → ℕ) (F : Taken m w d c a n) where
  abbrev rs' : List Record
  rs' = grown m c a n

  abbrev bytes : List ℕ
  bytes = packed m c a n value

  grown_stored : (x : ℕ) → stored_in (grown_into m c a n value) rs' c x ≡ cond (held rs' x) (some (value x)) none
  grown_stored x = go (held rs' x) refl
    where
      go : (b : Bool) → held rs' x ≡ b → stored_in (grown_into m c a n value) rs' c x ≡ cond (held rs' x) (some (value x)) none
      go true h =
          let up = ascending_grown m c a n value F in
          let size = length_packed m c a n value F in
          let near : place rs' x < length bytes = omega (arith, place_below 0 rs' x up h) in
          let fits : part_start c + length bytes ≤ length m.store = omega (arith, total_grown m c a n value F, F.command, F.size) in
          rw h (ap some (overwrite_inside m.store bytes (part_start c) fits (place rs' x) 0 near ∙ at_place value 0 0 rs' x up h))
      go false h = rw h

  sound_grown : (mem mem' : Memory) → Sound m mem → ((e x : ℕ) → e ≢ c → mem' e x ≡ mem e x)
      → ((x : ℕ) → mem' c x ≡ cond (held rs' x) (some (value x)) none) → Sound (grown_into m c a n value) mem'
  sound_grown mem mem' S others own =
      sound_replaced m c (open_with rs') bytes (packed_fits m c a n value F) mem mem' S others
      (λ x o. rw (records_open_with rs') (own x ∙ sym (grown_stored x)))

-- what is held of an address stays under a fetch, and not under a write
fetch_merge : (h i : Bool) (u w : ℕ) → cond i (or_else (cond h (some u) none) w) (cond h (some u) none) ≡ cond (h || i) (some (cond h u w)) none
fetch_merge true true u w = refl
fetch_merge true false u w = refl
fetch_merge false true u w = refl
fetch_merge false false u w = refl

own_merge : (h i : Bool) (u w : ℕ) → cond i (some w) (cond h (some u) none) ≡ cond (h || i) (some (cond i w (cond h u w))) none
own_merge true true u w = refl
own_merge true false u w = refl
own_merge false true u w = refl
own_merge false false u w = refl

module _ (m : Machine) (mem : Memory) (S : Sound m mem) (c a n : ℕ) (opened : is_open m.state c ≡ true) where
  -- the byte in the store for an address that the command holds
  abbrev kept_byte : ℕ → ℕ
  kept_byte x = get_or m.store (part_start c + place (old m c) x) 0

  fetch_known : (window : List ℕ) (x : ℕ)
      → remember mem (fetched c a n window) c x ≡ cond (held (grown m c a n) x) (some (found m c window x)) none
  unfolding remember
  fetch_known window x =
      rw (eq-eqb c c refl, S.known c x opened, held_joined (old m c) a n x)
      (fetch_merge (held (old m c) x) (in_span a n x) (kept_byte x) (get_or window x 0))

  own_known : (bytes : List ℕ) → length bytes ≡ n → (x : ℕ)
      → remember mem (wrote c a bytes) c x ≡ cond (held (grown m c a n) x) (some (put m c a bytes x)) none
  unfolding remember
  own_known bytes size x =
      rw (eq-eqb c c refl, S.known c x opened, held_joined (old m c) a n x, size)
      (own_merge (held (old m c) x) (in_span a n x) (kept_byte x) (from a bytes x))

-- Every call keeps it.

pub sound_after :
    (m : Machine) (mem : Memory) (p : Call) (b : Bool) → accepted (says m p) ≡ b → Sound m mem
    → Sound (after m p) (remember mem (deed_of b p))
unfolding remember held
sound_after m mem p false e S = rw (refused_same m p e) S
sound_after m mem (begin c) true e S =
    rw (begin_after m c e)
    (sound_replaced m c (open_with []) zeros (begin_fits m c e) mem _ S (λ d x apart. rw (ne_eqb d c apart)) (λ x o. rw (eq-eqb c c refl)))
sound_after m mem (fetch c a n dest window) true e S =
    let F = fetch_taken m c a n dest window e in
    rw (fetch_after m c a n dest window e)
    (sound_grown m c a n (found m c window) F mem _ S (λ d x apart. rw (ne_eqb d c apart)) (fetch_known m mem S c a n F.opened window))
sound_after m mem (end c) true e S =
    rw (end_after m c e) (sound_replaced m c closed zeros (end_fits m c e) mem mem S (λ d x apart. refl) (λ x o. absurd (false≢true o)))
sound_after m mem (host_write a bytes window) true e S = S
sound_after m mem (own_write c a bytes window) true e S =
    let F = own_taken_lem m c a bytes window e in
    rw (own_after m c a bytes window e)
    (sound_grown m c a (length bytes) (put m c a bytes) F mem _ S (λ d x apart. rw (ne_eqb d c apart))
    (own_known m mem S c a (length bytes) F.opened bytes refl))
sound_after m mem (show c i) true e S = S

-- and so does every list
pub sound_ran :
    (past : List Event) (m : Machine) (ps : List Call) → Sound m (memory past)
    → Sound (ran m ps) (memory (backwards past (along event m ps)))
unfolding ran along backwards memory
sound_ran past m [] S = S
sound_ran past m (p ∷ ps) S = sound_ran (event m p ∷ past) (after m p) ps (sound_after m (memory past) p (accepted (says m p)) refl S)
