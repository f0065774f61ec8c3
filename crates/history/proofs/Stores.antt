-- The whole store, told from the store at the start and from the calls: what stands in each command's part after every call, and so in
-- the parts together.
use Prim.Native.Nat.{ℕ, zero, suc, ◌+◌, ◌-◌, ◌≤◌}
use native.Mathlib.Omega.{arith}
use native.Mathlib.Nat.{add-zero}
use mathlib.Core.Path.{◌≡◌, refl, ap, ap₂, sym, ◌∙◌}
use mathlib.Core.Logic.{◌≢◌}
use mathlib.Core.List.{List, [], ◌∷◌, ◌++◌, map, flat_map, append_assoc}
use mathlib.Core.Bool.{Bool, true, false, false≢true}
use lib.Dec.{eqb}
use lib.ListN.{length, take, drop, replicate, length-drop, length-replicate, length-map, take-append-drop, drop_of_length-le}
use lib.ListN.{replicate-append-replicate}
use lib.Seq.{length-take-le, take_at, drop_at, drop-drop, take-take}
use borrow.Author.Tests.{eqb-true, eqb-false, eq-eqb, ne_eqb}
use Rattle.octets.specs.Lists.{overwrite, part}
use Rattle.octets.proofs.Lists.{get_d_same_lem}
use Rattle.octets.proofs.Overwrite.{length_overwrite, overwrite_lent, overwrite_rest}
use Rattle.state.specs.declared.Record.{Record}
use Rattle.state.specs.Limits.{command_limit, held_limit, store_size}
use Rattle.state.specs.Records.{held, span, addresses, total, fresh}
use Rattle.state.specs.State.{CommandState, command_of, records_in, records_of, is_open, with_command, closed, open_with}
use Rattle.state.specs.Verdict.{accepted}
use Rattle.state.specs.Runs.{in_front, runs_from, runs}
use Rattle.state.proofs.Laws.{total_joined, length_addresses}
use Rattle.state.proofs.Commands.{command_same, command_other, records_open_with, kept, eight}
use Rattle.state.proofs.Runs.{runs_same, records_runs}
use Rattle.store.specs.Store.{part_start}
use Rattle.store.proofs.Parts.{packed_part}
use Rattle.cache.specs.Runs.{Call, begin, fetch, end, host_write, own_write, show, Machine, start, says, after, along, ran}
use Rattle.cache.proofs.Unchanged.{refused_same}
use Rattle.history.specs.Journal.{Event, event, journal, backwards, deed_of}
use Rattle.history.specs.Firsts.{Value, none, some, Memory, remember, memory, is_known, recall}
use Rattle.history.specs.Stores.{Phase, unbegun, running, finished, phase_by, phase, if_any, held_owed, part_by, part_owed}
use Rattle.history.specs.Claims.{part_in, StoreTold}
use Rattle.history.proofs.Replaced.{replaced, Fits, length_replaced, part_other}
use Rattle.history.proofs.Effects.{old, grown, packed, zeros, found, put, grown_into, begin_after, end_after, fetch_after, own_after}
use Rattle.history.proofs.Effects.{begin_fits, end_fits, Taken, fetch_taken, own_taken_lem, packed_fits, length_packed, total_grown}
use Rattle.history.proofs.Sound.{Sound, sound_start, sound_after}
use Rattle.history.proofs.Stored.{K, held_known, part_fits, part_known}

-- A store is its parts, one behind the other, and what is behind them.

store_parts : (l : List ℕ) (c n : ℕ) → flat_map (λ d. part l (part_start d) held_limit) (span c n) ++ drop (part_start (c + n)) l ≡ drop (part_start c) l
unfolding flat_map span
store_parts l c zero = rw add-zero
store_parts l c (suc n) =
    let own = part l (part_start c) held_limit in
    let later = flat_map (λ d. part l (part_start d) held_limit) (span (suc c) n) in
    let to : part_start (c + suc n) ≡ part_start (suc c + n) = omega arith in
    let from : part_start (suc c) ≡ part_start c + held_limit = omega arith in
    append_assoc own later (drop (part_start (c + suc n)) l)
    ∙ ap (λ (t : List ℕ). own ++ t) (rw to (store_parts l (suc c) n ∙ rw from (sym (drop-drop held_limit (part_start c) l))))
    ∙ take-append-drop held_limit (drop (part_start c) l)

store_is_parts : (l : List ℕ) → flat_map (λ d. part l (part_start d) held_limit) (span 0 command_limit) ++ drop store_size l ≡ l
store_is_parts l =
    let ends : store_size ≡ part_start (0 + command_limit) = omega arith in
    let starts : part_start 0 ≡ 0 = omega arith in
    ap (λ (k : ℕ). flat_map (λ d. part l (part_start d) held_limit) (span 0 command_limit) ++ drop k l) ends
    ∙ store_parts l 0 command_limit
    ∙ ap (λ (k : ℕ). drop k l) starts

-- equal parts make equal stores
parts_same : (f g : ℕ → List ℕ) (c n : ℕ) → ((d : ℕ) → f d ≡ g d) → flat_map f (span c n) ≡ flat_map g (span c n)
unfolding flat_map span
parts_same f g c zero same = refl
parts_same f g c (suc n) same = ap₂ ◌++◌ (same c) (parts_same f g (suc c) n same)

-- The known values by ascending address are those of the addresses in the runs.

front_addresses : (x : ℕ) (rs : List Record) → addresses (in_front x rs) ≡ x ∷ addresses rs
unfolding in_front addresses span
front_addresses x [] = refl
front_addresses x (r ∷ rs) = go (eqb r.start (suc x)) refl
  where
    go : (b : Bool) → eqb r.start (suc x) ≡ b → addresses (in_front x (r ∷ rs)) ≡ x ∷ addresses (r ∷ rs)
    go true e = rw e (ap (λ (k : ℕ). x ∷ (span k r.len ++ addresses rs)) (sym (eqb-true r.start (suc x) e)))
    go false e = rw e

known_runs :
    (f : ℕ → Value) (x n : ℕ)
    → flat_map (λ y. if_any (f y)) (span x n) ≡ map (λ y. recall (f y)) (addresses (runs_from (λ y. is_known (f y)) x n))
unfolding flat_map span runs_from addresses
known_runs f x zero = refl
known_runs f x (suc n) = go (f x) refl (known_runs f (suc x) n)
  where
    rest : List Record
    rest = runs_from (λ y. is_known (f y)) (suc x) n

    go : (v : Value) → f x ≡ v → flat_map (λ y. if_any (f y)) (span (suc x) n) ≡ map (λ y. recall (f y)) (addresses rest)
        → if_any (f x) ++ flat_map (λ y. if_any (f y)) (span (suc x) n) ≡ map (λ y. recall (f y)) (addresses (runs_from (λ y. is_known (f y)) x (suc n)))
    go none e ih = rw e ih
    go (some v) e ih = rw (e, front_addresses x rest) (ap₂ ◌∷◌ (sym (ap recall e)) ih)

-- The part of a command after bytes are written to its front: all of it if they are as many, and behind fewer it stays.

module _ (buffer bytes : List ℕ) (at n : ℕ) (fits : at + n ≤ length buffer) where
  length_part : length (part buffer at n) ≡ n
  length_part = length-take-le n (drop at buffer) (simp length-drop (omega arith))

  part_overwritten : length bytes ≤ n → part (overwrite buffer at bytes) at n ≡ overwrite (part buffer at n) 0 bytes
  part_overwritten small =
      ap (λ (l : List ℕ). part l at n) (sym (overwrite_lent buffer bytes at n (omega (arith, length_part))))
      ∙ ap (take n) (drop_at (take at buffer) _ at (length-take-le at buffer (omega arith)))
      ∙ take_at (overwrite (part buffer at n) 0 bytes) (drop n (drop at buffer)) n
      (length_overwrite (part buffer at n) bytes 0 (omega (arith, length_part)) ∙ length_part)

  part_all : length bytes ≡ n → part (overwrite buffer at bytes) at n ≡ bytes
  part_all size =
      ap (take n) (rw append_assoc (drop_at (take at buffer) (bytes ++ drop (at + length bytes) buffer) at (length-take-le at buffer (omega arith))))
      ∙ take_at bytes (drop (at + length bytes) buffer) n size

  part_behind : (k : ℕ) → length bytes ≡ k → k ≤ n → drop k (part (overwrite buffer at bytes) at n) ≡ drop k (part buffer at n)
  part_behind k size small = ap (drop k) (part_overwritten (omega arith)) ∙ overwrite_rest (part buffer at n) bytes k size

-- zeros behind t bytes are zeros behind j bytes more; and so of h bytes, of which t are not zeros, and then t'
zeros_behind : (l : List ℕ) (t j k : ℕ) → drop t l ≡ replicate (j + k) 0 → drop (t + j) l ≡ replicate k 0
zeros_behind l t j k e =
    sym (drop-drop j t l)
    ∙ ap (drop j) (e ∙ sym (replicate-append-replicate j k 0))
    ∙ drop_at (replicate j 0) (replicate k 0) j (length-replicate j 0)

zeros_still : (l : List ℕ) (h t f t' : ℕ) → t' ≡ t + f → t' ≤ h → drop t l ≡ replicate (h - t) 0 → drop t' l ≡ replicate (h - t') 0
zeros_still l h t f t' is small e =
    let left : h - t ≡ f + (h - t') = omega arith in
    ap (λ (i : ℕ). drop i l) is ∙ zeros_behind l t f (h - t') (e ∙ ap (λ (i : ℕ). replicate i 0) left)

-- What stands in a command's part, by what became of the command: what was given, zeros behind the held bytes, or zeros alone. What the held
-- bytes are is said by `Sound`.

data Stands (p : CommandState) (given bytes : List ℕ) : Phase → Type 0 where
  as_given : p.opened ≡ false → bytes ≡ given → Stands p given bytes unbegun
  zero_behind : p.opened ≡ true → drop (total (records_in p)) bytes ≡ replicate (held_limit - total (records_in p)) 0 → Stands p given bytes running
  zero_all : p.opened ≡ false → bytes ≡ zeros → Stands p given bytes finished

-- the part of a command as it was given
abbrev given_part : List ℕ → ℕ → List ℕ
given_part store c = part store (part_start c) held_limit

record Told (store : List ℕ) (m : Machine) (mem : Memory) (phases : ℕ → Phase) : Type 0 where
  sound : Sound m mem
  stands : (c : ℕ) → Stands (command_of m.state c) (given_part store c) (part_in m c) (phases c)
  behind : drop store_size m.store ≡ drop store_size store

told_start : (store : List ℕ) → Told store (start store) (memory []) (phase [])
unfolding phase
told_start store = record {
  sound = sound_start store;
  stands = λ c. as_given (ap (λ (p : CommandState). p.opened) (get_d_same_lem command_limit c closed)) refl;
  behind = refl;
}

nothing_behind : (l : List ℕ) → length l ≡ store_size → drop store_size l ≡ []
nothing_behind l size = drop_of_length-le l {i = store_size} (omega arith)

length_zeros : length zeros ≡ held_limit
length_zeros = length-replicate held_limit zero

-- A command replaced: the others stand as they did.

module _ (store : List ℕ) (m : Machine) (mem : Memory) (phases : ℕ → Phase) (T : Told store m mem phases) where
  module _ (c : ℕ) (next : CommandState) (bytes : List ℕ) (F : Fits m c next bytes) where
    part_inside : part_start c + held_limit ≤ length m.store
    part_inside = omega (arith, F.command, F.size)

    part_zeroed : bytes ≡ zeros → part_in (replaced m c next bytes) c ≡ zeros
    part_zeroed e = part_all m.store bytes (part_start c) held_limit part_inside (ap length e ∙ length_zeros) ∙ e

    stands_replaced :
        (phases' : ℕ → Phase) → ((d : ℕ) → d ≢ c → phases' d ≡ phases d)
        → Stands next (given_part store c) (part_in (replaced m c next bytes) c) (phases' c)
        → (d : ℕ) → Stands (command_of (with_command m.state c next) d) (given_part store d) (part_in (replaced m c next bytes) d) (phases' d)
    stands_replaced phases' others own d = go (eqb d c) refl
      where
        go : (b : Bool) → eqb d c ≡ b
            → Stands (command_of (with_command m.state c next) d) (given_part store d) (part_in (replaced m c next bytes) d) (phases' d)
        go true e = rw (eqb-true d c e, command_same m.state c next (omega (arith, eight m.state T.sound.state.shape, F.command))) own
        go false e =
            let apart = eqb-false d c e in
            rw (others d apart, command_other m.state c next d apart, part_other F d apart) (T.stands d)

    behind_replaced : drop store_size (replaced m c next bytes).store ≡ drop store_size store
    behind_replaced =
        nothing_behind (replaced m c next bytes).store (length_replaced F ∙ F.size) ∙ sym (nothing_behind m.store F.size) ∙ T.behind

    told_replaced :
        (k : Machine) (mem' : Memory) (phases' : ℕ → Phase) → k ≡ replaced m c next bytes → Sound k mem' → ((d : ℕ) → d ≢ c → phases' d ≡ phases d)
        → Stands next (given_part store c) (part_in (replaced m c next bytes) c) (phases' c)
        → Told store k mem' phases'
    told_replaced k mem' phases' is S others own = record {
      sound = S;
      stands = λ d. rw is (stands_replaced phases' others own d);
      behind = ap (λ (j : Machine). drop store_size j.store) is ∙ behind_replaced;
    }

  -- Where a span is held there are zeros behind the held bytes, as there were before it behind fewer.
  module _ {w d : ℕ} (c a n : ℕ) (value : ℕ → ℕ) (F : Taken m w d c a n) where
    abbrev grown_part : List ℕ
    grown_part = part_in (grown_into m c a n value) c

    grown_stands : Stands (open_with (grown m c a n)) (given_part store c) grown_part (phases c)
    grown_stands = go (T.stands c)
      where
        go : {p : Phase} → Stands (command_of m.state c) (given_part store c) (part_in m c) p
            → Stands (open_with (grown m c a n)) (given_part store c) grown_part p
        go (as_given o same) = absurd (false≢true (sym o ∙ F.opened))
        go (zero_all o same) = absurd (false≢true (sym o ∙ F.opened))
        go (zero_behind o behind) =
            let more = total_joined (old m c) a n (kept m.state c F.whole).up in
            let small = total_grown m c a n value F in
            let fits = packed_fits m c a n value F in
            zero_behind refl
            (rw (records_open_with (grown m c a n))
            (part_behind m.store (packed m c a n value) (part_start c) held_limit (part_inside c _ _ fits) (total (grown m c a n))
            (length_packed m c a n value F) small
            ∙ zeros_still (part_in m c) held_limit (total (old m c)) (fresh (old m c) a n) (total (grown m c a n)) more small behind))

    told_grown : (k : Machine) (mem' : Memory) → k ≡ grown_into m c a n value → Sound k mem' → Told store k mem' phases
    told_grown k mem' grows S =
        told_replaced c (open_with (grown m c a n)) (packed m c a n value) (packed_fits m c a n value F) k mem' phases grows S
        (λ d apart. refl) grown_stands

-- Every call keeps it.

told_after :
    (store : List ℕ) (m : Machine) (mem : Memory) (phases : ℕ → Phase) (p : Call) (b : Bool) → accepted (says m p) ≡ b → Told store m mem phases
    → Told store (after m p) (remember mem (deed_of b p)) (λ c. phase_by (deed_of b p) c (phases c))
unfolding remember phase_by total
told_after store m mem phases p false e T = rw (refused_same m p e) T
told_after store m mem phases (begin c) true e T =
    let fits = begin_fits m c e in
    told_replaced store m mem phases T c (open_with []) zeros fits _ _ _ (begin_after m c e) (sound_after m mem (begin c) true e T.sound)
    (λ d apart. rw (ne_eqb d c apart)) (rw (eq-eqb c c refl) (zero_behind refl (part_zeroed store m mem phases T c (open_with []) zeros fits refl)))
told_after store m mem phases (fetch c a n dest window) true e T =
    told_grown store m mem phases T c a n (found m c window) (fetch_taken m c a n dest window e) _ _ (fetch_after m c a n dest window e)
    (sound_after m mem (fetch c a n dest window) true e T.sound)
told_after store m mem phases (end c) true e T =
    let fits = end_fits m c e in
    told_replaced store m mem phases T c closed zeros fits _ _ _ (end_after m c e) (sound_after m mem (end c) true e T.sound)
    (λ d apart. rw (ne_eqb d c apart)) (rw (eq-eqb c c refl) (zero_all refl (part_zeroed store m mem phases T c closed zeros fits refl)))
told_after store m mem phases (host_write a bytes window) true e T = T
told_after store m mem phases (own_write c a bytes window) true e T =
    told_grown store m mem phases T c a (length bytes) (put m c a bytes) (own_taken_lem m c a bytes window e) _ _ (own_after m c a bytes window e)
    (sound_after m mem (own_write c a bytes window) true e T.sound)
told_after store m mem phases (show c i) true e T = T

told_ran :
    (store : List ℕ) (past : List Event) (m : Machine) (ps : List Call) → Told store m (memory past) (phase past)
    → Told store (ran m ps) (memory (backwards past (along event m ps))) (phase (backwards past (along event m ps)))
unfolding ran along backwards memory phase
told_ran store past m [] T = T
told_ran store past m (p ∷ ps) T =
    told_ran store (event m p ∷ past) (after m p) ps (told_after store m (memory past) (phase past) p (accepted (says m p)) refl T)

-- So each part is what the calls say of it: of an open command the front by `Sound`, where the held addresses are the runs of the known ones.

module _ (store : List ℕ) (m : Machine) (past : List Event) (T : Told store m (memory past) (phase past)) (c : ℕ) where
  module _ (o : is_open m.state c ≡ true) where
    abbrev S : Sound m (memory past)
    S = T.sound

    abbrev rs : List Record
    rs = records_of m.state c

    held_runs : rs ≡ runs (λ x. is_known (memory past c x))
    held_runs =
        records_runs rs (K m (memory past) S c o).up
        ∙ runs_same (held rs) (λ x. is_known (memory past c x)) 0 65536 (λ x h. held_known m (memory past) S c o x)

    held_values : held_owed past c ≡ map (λ x. recall (memory past c x)) (addresses rs)
    unfolding held_owed
    held_values = known_runs (memory past c) 0 65536 ∙ ap (λ (l : List Record). map (λ x. recall (memory past c x)) (addresses l)) (sym held_runs)

    length_held : total rs ≡ length (held_owed past c)
    length_held = sym (ap length held_values ∙ length-map (addresses rs) (λ x. recall (memory past c x)) ∙ length_addresses rs)

    front_told : take (total rs) (part_in m c) ≡ held_owed past c
    front_told =
        take-take (total rs) held_limit (drop (part_start c) m.store) (K m (memory past) S c o).small
        ∙ sym (packed_part m.state m.store c (total rs) (part_fits m (memory past) S c o))
        ∙ part_known m (memory past) S c o
        ∙ sym held_values

  part_told : part_in m c ≡ part_owed store past c
  part_told = go (T.stands c)
    where
      go : {p : Phase} → Stands (command_of m.state c) (given_part store c) (part_in m c) p
          → part_in m c ≡ part_by p (given_part store c) (held_owed past c)
      go (as_given o same) = same
      go (zero_behind o behind) =
          sym (take-append-drop (total (records_of m.state c)) (part_in m c))
          ∙ ap₂ ◌++◌ (front_told o) (behind ∙ ap (λ (k : ℕ). replicate (held_limit - k) 0) (length_held o))
      go (zero_all o same) = same

-- and the store is the parts
pub store_told : StoreTold
store_told store ps =
    let past = backwards [] (journal store ps) in
    let m = ran (start store) ps in
    let T = told_ran store [] (start store) ps (told_start store) in
    sym (store_is_parts m.store)
    ∙ ap₂ ◌++◌ (parts_same (part_in m) (part_owed store past) 0 command_limit (part_told store m past T)) T.behind
