-- How the counts tie to the first fetches and new addresses, and end's byte number to the counts, over every list of calls.
use Prim.Native.Nat.{ℕ, suc, ◌+◌}
use native.Mathlib.Omega.{arith}
use mathlib.Core.Path.{◌≡◌, refl, ap, ap₂, subst, sym, fun_ext, ◌∙◌}
use mathlib.Core.Logic.{◌≢◌}
use mathlib.Core.List.{List, [], ◌∷◌}
use mathlib.Core.Bool.{Bool, true, false, false≢true, cond, not}
use lib.Dec.{eqb}
use lib.ListN.{length, get_or}
use borrow.Author.Tests.{eqb-true, eqb-false, eq-eqb, ne_eqb}
use Rattle.octets.specs.Lists.{count}
use Rattle.octets.proofs.Lists.{get_d_same_lem}
use Rattle.state.specs.declared.Record.{Record}
use Rattle.state.specs.Limits.{command_limit}
use Rattle.state.specs.Records.{held, place, span, total, count_fresh, fresh, count_held, looked}
use Rattle.state.specs.Runs.{runs}
use Rattle.state.specs.State.{CommandState, command_of, records_in, with_command, open_with, closed, ascending}
use Rattle.state.specs.Verdict.{accepted}
use Rattle.state.proofs.Laws.{total_joined}
use Rattle.state.proofs.Runs.{records_runs}
use Rattle.state.proofs.Commands.{command_same, command_other, records_open_with, kept, eight}
use Rattle.store.specs.Store.{location}
use Rattle.cache.proofs.Accepted.{ended_open, ended_reply, fetched_reply, own_reply}
use Rattle.cache.specs.Runs.{Call, begin, fetch, end, host_write, own_write, show, Machine, start, says, after, along}
use Rattle.cache.proofs.Unchanged.{refused_same}
use Rattle.history.specs.Journal.{Event, event, told, deed_of}
use Rattle.history.specs.Firsts.{Value, none, some, Memory, memory, is_known, First, first_if, firsts_among}
use Rattle.history.specs.Counts.{counts_in, counts_replied, counts_by, counts_owed, bytes_in, bytes_replied, add, fresh_since, sum_by, sum_owed}
use Rattle.history.specs.Claims.{CountsTie, EndSum}
use Rattle.history.proofs.Replaced.{replaced, Fits}
use Rattle.history.proofs.Effects.{old, grown, packed, zeros, found, put, grown_into, begin_after, end_after, fetch_after, own_after}
use Rattle.history.proofs.Effects.{begin_fits, end_fits, Taken, fetch_taken, own_taken_lem, packed_fits}
use Rattle.history.proofs.Sound.{stored, known_held, Sound, sound_start, sound_after}

-- Counts of addresses that records hold, and of those that they do not

pub count_held_lem : (rs : List Record) (xs : List ℕ) → count_held rs xs ≡ count (held rs) xs
unfolding count_held count
count_held_lem rs [] = refl
count_held_lem rs (x ∷ xs) = go (held rs x) (count_held_lem rs xs)
  where
    go : (b : Bool) {k l : ℕ} → k ≡ l → cond b (suc k) k ≡ cond b 1 0 + l
    go true ih = omega arith
    go false ih = omega arith

pub count_fresh_lem : (rs : List Record) (xs : List ℕ) → count_fresh rs xs ≡ count (λ x. not (held rs x)) xs
unfolding count_fresh count
count_fresh_lem rs [] = refl
count_fresh_lem rs (x ∷ xs) = go (held rs x) (count_fresh_lem rs xs)
  where
    go : (b : Bool) {k l : ℕ} → k ≡ l → cond b k (suc k) ≡ cond (not b) 1 0 + l
    go true ih = omega arith
    go false ih = omega arith

-- An address is in no record exactly if the memory has none: so fresh is the number of first fetches.

module _ (rs : List Record) (location : ℕ → ℕ) (store : List ℕ) (known : ℕ → Value) (same : (x : ℕ) → known x ≡ stored rs location store x) where
  held_is : held rs ≡ (λ x. is_known (known x))
  held_is = fun_ext λ x. rw (same x) (known_held (held rs x) (get_or store (location (place rs x)) 0))

  count_known : (xs : List ℕ) → count_held rs xs ≡ count (λ x. is_known (known x)) xs
  count_known xs = count_held_lem rs xs ∙ ap (λ (f : ℕ → Bool). count f xs) held_is

  count_unknown : (xs : List ℕ) → count_fresh rs xs ≡ count (λ x. not (is_known (known x))) xs
  count_unknown xs = count_fresh_lem rs xs ∙ ap (λ (f : ℕ → Bool). count (λ x. not (f x)) xs) held_is

  -- records that ascend are the runs of what is known, so that as many are looked at
  looked_known : ascending 0 rs ≡ true → (a n : ℕ) → looked rs a n ≡ looked (runs (λ x. is_known (known x))) a n
  looked_known up a n = ap (λ (ts : List Record). looked ts a n) (records_runs rs up ∙ ap runs held_is)

-- the first fetches among addresses are as many as are not known
count_firsts : (known : ℕ → Value) (window xs : List ℕ) → count (λ x. not (is_known (known x))) xs ≡ length (firsts_among known window xs)
unfolding count firsts_among
count_firsts known window [] = refl
count_firsts known window (x ∷ xs) = go (known x) (firsts_among known window xs) (count_firsts known window xs)
  where
    go : (v : Value) (fs : List First) {k : ℕ} → k ≡ length fs
        → cond (not (is_known v)) 1 0 + k ≡ length (first_if v (record { address = x; value = get_or window x 0 }) fs)
    go none fs ih = omega arith
    go (some u) fs ih = omega arith

counts_here : (m : Machine) (mem : Memory) (p : Call) (b : Bool) → accepted (says m p) ≡ b → Sound m mem
    → counts_in (says m p) (deed_of b p) ≡ counts_by mem (deed_of b p)
unfolding counts_by
counts_here m mem p false e S = refl
counts_here m mem (begin c) true e S = refl
counts_here m mem (fetch c a n dest window) true e S =
    let same : (x : ℕ) → mem c x ≡ stored (old m c) (location m.state c) m.store x =
    λ x. S.known c x (fetch_taken m c a n dest window e).opened in
    rw (
      fetched_reply m.state (length m.store) (length window) (length dest) c a n e,
      count_unknown (old m c) (location m.state c) m.store (mem c) same (span a n) ∙ count_firsts (mem c) window (span a n),
      count_known (old m c) (location m.state c) m.store (mem c) same (span a n),
      looked_known (old m c) (location m.state c) m.store (mem c) same (kept m.state c S.state.whole).up a n,
    )
counts_here m mem (end c) true e S = refl
counts_here m mem (host_write a bytes window) true e S = refl
counts_here m mem (own_write c a bytes window) true e S =
    let same : (x : ℕ) → mem c x ≡ stored (old m c) (location m.state c) m.store x =
    λ x. S.known c x (own_taken_lem m c a bytes window e).opened in
    rw (
      own_reply m.state (length m.store) (length window) c a (length bytes) e,
      count_unknown (old m c) (location m.state c) m.store (mem c) same (span a (length bytes)),
    )
counts_here m mem (show c i) true e S = refl

counts_along : (past : List Event) (m : Machine) (ps : List Call) → Sound m (memory past)
    → told counts_replied past (along event m ps) ≡ told counts_owed past (along event m ps)
unfolding told along memory
counts_along past m [] S = refl
counts_along past m (p ∷ ps) S =
    let ok = accepted (says m p) in
    ap₂ ◌∷◌ (counts_here m (memory past) p ok refl S) (counts_along (event m p ∷ past) (after m p) ps (sound_after m (memory past) p ok refl S))

pub counts_tie : CountsTie
counts_tie store ps = counts_along [] (start store) ps (sound_start store)

-- The bytes that an open command holds are the sum of its counts of what was not held before.

abbrev pub Sums : CommandState → (ℕ → ℕ) → ℕ → Type 0
Sums p sums c = p.opened ≡ true → sums c ≡ total (records_in p)

pub record Summed (m : Machine) (sums : ℕ → ℕ) : Type 0 where
  pub sum : (c : ℕ) → Sums (command_of m.state c) sums c

module _ (m : Machine) (c : ℕ) (next : CommandState) (bytes : List ℕ) (mem : Memory) (S : Sound m mem) (F : Fits m c next bytes)
    (sums then : ℕ → ℕ) (C : Summed m sums)
    (others : (d : ℕ) → d ≢ c → then d ≡ sums d) (own : Sums next then c) where
  summed_replaced : Summed (replaced m c next bytes) then
  summed_replaced = record { sum = each }
    where
      each : (d : ℕ) → Sums (command_of (with_command m.state c next) d) then d
      each d = go (eqb d c) refl
        where
          go : (b : Bool) → eqb d c ≡ b → Sums (command_of (with_command m.state c next) d) then d
          go true e =
              subst (λ (k : ℕ). Sums (command_of (with_command m.state c next) k) then k) (sym (eqb-true d c e))
              (subst (λ (p : CommandState). Sums p then c)
              (sym (command_same m.state c next (omega (arith, eight m.state S.state.shape, F.command)))) own)
          go false e =
              let apart = eqb-false d c e in
              subst (λ (p : CommandState). Sums p then d) (sym (command_other m.state c next d apart)) (λ o. others d apart ∙ C.sum d o)

-- a span held: the bytes of the command are as many more as were not held
module _ (m : Machine) {w d : ℕ} (c a n : ℕ) (value : ℕ → ℕ) (F : Taken m w d c a n) where
  summed_grown : (mem : Memory) (sums then : ℕ → ℕ) → Sound m mem → Summed m sums → ((e : ℕ) → e ≢ c → then e ≡ sums e)
      → then c ≡ sums c + fresh (old m c) a n → Summed (grown_into m c a n value) then
  summed_grown mem sums then S C others more =
      summed_replaced m c (open_with (grown m c a n)) (packed m c a n value) mem S (packed_fits m c a n value F) sums then C others
      (λ o. rw (records_open_with (grown m c a n), more, C.sum c F.opened) (sym (total_joined (old m c) a n (kept m.state c F.whole).up)))

pub summed_after :
    (m : Machine) (mem : Memory) (sums : ℕ → ℕ) (p : Call) (b : Bool) → accepted (says m p) ≡ b → Sound m mem → Summed m sums
    → Summed (after m p) (add sums (says m p) (deed_of b p))
unfolding add total
summed_after m mem sums p false e S C = rw (refused_same m p e) C
summed_after m mem sums (begin c) true e S C =
    rw (begin_after m c e)
    (summed_replaced m c (open_with []) zeros mem S (begin_fits m c e) sums _ C (λ d apart. rw (ne_eqb d c apart)) (λ o. rw (eq-eqb c c refl)))
summed_after m mem sums (fetch c a n dest window) true e S C =
    rw (fetch_after m c a n dest window e)
    (summed_grown m c a n (found m c window) (fetch_taken m c a n dest window e) mem sums _ S C (λ d apart. rw (ne_eqb d c apart))
    (rw (eq-eqb c c refl, fetched_reply m.state (length m.store) (length window) (length dest) c a n e)))
summed_after m mem sums (end c) true e S C =
    rw (end_after m c e) (summed_replaced m c closed zeros mem S (end_fits m c e) sums sums C (λ d apart. refl) (λ o. absurd (false≢true o)))
summed_after m mem sums (host_write a bytes window) true e S C = C
summed_after m mem sums (own_write c a bytes window) true e S C =
    rw (own_after m c a bytes window e)
    (summed_grown m c a (length bytes) (put m c a bytes) (own_taken_lem m c a bytes window e) mem sums _ S C (λ d apart. rw (ne_eqb d c apart))
    (rw (eq-eqb c c refl, own_reply m.state (length m.store) (length window) c a (length bytes) e)))
summed_after m mem sums (show c i) true e S C = C

sum_here : (m : Machine) (sums : ℕ → ℕ) (p : Call) (b : Bool) → accepted (says m p) ≡ b → Summed m sums
    → bytes_in (says m p) (deed_of b p) ≡ sum_by sums (deed_of b p)
sum_here m sums p false e C = refl
sum_here m sums (begin c) true e C = refl
sum_here m sums (fetch c a n dest window) true e C = refl
sum_here m sums (end c) true e C =
    rw (ended_reply m.state (length m.store) c e) (ap (λ (k : ℕ). k ∷ []) (sym (C.sum c (ended_open m.state (length m.store) c e))))
sum_here m sums (host_write a bytes window) true e C = refl
sum_here m sums (own_write c a bytes window) true e C = refl
sum_here m sums (show c i) true e C = refl

sums_along :
    (past : List Event) (m : Machine) (ps : List Call) → Sound m (memory past) → Summed m (fresh_since past)
    → told bytes_replied past (along event m ps) ≡ told sum_owed past (along event m ps)
unfolding told along memory fresh_since
sums_along past m [] S C = refl
sums_along past m (p ∷ ps) S C =
    let ok = accepted (says m p) in
    ap₂ ◌∷◌ (sum_here m (fresh_since past) p ok refl C)
    (sums_along (event m p ∷ past) (after m p) ps (sound_after m (memory past) p ok refl S) (summed_after m (memory past) (fresh_since past) p ok refl S C))

pub summed_start : (store : List ℕ) → Summed (start store) (fresh_since [])
summed_start store = record { sum = λ c o. absurd (false≢true (rw (get_d_same_lem command_limit c closed) at o)) }

pub end_sum : EndSum
end_sum store ps = sums_along [] (start store) ps (sound_start store) (summed_start store)
