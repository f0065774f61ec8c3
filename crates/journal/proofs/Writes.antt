-- Midas' second property (docs/RULES.md says what Midas is): the window of a device has at each address the byte of the latest accepted write
-- there, and a first fetch delivers what the window has.
use Prim.Native.Nat.{ℕ, ◌+◌, ◌-◌, ◌≤◌}
use native.Mathlib.Omega.{arith}
use mathlib.Core.Path.{◌≡◌, refl, ap, sym, subst, ◌∙◌}
use mathlib.Core.List.{List, [], ◌∷◌, ◌++◌}
use mathlib.Core.Bool.{Bool, true, false, false≢true, not, cond, ◌&&◌}
use lib.Dec.{leb, ltb}
use lib.ListN.{length, get_or, length-map}
use lib.Seq.{ext_get_or}
use borrow.Author.Tests.{leb-true, leb-false, ltb-true, ltb-false, le-leb, lt-ltb, eq-eqb, not-true}
use Rattle.octets.specs.Lists.{all, overwrite}
use Rattle.octets.proofs.Lists.{both, and_left, and_right}
use Rattle.octets.proofs.Overwrite.{overwrite_inside, overwrite_below, overwrite_above}
use Rattle.state.specs.Records.{in_span, span}
use Rattle.state.specs.Verdict.{accepted}
use Rattle.state.proofs.Places.{length_span}
use Rattle.cache.specs.HostWrite.{host_says, host_window}
use Rattle.cache.specs.OwnWrite.{own_says, own_window}
use Rattle.cache.proofs.Accepted.{host_inside, own_fetched}
use Rattle.cache.specs.Runs.{fetch, end, Machine, says, delivers, along, ran}
use Rattle.history.specs.Journal.{Event, event, backwards, Deed, began, fetched, wrote, ended, other, deed_of, deed}
use Rattle.history.specs.Firsts.{Value, none, some, or_else, Memory, remember, memory, is_known, recall, last_write, first_fetch, write_in, fetch_in, held_since}
use Rattle.history.specs.Firsts.{owed_by}
use Rattle.history.specs.Claims.{renews}
use Rattle.history.proofs.Sound.{Sound, sound_start, sound_ran}
use Rattle.history.proofs.Delivery.{delivers_owed}
use Rattle.history.proofs.SameValue.{delivered_at}
use Rattle.history.proofs.Stored.{memory_held}
use Rattle.device.specs.Step.{Device}
use Rattle.journal.specs.Run.{fresh_device}
use Rattle.journal.specs.Writes.{Request, begins, fetches, ends, host_writes, own_writes, shows, call_on, next, made, left, past_from, writes}
use Rattle.journal.specs.Writes.{byte_for, latest, is_accepted, is_fetched, is_undisturbed, byte_at}
use Rattle.journal.specs.Writes.{before_write, past_of_write, the_write, events_between, before_fetch}
use Rattle.journal.specs.Writes.{FirstGetsLatest, WrittenSeen, SituationK}

-- One call: the window changes where it is an accepted write

module _ (window : List ℕ) (a : ℕ) (bytes : List ℕ) (fits : a + length bytes ≤ length window) where
  overwritten : (x : ℕ) → get_or (overwrite window a bytes) x 0 ≡ cond (in_span a (length bytes) x) (get_or bytes (x - a) 0) (get_or window x 0)
  overwritten x = go (leb a x) (ltb x (a + length bytes)) refl refl
    where
      go : (low high : Bool) → leb a x ≡ low → ltb x (a + length bytes) ≡ high
          → get_or (overwrite window a bytes) x 0 ≡ cond (low && high) (get_or bytes (x - a) 0) (get_or window x 0)
      go true true l h =
          let from = leb-true a x l in
          let below = ltb-true x (a + length bytes) h in
          ap (λ (y : ℕ). get_or (overwrite window a bytes) y 0) (omega arith) ∙ overwrite_inside window bytes a fits (x - a) 0 (omega arith)
      go true false l h = overwrite_above window bytes a fits x 0 (ltb-false x (a + length bytes) h)
      go false high l h = overwrite_below window bytes a fits x 0 (leb-false a x l)

-- a window that is written if the call is accepted
module _ (window : List ℕ) (a : ℕ) (bytes : List ℕ) (x : ℕ) where
  written_if :
      (ok : Bool) → (ok ≡ true → a + length bytes ≤ length window)
      → get_or (cond ok (overwrite window a bytes) window) x 0 ≡ cond (in_span a (length bytes) x && ok) (get_or bytes (x - a) 0) (get_or window x 0)
  written_if true fits = overwritten window a bytes (fits refl) x ∙ go (in_span a (length bytes) x)
    where
      go : (t : Bool) → cond t (get_or bytes (x - a) 0) (get_or window x 0) ≡ cond (t && true) (get_or bytes (x - a) 0) (get_or window x 0)
      go true = refl
      go false = refl
  written_if false fits = go (in_span a (length bytes) x)
    where
      go : (t : Bool) → get_or window x 0 ≡ cond (t && false) (get_or bytes (x - a) 0) (get_or window x 0)
      go true = refl
      go false = refl

window_next :
    (d : Device) (q : Request) (x : ℕ)
    → get_or (next d q).window x 0 ≡ cond (writes x (event d.machine (call_on d q))) (byte_for (call_on d q) x) (get_or d.window x 0)
unfolding host_window own_window
window_next d (begins c) x = refl
window_next d (fetches c a n) x = refl
window_next d (ends c) x = refl
window_next d (host_writes a bytes) x =
    written_if d.window a bytes x (accepted (host_says (length d.window) a (length bytes))) (host_inside (length d.window) a (length bytes))
window_next d (own_writes c a bytes) x =
    let s = d.machine.state in
    let store_len = length d.machine.store in
    let window_len = length d.window in
    written_if d.window a bytes x (accepted (own_says s store_len window_len c a (length bytes)))
    (λ e. (own_fetched s store_len window_len c a (length bytes) e).inside)
window_next d (shows c i) x = refl

-- A list of calls

left_machine : (d : Device) (qs : List Request) → (left d qs).machine ≡ ran d.machine (made d qs)
unfolding left ran made
left_machine d [] = refl
left_machine d (q ∷ qs) = left_machine (next d q) qs

window_left_lem :
    (window : List ℕ) (past : List Event) (d : Device) (qs : List Request) → ((x : ℕ) → get_or d.window x 0 ≡ latest window past x)
    → (x : ℕ) → get_or (left d qs).window x 0 ≡ latest window (past_from past d qs) x
unfolding left made along backwards latest
window_left_lem window past d [] h x = h x
window_left_lem window past d (q ∷ qs) h x =
    window_left_lem window (event d.machine (call_on d q) ∷ past) (next d q) qs (λ y. window_next d q y ∙ rw (h y)) x

-- writes elsewhere, and calls that are no writes, leave the latest byte
latest_stays :
    (window : List ℕ) (past es : List Event) (x : ℕ) → all (λ e. not (writes x e)) es ≡ true → latest window (backwards past es) x ≡ latest window past x
unfolding backwards latest all
latest_stays window past [] x h = refl
latest_stays window past (e ∷ es) x h =
    let here = not-true (writes x e) (and_left (not (writes x e)) _ h) in
    latest_stays window (e ∷ past) es x (and_right (not (writes x e)) _ h) ∙ rw here

-- A first fetch

unknown : (v : Value) → is_known v ≡ false → v ≡ none
unknown none e = refl
unknown (some v) e = absurd (false≢true (sym e))

module _ (store window : List ℕ) (past : List Event) (d : Device) (S : Sound d.machine (memory past))
    (W : (x : ℕ) → get_or d.window x 0 ≡ latest window past x) where
  first_gets : (c a n x : ℕ) → accepted (says d.machine (call_on d (fetches c a n))) ≡ true → in_span a n x ≡ true → held_since past c x ≡ false
      → get_or (delivers d.machine (call_on d (fetches c a n))) (x - a) 0 ≡ latest window past x
  first_gets c a n x taken near first-fetch =
      delivered_at d.machine (memory past) c a n d.dest d.window S taken x near
      ∙ ap (λ (v : Value). recall (or_else v (get_or d.window x 0))) (unknown (memory past c x) (memory_held past c x ∙ first-fetch)) ∙ W x

-- what was called keeps both that the records are sound and that the window has the latest bytes
sound_left :
    (past : List Event) (d : Device) (qs : List Request) → Sound d.machine (memory past)
    → Sound (left d qs).machine (memory (past_from past d qs))
sound_left past d qs S =
    subst (λ (m : Machine). Sound m (memory (past_from past d qs))) (sym (left_machine d qs)) (sound_ran past d.machine (made d qs) S)

pub first_gets_latest : FirstGetsLatest
unfolding latest
first_gets_latest store window dest qs c a n x got firstly =
    let d = fresh_device store window dest in
    let taken = accepted (says (left d qs).machine (call_on (left d qs) (fetches c a n))) in
    first_gets store window (past_from [] d qs) (left d qs) (sound_left [] d qs (sound_start store)) (window_left_lem window [] d qs (λ y. refl)) c a n x
    (and_left taken (in_span a n x) got) (and_right taken (in_span a n x) got) firstly

-- A write before it

module _ (store window dest : List ℕ) (before : List Request) (write : Request) (between : List Request) where
  abbrev d : Device
  d = before_write store window dest before write between

  abbrev past : List Event
  past = past_of_write store window dest before write between

  abbrev e : Event
  e = the_write store window dest before write between

  abbrev es : List Event
  es = events_between store window dest before write between

  abbrev d' : Device
  d' = before_fetch store window dest before write between

  sound_before : Sound d'.machine (memory (backwards (e ∷ past) es))
  unfolding left made along backwards
  sound_before =
      let start = fresh_device store window dest in
      sound_left (e ∷ past) (next d write) between (sound_left past d (write ∷ []) (sound_left [] start before (sound_start store)))

  window_before : (x : ℕ) → get_or d'.window x 0 ≡ latest window (backwards (e ∷ past) es) x
  unfolding latest left made along backwards
  window_before =
      let start = fresh_device store window dest in
      window_left_lem window (e ∷ past) (next d write) between
      (window_left_lem window past d (write ∷ []) (window_left_lem window [] start before (λ y. refl)))

  seen_first :
      (c a n x : ℕ) → is_undisturbed store window dest before write between x ≡ true → is_fetched d' c a n x ≡ true
      → held_since (backwards (e ∷ past) es) c x ≡ false → byte_at d' c a n x ≡ byte_for e.call x
  unfolding latest
  seen_first c a n x calm got firstly =
      let wrote = and_left (writes x e) (all (λ f. not (writes x f)) es) calm in
      let quiet = and_right (writes x e) (all (λ f. not (writes x f)) es) calm in
      let taken = is_accepted d' (fetches c a n) in
      first_gets store window (backwards (e ∷ past) es) d' sound_before window_before c a n x (and_left taken (in_span a n x) got)
      (and_right taken (in_span a n x) got) firstly
      ∙ latest_stays window (e ∷ past) es x quiet ∙ rw wrote

-- A begin after it: what a command has at an address is told by what came since

-- an event looks at what the command had at this address, and at nothing else
remember_at : (d : Deed) (mem mem' : Memory) (c x : ℕ) → mem c x ≡ mem' c x → remember mem d c x ≡ remember mem' d c x
unfolding remember
remember_at (began e) mem mem' c x h = rw h
remember_at (fetched e a n window) mem mem' c x h = rw h
remember_at (wrote e a bytes) mem mem' c x h = rw h
remember_at (ended e) mem mem' c x h = h
remember_at other mem mem' c x h = h

-- and one that renews the address not even at that
renewed_at : (d : Deed) (mem mem' : Memory) (c x : ℕ) → renews c x d ≡ true → remember mem d c x ≡ remember mem' d c x
unfolding remember
renewed_at (began e) mem mem' c x h = rw h
renewed_at (fetched e a n window) mem mem' c x h = absurd (false≢true h)
renewed_at (wrote e a bytes) mem mem' c x h = rw h
renewed_at (ended e) mem mem' c x h = absurd (false≢true h)
renewed_at other mem mem' c x h = absurd (false≢true h)

same_memory :
    (es past past' : List Event) (c x : ℕ) → memory past c x ≡ memory past' c x → memory (backwards past es) c x ≡ memory (backwards past' es) c x
unfolding backwards memory
same_memory [] _ _ c x h = h
same_memory (e ∷ es) past past' c x h = same_memory es (e ∷ past) (e ∷ past') c x (remember_at (deed e) (memory past) (memory past') c x h)

memory_since :
    (es past past' : List Event) (c x : ℕ) → all (λ e. not (renews c x (deed e))) es ≡ false
    → memory (backwards past es) c x ≡ memory (backwards past' es) c x
unfolding backwards memory all
memory_since [] past past' c x h = absurd (false≢true (sym h))
memory_since (e ∷ es) past past' c x h = go (renews c x (deed e)) refl (memory_since es (e ∷ past) (e ∷ past') c x)
  where
    go : (b : Bool) → renews c x (deed e) ≡ b
        → (all (λ f. not (renews c x (deed f))) es ≡ false → memory (backwards (e ∷ past) es) c x ≡ memory (backwards (e ∷ past') es) c x)
        → memory (backwards (e ∷ past) es) c x ≡ memory (backwards (e ∷ past') es) c x
    go true r further = same_memory es (e ∷ past) (e ∷ past') c x (renewed_at (deed e) (memory past) (memory past') c x r)
    go false r further = further (rw r at h)

held_since_renewed :
    (es past past' : List Event) (c x : ℕ) → all (λ e. not (renews c x (deed e))) es ≡ false
    → held_since (backwards past es) c x ≡ held_since (backwards past' es) c x
held_since_renewed es past past' c x h =
    sym (memory_held (backwards past es) c x) ∙ ap is_known (memory_since es past past' c x h) ∙ memory_held (backwards past' es) c x

pub written_seen : WrittenSeen
written_seen store window dest before write between = record {
  first = seen_first store window dest before write between;
  later = λ c a n x calm got begun firstly.
      let past = past_of_write store window dest before write between in
      let e = the_write store window dest before write between in
      let es = events_between store window dest before write between in
      seen_first store window dest before write between c a n x calm got (held_since_renewed es (e ∷ past) [] c x begun ∙ firstly);
}

-- Situation K

-- an end renews nothing, accepted or not, and a begin does
not_renewed : (b : Bool) (c x : ℕ) (rest : Bool) → (not (renews c x (deed_of b (end c))) && rest) ≡ rest
not_renewed true c x rest = refl
not_renewed false c x rest = refl

-- as many bytes as were asked for
delivers_length :
    (m : Machine) (past : List Event) (c a n : ℕ) (dest window : List ℕ) → Sound m (memory past) → accepted (says m (fetch c a n dest window)) ≡ true
    → length (delivers m (fetch c a n dest window)) ≡ n
unfolding owed_by
delivers_length m past c a n dest window S e =
    ap length (delivers_owed m (memory past) (fetch c a n dest window) true e S) ∙ length-map (span a n) _ ∙ length_span a n

pub situation_k : SituationK
unfolding left made along backwards all last_write first_fetch write_in fetch_in
situation_k store window dest before c a bytes hosted begun taken =
    let n = length bytes in
    let past = before ++ fetches c a n ∷ [] in
    let d₁ = left (fresh_device store window dest) past in
    let d₂ = next d₁ (host_writes a bytes) in
    let d₃ = next d₂ (ends c) in
    let d₄ = next d₃ (begins c) in
    let gone = delivers d₄.machine (call_on d₄ (fetches c a n)) in
    let pastOf₁ = past_from [] (fresh_device store window dest) past in
    let S = sound_left pastOf₁ d₁ (host_writes a bytes ∷ ends c ∷ begins c ∷ []) (sound_left [] (fresh_device store window dest) past (sound_start store)) in
    let size : length gone ≡ n
    = delivers_length d₄.machine (past_from pastOf₁ d₁ (host_writes a bytes ∷ ends c ∷ begins c ∷ [])) c a n d₄.dest d₄.window S taken in
    ext_get_or 0 gone bytes size
    (λ i h.
    let in_span_lem : in_span a n (a + i) ≡ true = both (le-leb a (a + i) (omega arith)) (lt-ltb (a + i) (a + n) (omega (arith, size))) in
    let place : a + i - a ≡ i = omega arith in
    subst (λ (k : ℕ). get_or gone k 0 ≡ get_or bytes k 0) place
    ((written_seen store window dest past (host_writes a bytes) (ends c ∷ begins c ∷ [])).later c a n (a + i)
    (both (both in_span_lem hosted) refl)
    (both taken in_span_lem)
    (rw begun (rw (eq-eqb c c refl) (not_renewed (accepted (says d₂.machine (end c))) c (a + i) false)))
    (rw (begun, eq-eqb c c refl))))
