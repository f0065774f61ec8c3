-- Two journals that are read alike but for the bytes of host writes: their calls have all in common but bytes, so that the equal-runs rule holds
-- of their logs.
use Prim.Native.Nat.{ℕ, ◌+◌, ◌≤◌}
use native.Mathlib.Omega.{arith}
use Prim.Native.Char.{code}
use mathlib.Core.Path.{◌≡◌, refl, ap, ap₂, sym, subst, ◌∙◌}
use mathlib.Core.List.{List, [], ◌∷◌, map}
use mathlib.Core.Bool.{Bool, true, false, cond}
use lib.ListN.{length, drop, get_or, replicate, length-map}
use Rattle.octets.specs.Lists.{overwrite}
use Rattle.octets.proofs.Lists.{cons_head, cons_tail}
use Rattle.octets.proofs.Overwrite.{length_overwrite}
use Rattle.state.specs.Records.{span}
use Rattle.state.specs.State.{records_of}
use Rattle.state.specs.Verdict.{Reply, accepted, numbers_of}
use Rattle.state.proofs.Places.{length_span}
use Rattle.store.specs.Store.{location, byte_at, sees}
use Rattle.frames.specs.declared.Step.{Step}
use Rattle.frames.specs.declared.Step.TheVariants.{Begin, Fetch, End, HostWrite, OwnWrite}
use Rattle.cache.specs.Fetch.{fetch_dest}
use Rattle.cache.specs.HostWrite.{host_window}
use Rattle.cache.specs.OwnWrite.{own_window}
use Rattle.cache.proofs.Accepted.{fetched, host_inside, own_fetched}
use Rattle.kinds.specs.Table.{kind_of}
use Rattle.cache.specs.Runs.{Call, fetch, host_write, own_write, Machine, start, says, delivers, along}
use Rattle.history.specs.Journal.{journal, told}
use Rattle.history.specs.Firsts.{firsts}
use Rattle.history.specs.Claims.{blank, common, common_lengths, EqualRuns}
use Rattle.history.proofs.EqualRuns.{equal_runs_lengths}
use Rattle.device.specs.Step.{Device, call_of, device_after}
use Rattle.device.specs.Frame.{step_of}
use Rattle.journal.specs.Run.{Entry, entries, fresh_device, log_from}
use Rattle.journal.specs.Readings.{Reading, readings, step_in, is_host_write, but_host_bytes}
use Rattle.journal.specs.Claims.{calls, of_calls, LogEqualRuns}
use Rattle.journal.proofs.Claims.{journal_is_run}
use Rattle.journal.proofs.Readings.{call_in, then_in, calls_of, calls_of_read, calls_of_unread, calls_by_readings, entry_in, entries_of, entries_of_read}
use Rattle.journal.proofs.Readings.{entries_of_unread, entries_by_readings}

-- Calls alike

record SameLengths (d e : Device) : Type 0 where
  window : length d.window ≡ length e.window
  dest : length d.dest ≡ length e.dest

-- no call changes how long the window and the destination are
length_if : (buffer : List ℕ) (at : ℕ) (bytes : List ℕ) (ok : Bool) → (ok ≡ true → at + length bytes ≤ length buffer)
    → length (cond ok (overwrite buffer at bytes) buffer) ≡ length buffer
length_if buffer at bytes true fits = length_overwrite buffer bytes at (fits refl)
length_if buffer at bytes false fits = refl

window_length : (d : Device) (s : Step) (bytes : List ℕ) → length (device_after d (call_of s bytes d.dest d.window)).window ≡ length d.window
unfolding host_window own_window
window_length d (Begin c) bytes = refl
window_length d (Fetch c a n) bytes = refl
window_length d (End c) bytes = refl
window_length d (HostWrite a n) bytes = length_if d.window a bytes _ (host_inside (length d.window) a (length bytes))
window_length d (OwnWrite c a n) bytes = length_if d.window a bytes _
    (λ e. (own_fetched d.machine.state (length d.machine.store) (length d.window) c a (length bytes) e).inside)

dest_length : (d : Device) (s : Step) (bytes : List ℕ) → length (device_after d (call_of s bytes d.dest d.window)).dest ≡ length d.dest
unfolding fetch_dest
dest_length d (Begin c) bytes = refl
dest_length d (Fetch c a n) bytes =
    let m = d.machine in
    let seen = sees (records_of m.state c) (location m.state c) m.store (byte_at d.window) in
    length_if d.dest 0 (map seen (span a n)) _
    (λ e.
    let F = fetched m.state (length m.store) (length d.window) (length d.dest) c a n e in
    omega (arith, F.dest, length-map (span a n) seen, length_span a n))
dest_length d (End c) bytes = refl
dest_length d (HostWrite a n) bytes = refl
dest_length d (OwnWrite c a n) bytes = refl

lengths_then : (d e : Device) (r s : Reading) → SameLengths d e → SameLengths (then_in d r) (then_in e s)
lengths_then d e r s L = record {
  window = window_length d (step_in r) r.bytes ∙ L.window ∙ sym (window_length e (step_in s) s.bytes);
  dest = dest_length d (step_in r) r.bytes ∙ L.dest ∙ sym (dest_length e (step_in s) s.bytes);
}

blank_same : (w v : List ℕ) → length w ≡ length v → blank w ≡ blank v
blank_same w v e = ap (λ (k : ℕ). replicate k 0) e

module _ (d e : Device) (L : SameLengths d e) where
  step_alike : (s : Step) (b b' : List ℕ) → cond (is_host_write s) (blank b) b ≡ cond (is_host_write s) (blank b') b'
      → common_lengths (call_of s b d.dest d.window) ≡ common_lengths (call_of s b' e.dest e.window)
  unfolding common
  step_alike (Begin c) b b' h = refl
  step_alike (Fetch c a n) b b' h = ap₂ (fetch c a n) (blank_same d.dest e.dest L.dest) (blank_same d.window e.window L.window)
  step_alike (End c) b b' h = refl
  step_alike (HostWrite a n) b b' h = ap₂ (host_write a) h (blank_same d.window e.window L.window)
  step_alike (OwnWrite c a n) b b' h = ap₂ (own_write c a) h (blank_same d.window e.window L.window)

  call_alike : (r s : Reading) → but_host_bytes r ≡ but_host_bytes s → common_lengths (call_in d r) ≡ common_lengths (call_in e s)
  call_alike r s h =
      let said : r.says ≡ s.says = ap (λ (t : Reading). t.says) h in
      subst (λ (q : Step). cond (is_host_write (step_in r)) (blank r.bytes) r.bytes ≡ cond (is_host_write q) (blank s.bytes) s.bytes
      → common_lengths (call_in d r) ≡ common_lengths (call_of q s.bytes e.dest e.window))
      (ap (λ (t : Reply). step_of (drop 1 (numbers_of t))) said) (step_alike (step_in r) r.bytes s.bytes) (ap (λ (t : Reading). t.bytes) h)

abbrev Alike : List Reading → List Reading → Type 0
Alike rs ss = map but_host_bytes rs ≡ map but_host_bytes ss

abbrev says_same : (r s : Reading) → but_host_bytes r ≡ but_host_bytes s → r.says ≡ s.says
says_same r s h = ap (λ (t : Reading). t.says) h

calls_alike : (rs ss : List Reading) (d e : Device) → SameLengths d e → Alike rs ss → map common_lengths (calls_of d rs) ≡ map common_lengths (calls_of e ss)
unfolding calls_of
calls_alike [] [] d e L h = refl
calls_alike [] (s ∷ ss) d e L h = absurd (omega (arith, ap length h))
calls_alike (r ∷ rs) [] d e L h = absurd (omega (arith, ap length h))
calls_alike (r ∷ rs) (s ∷ ss) d e L h =
    go (accepted r.says) refl (calls_alike rs ss (then_in d r) (then_in e s) (lengths_then d e r s L) (cons_tail h))
  where
    go : (b : Bool) → accepted r.says ≡ b → map common_lengths (calls_of (then_in d r) rs) ≡ map common_lengths (calls_of (then_in e s) ss)
        → map common_lengths (calls_of d (r ∷ rs)) ≡ map common_lengths (calls_of e (s ∷ ss))
    go true t others =
        ap (map common_lengths) (calls_of_read d r rs t) ∙ ap₂ ◌∷◌ (call_alike d e L r s (cons_head h)) others
        ∙ sym (ap (map common_lengths) (calls_of_read e s ss (ap accepted (sym (says_same r s (cons_head h))) ∙ t)))
    go false t others =
        ap (map common_lengths) (calls_of_unread d r rs t)
        ∙ sym (ap (map common_lengths) (calls_of_unread e s ss (ap accepted (sym (says_same r s (cons_head h))) ∙ t)))

-- What the entries tell is equal where what the calls give is.

module _ {A B : Type 0} (tells : Entry → A) (f : Machine → Call → B) (read : Reply → B → A) (unread : Reply → A)
    (at_read : (d : Device) (r : Reading) → accepted r.says ≡ true → tells (entry_in d r) ≡ read r.says (f d.machine (call_in d r)))
    (at_unread : (d : Device) (r : Reading) → accepted r.says ≡ false → tells (entry_in d r) ≡ unread r.says) where
  tells_alike : (rs ss : List Reading) (d e : Device) → Alike rs ss → along f d.machine (calls_of d rs) ≡ along f e.machine (calls_of e ss)
      → map tells (entries_of d rs) ≡ map tells (entries_of e ss)
  unfolding entries_of along
  tells_alike [] [] d e h same = refl
  tells_alike [] (s ∷ ss) d e h same = absurd (omega (arith, ap length h))
  tells_alike (r ∷ rs) [] d e h same = absurd (omega (arith, ap length h))
  tells_alike (r ∷ rs) (s ∷ ss) d e h same = go (accepted r.says) refl (tells_alike rs ss (then_in d r) (then_in e s) (cons_tail h))
    where
      said : r.says ≡ s.says
      said = says_same r s (cons_head h)

      go : (b : Bool) → accepted r.says ≡ b
          → (along f (then_in d r).machine (calls_of (then_in d r) rs) ≡ along f (then_in e s).machine (calls_of (then_in e s) ss)
          → map tells (entries_of (then_in d r) rs) ≡ map tells (entries_of (then_in e s) ss))
          → map tells (entries_of d (r ∷ rs)) ≡ map tells (entries_of e (s ∷ ss))
      go true t others =
          let t' = ap accepted (sym said) ∙ t in
          let given : f d.machine (call_in d r) ∷ along f (then_in d r).machine (calls_of (then_in d r) rs)
          ≡ f e.machine (call_in e s) ∷ along f (then_in e s).machine (calls_of (then_in e s) ss)
          = sym (ap (along f d.machine) (calls_of_read d r rs t)) ∙ same ∙ ap (along f e.machine) (calls_of_read e s ss t') in
          ap (map tells) (entries_of_read d r rs t)
          ∙ ap₂ ◌∷◌ (at_read d r t ∙ ap₂ read said (cons_head given) ∙ sym (at_read e s t')) (others (cons_tail given))
          ∙ sym (ap (map tells) (entries_of_read e s ss t'))
      go false t others =
          let t' = ap accepted (sym said) ∙ t in
          ap (map tells) (entries_of_unread d r rs t) ∙ ap (λ (u : A). u ∷ []) (at_unread d r t ∙ ap unread said ∙ sym (at_unread e s t'))
          ∙ sym (ap (map tells) (entries_of_unread e s ss t'))

-- entries that tell the same are the same
entries_same : (es fs : List Entry) → map (λ e. e.readable) es ≡ map (λ e. e.readable) fs → map (λ e. e.letter) es ≡ map (λ e. e.letter) fs
    → map (λ e. e.reply) es ≡ map (λ e. e.reply) fs → map (λ e. e.delivered) es ≡ map (λ e. e.delivered) fs → es ≡ fs
entries_same [] [] a b c d = refl
entries_same [] (f ∷ fs) a b c d = absurd (omega (arith, ap length a))
entries_same (e ∷ es) [] a b c d = absurd (omega (arith, ap length a))
entries_same (e ∷ es) (f ∷ fs) a b c d =
    ap₂ ◌∷◌ (λ i. record { readable = cons_head a i; letter = cons_head b i; reply = cons_head c i; delivered = cons_head d i })
    (entries_same es fs (cons_tail a) (cons_tail b) (cons_tail c) (cons_tail d))

-- The rule

module _ (store window dest one other : List ℕ) (h : Alike (readings one) (readings other)) where
  abbrev d : Device
  d = fresh_device store window dest

  runs : EqualRuns store (calls d one) (calls d other)
  runs =
      equal_runs_lengths store (calls d one) (calls d other)
      (ap (map common_lengths) (calls_by_readings (length one) d one)
      ∙ calls_alike (readings one) (readings other) d d (record { window = refl; dest = refl }) h
      ∙ sym (ap (map common_lengths) (calls_by_readings (length other) d other)))

  -- what f gives along the calls, so along those of the readings
  module _ {A B : Type 0} (tells : Entry → A) (f : Machine → Call → B) (read : Reply → B → A) (unread : Reply → A)
      (at_read : (d : Device) (r : Reading) → accepted r.says ≡ true → tells (entry_in d r) ≡ read r.says (f d.machine (call_in d r)))
      (at_unread : (d : Device) (r : Reading) → accepted r.says ≡ false → tells (entry_in d r) ≡ unread r.says) where
    tell_same : along f (start store) (calls d one) ≡ along f (start store) (calls d other) → map tells (entries d one) ≡ map tells (entries d other)
    tell_same same =
        ap (map tells) (entries_by_readings (length one) d one)
        ∙ tells_alike tells f read unread at_read at_unread (readings one) (readings other) d d h
        (sym (ap (along f (start store)) (calls_by_readings (length one) d one)) ∙ same
        ∙ ap (along f (start store)) (calls_by_readings (length other) d other))
        ∙ sym (ap (map tells) (entries_by_readings (length other) d other))

  same_readable : map (λ e. e.readable) (entries d one) ≡ map (λ e. e.readable) (entries d other)
  same_readable = tell_same (λ e. e.readable) says (λ r a. true) (λ r. false) (λ d r e. e) (λ d r e. e) runs.answers

  same_letters : map (λ e. e.letter) (entries d one) ≡ map (λ e. e.letter) (entries d other)
  same_letters =
      tell_same (λ e. e.letter) says (λ r a. (kind_of (get_or (numbers_of r) 1 0)).letter) (λ r. code "?") (λ d r e. rw e) (λ d r e. rw e) runs.answers

  same_answers : map (λ e. e.reply) (entries d one) ≡ map (λ e. e.reply) (entries d other)
  same_answers = tell_same (λ e. e.reply) says (λ r a. a) (λ r. r) (λ d r e. rw e) (λ d r e. rw e) runs.answers

  same_delivered :
      along delivers (start store) (calls d one) ≡ along delivers (start store) (calls d other)
      → map (λ e. e.delivered) (entries d one) ≡ map (λ e. e.delivered) (entries d other)
  same_delivered = tell_same (λ e. e.delivered) delivers (λ r b. b) (λ r. []) (λ d r e. rw e) (λ d r e. rw e)

  abbrev FirstsAgree : Type 0
  FirstsAgree = told firsts [] (journal store (calls d one)) ≡ told firsts [] (journal store (calls d other))

  same_entries : FirstsAgree → entries d one ≡ entries d other
  same_entries agree = entries_same (entries d one) (entries d other) same_readable same_letters same_answers (same_delivered (runs.exactly.1 agree).1)

  agreeing_firsts : entries d one ≡ entries d other → FirstsAgree
  agreeing_firsts same =
      let bytes : along delivers (start store) (calls d one) ≡ along delivers (start store) (calls d other)
      = sym (journal_is_run d one).delivered ∙ ap (λ (es : List Entry). map (λ e. e.delivered) (of_calls es)) same ∙ (journal_is_run d other).delivered in
      runs.exactly.0 (runs.answers, bytes)

pub log_equal_runs : LogEqualRuns
log_equal_runs store window dest one other h = record {
  letters = same_letters store window dest one other h;
  answers = same_answers store window dest one other h;
  exactly = (agreeing_firsts store window dest one other h, same_entries store window dest one other h);
  log = λ agree. ap (log_from 1) (same_entries store window dest one other h agree);
}
