-- After a call the destination, the window and the delivered bytes are alike, and the byte map and the record engine stand beside each other
-- again.
use Prim.Native.Nat.{ℕ, ◌+◌, ◌≤◌, ◌<◌}
use native.Mathlib.Omega.{arith}
use mathlib.Core.Path.{◌≡◌, refl, ap, sym, fun_ext, ◌∙◌}
use mathlib.Core.List.{List, ◌∷◌, map}
use mathlib.Core.Bool.{Bool, true, false, cond}
use lib.ListN.{length, get_or}
use borrow.Author.Tests.{leb-true, le-leb, ltb-false, eq-eqb, not-false}
use Rattle.state.specs.Limits.{command_limit, record_limit, store_size}
use Rattle.state.specs.Records.{span, held, place}
use Rattle.state.specs.State.{records_of, is_open}
use Rattle.state.specs.Verdict.{accepted}
use Rattle.state.proofs.Verdict.{none_applies}
use Rattle.store.specs.Store.{location, byte_at, sees as seesByRecords}
use Rattle.bits.specs.Bits.{map_limit}
use Rattle.bytemap.specs.Map.{Map, is_open as isMapOpen}
use Rattle.bytemap.specs.Begin.{begin_map}
use Rattle.bytemap.specs.Fetch.{runs_then, seen, fetch_says, fetch_map, fetch_dest}
use Rattle.bytemap.specs.End.{end_map}
use Rattle.bytemap.specs.OwnWrite.{own_says, own_map, own_window}
use Rattle.bytemap.specs.Runs as bytemap
use Rattle.cache.specs.Fetch.{fetch_dest as fetchDestByRecords}
use Rattle.cache.specs.OwnWrite.{own_window as ownWindowByRecords}
use Rattle.cache.specs.Runs.{fetch, Machine, says, after, dest_after, window_after, delivers}
use Rattle.history.specs.Journal.{Event, event, deed_of}
use Rattle.history.specs.Firsts.{none, some, or_else, recall, remember, memory}
use Rattle.history.specs.Stores.{phase_by, phase}
use Rattle.history.specs.Answers.{is_running, open_since}
use Rattle.history.proofs.Tied.{Tied, tied_after}
use Rattle.agreement.specs.Agreement.{as_command, is_small}
use Rattle.agreement.proofs.Follows.{Follows, sees_known, cleared_follows, hold_follows, fetch_follows}
use Rattle.agreement.proofs.Beside.{Beside, follows_open, taken_same}

-- what an accepted fetch and an accepted own write of a span tell
record Taken {c : ℕ} {m : Map} {j : Machine} (B : Beside c m j) (a n : ℕ) : Type 0 where
  opened : open_since B.past c ≡ true
  fits : a + n ≤ map_limit
  room : length (runs_then m a n) ≤ record_limit

fetch_taken : {c : ℕ} {m : Map} {j : Machine} (B : Beside c m j) (a n : ℕ) (dest window : List ℕ)
    → accepted (fetch_says m (length window) (length dest) a n) ≡ true → Taken B a n
unfolding fetch_says
fetch_taken {m} B a n dest window e =
    let f = none_applies _ _ e in
    record {
      opened = sym B.follows.same ∙ not-false (isMapOpen m) f.1.1.1.1.1.0;
      fits = omega (arith, ltb-false map_limit (length window) f.1.0, ltb-false (length window) (a + n) f.1.1.0);
      room = ltb-false record_limit (length (runs_then m a n)) f.1.1.1.1.1.1.0;
    }

own_taken_lem : {c : ℕ} {m : Map} {j : Machine} (B : Beside c m j) (a : ℕ) (bytes window : List ℕ)
    → accepted (own_says m (length window) a (length bytes)) ≡ true → Taken B a (length bytes)
unfolding own_says
own_taken_lem {m} B a bytes window e =
    let n = length bytes in
    let f = none_applies _ _ e in
    record {
      opened = sym B.follows.same ∙ not-false (isMapOpen m) f.1.1.1.1.0;
      fits = omega (arith, ltb-false map_limit (length window) f.1.0, ltb-false (length window) (a + n) f.1.1.0);
      room = ltb-false record_limit (length (runs_then m a n)) f.1.1.1.1.1.0;
    }

-- The destinations and the windows

-- what an open command of the record engine sees at an address is the value known there once it is fetched
records_see :
    {j : Machine} {past : List Event} (T : Tied store_size j past) (c : ℕ) → is_open j.state c ≡ true → (window : List ℕ) (x : ℕ)
    → seesByRecords (records_of j.state c) (location j.state c) j.store (byte_at window) x
    ≡ recall (or_else (memory past c x) (get_or window x 0))
records_see {j} T c o window x =
    let rs = records_of j.state c in
    rw (T.sound.known c x o) (go (held rs x) (get_or j.store (location j.state c (place rs x)) 0) (get_or window x 0))
  where
    go : (h : Bool) (u w : ℕ) → cond h u w ≡ recall (or_else (cond h (some u) none) w)
    go true u w = refl
    go false u w = refl

-- and so it is what the byte map's command sees there
spans_same :
    {c : ℕ} {m : Map} {j : Machine} (B : Beside c m j) (a n : ℕ) (dest window : List ℕ) → open_since B.past c ≡ true
    → seen m window a n ≡ map (seesByRecords (records_of j.state c) (location j.state c) j.store (byte_at window)) (span a n)
spans_same {c} B a n dest window o =
    ap (λ (f : ℕ → ℕ). map f (span a n))
    (fun_ext λ x. sees_known (follows_open B o) window x ∙ sym (records_see B.tied c (B.tied.opened c ∙ o) window x))

module _ {c : ℕ} {m : Map} {j : Machine} (B : Beside c m j) (low : c < command_limit) where
  fetch_dest_same : (a n : ℕ) (dest window : List ℕ) → length window ≤ map_limit → fetch_dest m window dest a n ≡ dest_after j (fetch c a n dest window)
  unfolding fetch_dest fetchDestByRecords
  fetch_dest_same a n dest window small =
      go (accepted (fetch_says m (length window) (length dest) a n)) refl
      (taken_same B low (bytemap.fetch a n dest window) (le-leb (length window) map_limit small))
    where
      go : (b : Bool) → accepted (fetch_says m (length window) (length dest) a n) ≡ b
          → accepted (fetch_says m (length window) (length dest) a n) ≡ accepted (says j (fetch c a n dest window))
          → fetch_dest m window dest a n ≡ dest_after j (fetch c a n dest window)
      go true e same = rw (← same, e, spans_same B a n dest window (fetch_taken B a n dest window e).opened)
      go false e same = rw (← same, e)

  pub dest_same : (p : bytemap.Call) → is_small p ≡ true → bytemap.dest_after m p ≡ dest_after j (as_command c p)
  dest_same bytemap.begin h = refl
  dest_same (bytemap.fetch a n dest window) h = fetch_dest_same a n dest window (leb-true (length window) map_limit h)
  dest_same bytemap.end h = refl
  dest_same (bytemap.own_write a bytes window) h = refl

  -- an own write that both take writes the same bytes
  pub window_same : (p : bytemap.Call) → is_small p ≡ true → bytemap.window_after m p ≡ window_after j (as_command c p)
  unfolding own_window ownWindowByRecords
  window_same bytemap.begin h = refl
  window_same (bytemap.fetch a n dest window) h = refl
  window_same bytemap.end h = refl
  window_same (bytemap.own_write a bytes window) h = rw (taken_same B low (bytemap.own_write a bytes window) h)

  -- the delivered bytes are told from answer and destination
  pub delivered_same : (p : bytemap.Call) → is_small p ≡ true → bytemap.delivers m p ≡ delivers j (as_command c p)
  delivered_same bytemap.begin h = rw (taken_same B low bytemap.begin h)
  delivered_same (bytemap.fetch a n dest window) h =
      let p = bytemap.fetch a n dest window in
      rw (taken_same B low p h, dest_same p h)
  delivered_same bytemap.end h = rw (taken_same B low bytemap.end h)
  delivered_same (bytemap.own_write a bytes window) h = rw (taken_same B low (bytemap.own_write a bytes window) h)

-- The map, and what the event of the call makes of the command's phase and memory

module _ {c : ℕ} {m : Map} {j : Machine} (B : Beside c m j) where
  abbrev open_then : bytemap.Call → (taken : Bool) → Bool
  open_then p b = is_running (phase_by (deed_of b (as_command c p)) c (phase B.past c))

  follows_after : (p : bytemap.Call) (b : Bool) → accepted (bytemap.says m p) ≡ b
      → Follows (bytemap.after m p) (open_then p b) (λ x. cond (open_then p b) (remember (memory B.past) (deed_of b (as_command c p)) c x) none)
  unfolding phase_by remember begin_map fetch_map end_map own_map
  follows_after bytemap.begin true e = rw (e, eq-eqb c c refl) (cleared_follows 1)
  follows_after bytemap.begin false e = rw e B.follows
  follows_after (bytemap.fetch a n dest window) true e =
      let t = fetch_taken B a n dest window e in
      rw (e, t.opened, eq-eqb c c refl) (fetch_follows (follows_open B t.opened) window a n t.fits t.room)
  follows_after (bytemap.fetch a n dest window) false e = rw e B.follows
  follows_after bytemap.end true e = rw (e, eq-eqb c c refl) (cleared_follows 0)
  follows_after bytemap.end false e = rw e B.follows
  follows_after (bytemap.own_write a bytes window) true e =
      let t = own_taken_lem B a bytes window e in
      rw (e, t.opened, eq-eqb c c refl) (hold_follows (follows_open B t.opened) a (length bytes) bytes refl t.fits t.room)
  follows_after (bytemap.own_write a bytes window) false e = rw e B.follows

  pub beside_after : c < command_limit → (p : bytemap.Call) → is_small p ≡ true → Beside c (bytemap.after m p) (after j (as_command c p))
  unfolding phase memory
  beside_after low p h = record {
    past = event j (as_command c p) ∷ B.past;
    tied = tied_after store_size j B.past (as_command c p) B.tied;
    follows = follows_after p (accepted (says j (as_command c p))) (taken_same B low p h);
  }
