-- What a fetch and an own write leave untouched: the store outside the held bytes of their command, the destination past the span, and the window
-- outside it.
use Prim.Native.Nat.{ℕ, ◌+◌, ◌≤◌}
use native.Mathlib.Omega.{arith}
use mathlib.Core.Path.{◌≡◌, refl, ap, sym, ◌∙◌}
use mathlib.Core.List.{List, map}
use mathlib.Core.Bool.{Bool, true, false}
use lib.ListN.{length, take, drop, length-map}
use Rattle.octets.specs.Lists.{overwrite}
use Rattle.octets.proofs.Overwrite.{overwrite_before, overwrite_behind, overwrite_rest}
use Rattle.state.specs.Records.{span, total}
use Rattle.state.specs.State.{records_of, records_in, open_with, has_shape}
use Rattle.state.specs.Verdict.{accepted}
use Rattle.state.proofs.Places.{length_span}
use Rattle.state.proofs.Commands.{command_same, records_open_with, eight}
use Rattle.words.proofs.StateWords.{shape_of}
use Rattle.store.specs.Store.{part_start}
use Rattle.cache.specs.Fetch.{fetch_dest}
use Rattle.cache.specs.OwnWrite.{own_window}
use Rattle.cache.specs.Runs.{Call, fetch, own_write, Machine, given, says, state_after, store_after, after, dest_after, window_after}
use Rattle.cache.proofs.Unchanged.{refused_same, refused_unchanged}
use Rattle.history.specs.Claims.{StoreBeyond, Beyond, BeyondWritten, BeyondUnchanged}
use Rattle.history.proofs.Effects.{grown, packed, found, put, grown_into, fetch_after, own_after, Taken, fetch_taken, own_taken_lem}
use Rattle.history.proofs.Effects.{packed_fits, length_packed}

-- The store, where a span more is held

module _ (m : Machine) {w d : ℕ} (c a n : ℕ) (value : ℕ → ℕ) (shape : has_shape m.state ≡ true) (F : Taken m w d c a n)
    (p : Call) (grows : after m p ≡ grown_into m c a n value) where
  bytes : List ℕ
  bytes = packed m c a n value

  fits : part_start c + length bytes ≤ length m.store
  unfolding bytes
  fits = omega (arith, (packed_fits m c a n value F).small, F.command, F.size)

  store_is : store_after m p ≡ overwrite m.store (part_start c) bytes
  unfolding bytes
  store_is = ap (λ (k : Machine). k.store) grows

  held_is : part_start c + total (records_of (state_after m p) c) ≡ part_start c + length bytes
  unfolding bytes
  held_is =
      let next = open_with (grown m c a n) in
      ap (λ (k : Machine). part_start c + total (records_of k.state c)) grows
      ∙ ap (λ q. part_start c + total (records_in q)) (command_same m.state c next (omega (arith, eight m.state shape, F.command)))
      ∙ ap (λ rs. part_start c + total rs) (records_open_with (grown m c a n))
      ∙ ap (λ k. part_start c + k) (sym (length_packed m c a n value F))

  store_beyond : StoreBeyond m p c
  store_beyond = record {
    before = ap (take (part_start c)) store_is ∙ overwrite_before m.store bytes (part_start c) fits;
    behind = rw (held_is, store_is) (overwrite_behind m.store bytes (part_start c) fits);
  }

-- and where the call is refused
store_refused : (m : Machine) (p : Call) (c : ℕ) → accepted (says m p) ≡ false → StoreBeyond m p c
store_refused m p c e =
    let same = ap (λ (k : Machine). k.store) (refused_same m p e) in
    record {
      before = ap (take (part_start c)) same;
      behind = ap (drop (part_start c + total (records_of (state_after m p) c))) same;
    }

-- The destination past the span, and the window outside it

dest_rest : (m : Machine) (c a n : ℕ) (dest window : List ℕ) → accepted (says m (fetch c a n dest window)) ≡ true
    → drop n (dest_after m (fetch c a n dest window)) ≡ drop n dest
unfolding fetch_dest
dest_rest m c a n dest window e =
    let delivered = map (found m c window) (span a n) in
    rw e (overwrite_rest dest delivered n (length-map (span a n) (found m c window) ∙ length_span a n))

module _ (m : Machine) (c a : ℕ) (bytes window : List ℕ) (e : accepted (says m (own_write c a bytes window)) ≡ true) where
  window_below : take a (window_after m (own_write c a bytes window)) ≡ take a window
  unfolding own_window
  window_below = rw e (overwrite_before window bytes a (own_taken_lem m c a bytes window e).inside)

  window_above : drop (a + length bytes) (window_after m (own_write c a bytes window)) ≡ drop (a + length bytes) window
  unfolding own_window
  window_above = rw e (overwrite_behind window bytes a (own_taken_lem m c a bytes window e).inside)

module _ (m : Machine) (shape : has_shape m.state ≡ true) where
  fetch_beyond : (c a n : ℕ) (dest window : List ℕ) (b : Bool) → accepted (says m (fetch c a n dest window)) ≡ b → Beyond m c a n dest window
  fetch_beyond c a n dest window true e =
      let F = fetch_taken m c a n dest window e in
      record {
        destination = dest_rest m c a n dest window e;
        store = store_beyond m c a n (found m c window) shape F (fetch c a n dest window) (fetch_after m c a n dest window e);
      }
  fetch_beyond c a n dest window false e = record {
    destination = ap (drop n) (refused_unchanged m (fetch c a n dest window) e).dest;
    store = store_refused m (fetch c a n dest window) c e;
  }

  own_beyond : (c a : ℕ) (bytes window : List ℕ) (b : Bool) → accepted (says m (own_write c a bytes window)) ≡ b → BeyondWritten m c a bytes window
  own_beyond c a bytes window true e =
      let F = own_taken_lem m c a bytes window e in
      record {
        below = window_below m c a bytes window e;
        above = window_above m c a bytes window e;
        store = store_beyond m c a (length bytes) (put m c a bytes) shape F (own_write c a bytes window) (own_after m c a bytes window e);
      }
  own_beyond c a bytes window false e =
      let same = (refused_unchanged m (own_write c a bytes window) e).window in
      record {
        below = ap (take a) same;
        above = ap (drop (a + length bytes)) same;
        store = store_refused m (own_write c a bytes window) c e;
      }

pub beyond_unchanged : BeyondUnchanged
beyond_unchanged words store =
    let shape = shape_of words in
    record {
      fetched = λ c a n dest window. fetch_beyond (given words store) shape c a n dest window _ refl;
      written = λ c a bytes window. own_beyond (given words store) shape c a bytes window _ refl;
    }
