-- A fetch and an own write of length 0 leave everything as it was given.
use Prim.Native.Nat.{ℕ, ◌+◌}
use native.Mathlib.Omega.{arith}
use mathlib.Core.Path.{◌≡◌, refl, sym, fun_ext, ◌∙◌}
use mathlib.Core.List.{List, []}
use mathlib.Core.Bool.{Bool, true, false, false≢true, ◌&&◌}
use lib.Dec.{leb, ltb}
use lib.ListN.{length}
use borrow.Author.Tests.{leb-true, ltb-true}
use Rattle.octets.specs.Lists.{overwrite}
use Rattle.octets.proofs.Overwrite.{overwrite_none}
use Rattle.state.specs.Records.{in_span, span, count_fresh, count_held, joined, looked}
use Rattle.state.specs.State.{has_shape}
use Rattle.state.specs.Verdict.{accepted}
use Rattle.state.proofs.Commands.{kept, command_kept, open_with_own}
use Rattle.words.proofs.StateWords.{shape_of}
use Rattle.store.specs.Store.{part_start, location, byte_at, from, sees}
use Rattle.cache.specs.Fetch.{fetch_dest}
use Rattle.cache.specs.OwnWrite.{own_window}
use Rattle.store.proofs.Parts.{own_bytes}
use Rattle.cache.proofs.Accepted.{fetched_reply, own_reply}
use Rattle.cache.specs.Runs.{fetch, own_write, Machine, given, says, dest_after, window_after}
use Rattle.history.specs.Claims.{Empty, EmptyFetch, EmptyWritten, EmptyWrite}
use Rattle.cache.proofs.Unchanged.{refused_unchanged}
use Rattle.history.proofs.Effects.{old, packed, found, put, grown_into, fetch_after, own_after, Taken, fetch_taken, own_taken_lem}

-- no span more: the bytes written are those that stand there
module _ (m : Machine) {w d : ℕ} (c a : ℕ) (value source : ℕ → ℕ) (seen : value ≡ sees (old m c) (location m.state c) m.store source)
    (shape : has_shape m.state ≡ true) (F : Taken m w d c a 0) where
  packed_same : overwrite m.store (part_start c) (packed m c a 0 value) ≡ m.store
  unfolding joined
  packed_same =
      let K = kept m.state c F.whole in
      rw seen (own_bytes (old m c) c m.store source K.up (omega (arith, K.small, F.command, F.size)))

  grown_same : grown_into m c a 0 value ≡ m
  unfolding joined
  grown_same = λ i. record { state = command_kept m.state c _ (open_with_own m.state c shape F.whole F.opened) i; store = packed_same i }

dest_same : (m : Machine) (c a : ℕ) (dest window : List ℕ) → accepted (says m (fetch c a 0 dest window)) ≡ true
    → dest_after m (fetch c a 0 dest window) ≡ dest
unfolding fetch_dest span
dest_same m c a dest window e = rw e (overwrite_none dest 0)

pub empty_fetch : EmptyFetch
unfolding span count_fresh count_held looked
empty_fetch words store c a dest window = go (accepted (says m (fetch c a 0 dest window))) refl
  where
    m : Machine
    m = given words store

    go : (b : Bool) → accepted (says m (fetch c a 0 dest window)) ≡ b → Empty m c a dest window
    go true e = record {
      unchanged = record {
        machine =
            fetch_after m c a 0 dest window e
            ∙ grown_same m c a (found m c window) (byte_at window) refl (shape_of words) (fetch_taken m c a 0 dest window e);
        dest = dest_same m c a dest window e;
        window = refl;
      };
      reply = λ _. fetched_reply m.state (length m.store) (length window) (length dest) c a 0 e;
    }
    go false e = record { unchanged = refused_unchanged m (fetch c a 0 dest window) e; reply = λ t. absurd (false≢true (sym e ∙ t)) }

-- a span of no bytes has no address, so that a write of none puts no value anywhere
none_in_span : (a x : ℕ) → in_span a 0 x ≡ false
none_in_span a x = go (leb a x) refl (ltb x (a + 0)) refl
  where
    go : (low : Bool) → leb a x ≡ low → (high : Bool) → ltb x (a + 0) ≡ high → (low && high) ≡ false
    go true h true k = absurd (omega (arith, leb-true a x h, ltb-true x (a + 0) k))
    go true h false k = refl
    go false h b k = refl

none_put : (m : Machine) (c a : ℕ) → put m c a [] ≡ sees (old m c) (location m.state c) m.store (from a [])
none_put m c a = fun_ext λ x. rw (none_in_span a x)

window_same : (m : Machine) (c a : ℕ) (window : List ℕ) → accepted (says m (own_write c a [] window)) ≡ true
    → window_after m (own_write c a [] window) ≡ window
unfolding own_window
window_same m c a window e = rw e (overwrite_none window a)

pub empty_write : EmptyWrite
unfolding span count_fresh
empty_write words store c a window = go (accepted (says m (own_write c a [] window))) refl
  where
    m : Machine
    m = given words store

    go : (b : Bool) → accepted (says m (own_write c a [] window)) ≡ b → EmptyWritten m c a window
    go true e = record {
      unchanged = record {
        machine =
            own_after m c a [] window e
            ∙ grown_same m c a (put m c a []) (from a []) (none_put m c a) (shape_of words) (own_taken_lem m c a [] window e);
        dest = refl;
        window = window_same m c a window e;
      };
      reply = λ _. own_reply m.state (length m.store) (length window) c a 0 e;
    }
    go false e = record { unchanged = refused_unchanged m (own_write c a [] window) e; reply = λ t. absurd (false≢true (sym e ∙ t)) }
