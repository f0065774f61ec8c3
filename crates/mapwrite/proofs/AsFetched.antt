-- An own write of n bytes is judged as a fetch of its span to a destination of n bytes: of such a fetch 10 never applies.
use Prim.Native.Nat.{ℕ}
use native.Mathlib.Omega.{arith}
use mathlib.Core.Path.{◌≡◌, refl, ap, ◌∙◌}
use mathlib.Core.List.{List, [], ◌∷◌}
use mathlib.Core.Bool.{Bool, true, false}
use lib.ListN.{length, get_or}
use borrow.Author.Tests.{le-ltb}
use Rattle.state.specs.Verdict.{Reply, refused, replied, accepted, Check, verdict}
use Rattle.bits.specs.Bits.{word_limit, map_limit}
use Rattle.bytemap.specs.Map.{Map}
use Rattle.bytemap.specs.Fetch.{fresh_count, replayed_count, fetch_checks, fetch_says}
use Rattle.bytemap.specs.OwnWrite.{own_checks, own_says}
use Rattle.mapfetch.specs.Delivery.{Fits}
use Rattle.mapfetch.proofs.Fitting.{fetched}

-- the answer of an own write of n bytes, from that of such a fetch: the same refusal, or n and the number of fresh bytes
abbrev pub as_written : ℕ → Reply → Reply
as_written n (refused k) = refused k
as_written n (replied numbers) = replied (n ∷ get_or numbers 0 0 ∷ [])

-- a verdict with the one reply, from that of the same checks with the other
verdict_written : (n : ℕ) (cs : List Check) (numbers : List ℕ) → as_written n (verdict cs (replied numbers)) ≡ verdict cs (as_written n (replied numbers))
unfolding verdict
verdict_written n [] numbers = refl
verdict_written n (c ∷ cs) numbers = go c.applies refl (verdict_written n cs numbers)
  where
    go : (b : Bool) → c.applies ≡ b → as_written n (verdict cs (replied numbers)) ≡ verdict cs (as_written n (replied numbers))
        → as_written n (verdict (c ∷ cs) (replied numbers)) ≡ verdict (c ∷ cs) (as_written n (replied numbers))
    go true e rest = rw e
    go false e rest = rw e rest

module _ (m : Map) (window_len a n : ℕ) where
  -- a destination of n bytes has room for n
  just_room : (reply : Reply) → verdict (fetch_checks m window_len n a n) reply ≡ verdict (own_checks m window_len a n) reply
  unfolding verdict
  just_room reply = rw (le-ltb n n (omega arith))

  -- what an own write says, from what such a fetch says
  pub own_as_fetched : as_written n (fetch_says m window_len n a n) ≡ own_says m window_len a n
  unfolding fetch_says own_says
  own_as_fetched = ap (as_written n) (just_room _) ∙ verdict_written n (own_checks m window_len a n) (fresh_count m a n ∷ replayed_count m a n ∷ [])

  -- and so an accepted own write tells what an accepted fetch does: the span fits
  pub own_fits :
      length m.words ≡ word_limit → length m.values ≡ map_limit
      → accepted (own_says m window_len a n) ≡ true → Fits (length m.words) (length m.values) window_len n a n
  unfolding accepted
  own_fits words values e = fetched m window_len n a n words values (alike (fetch_says m window_len n a n) (ap accepted own_as_fetched ∙ e))
    where
      alike : (r : Reply) → accepted (as_written n r) ≡ true → accepted r ≡ true
      alike (refused k) e = e
      alike (replied numbers) e = e
