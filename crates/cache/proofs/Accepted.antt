-- What an accepted call tells: none of its checks applies, and its reply is given.
use Prim.Native.Nat.{ℕ, ◌+◌, ◌≤◌, ◌<◌}
use native.Mathlib.Omega.{arith}
use mathlib.Core.Path.{◌≡◌}
use mathlib.Core.List.{[], ◌∷◌}
use mathlib.Core.Bool.{true}
use lib.ListN.{length}
use borrow.Author.Tests.{ltb-false, leb-false, le-ltb, eqb-true, not-false}
use Rattle.state.specs.Limits.{command_limit, record_limit, held_limit, window_limit, store_size}
use Rattle.state.specs.Records.{total, fresh, joined}
use Rattle.state.specs.State.{State, records_of, is_open, holds}
use Rattle.state.specs.Verdict.{Reply, replied, accepted, verdict}
use Rattle.state.proofs.Verdict.{none_applies, given}
use Rattle.cache.specs.Begin.{begin_says}
use Rattle.cache.specs.Fetch.{fetch_numbers, fetch_checks, fetch_says}
use Rattle.cache.specs.End.{end_says}
use Rattle.cache.specs.HostWrite.{host_says}
use Rattle.cache.specs.OwnWrite.{own_checks, own_says}

-- what begin and end have in common
pub record Ready (s : State) (store_len c : ℕ) : Type 0 where
  pub command : c < command_limit
  pub size : store_len ≡ store_size
  pub whole : holds s ≡ true

pub begun : (s : State) (store_len c : ℕ) → accepted (begin_says s store_len c) ≡ true → Ready s store_len c
unfolding begin_says
begun s store_len c e =
    let h = none_applies _ _ e in
    record { command = leb-false _ _ h.0; size = eqb-true _ _ (not-false _ h.1.0); whole = not-false _ h.1.1.0 }

pub ended : (s : State) (store_len c : ℕ) → accepted (end_says s store_len c) ≡ true → Ready s store_len c
unfolding end_says
ended s store_len c e =
    let h = none_applies _ _ e in
    record { command = leb-false _ _ h.0; size = eqb-true _ _ (not-false _ h.1.0); whole = not-false _ h.1.1.0 }

pub ended_open : (s : State) (store_len c : ℕ) → accepted (end_says s store_len c) ≡ true → is_open s c ≡ true
unfolding end_says
ended_open s store_len c e = not-false _ (none_applies _ _ e).1.1.1.0

pub ended_reply : (s : State) (store_len c : ℕ) → accepted (end_says s store_len c) ≡ true
    → end_says s store_len c ≡ replied (length (records_of s c) ∷ total (records_of s c) ∷ [])
unfolding end_says
ended_reply s store_len c e = given _ _ e

pub record Fetched (s : State) (store_len window_len dest_len c a n : ℕ) : Type 0 where
  pub command : c < command_limit
  pub low : window_len ≤ window_limit
  pub size : store_len ≡ store_size
  pub inside : a + n ≤ window_len
  pub dest : n ≤ dest_len
  pub whole : holds s ≡ true
  pub opened : is_open s c ≡ true
  pub room : total (records_of s c) + fresh (records_of s c) a n ≤ held_limit
  pub few : length (joined (records_of s c) a n) ≤ record_limit

-- no check of a fetch applies
unbarred : (s : State) (store_len window_len dest_len c a n : ℕ) (r : Reply) → accepted (verdict (fetch_checks s store_len window_len dest_len c a n) r) ≡ true
    → Fetched s store_len window_len dest_len c a n
unbarred s store_len window_len dest_len c a n r e =
    let h = (none_applies _ _ e).1 in
    let k = h.1.1.1.1 in
    record {
      command = leb-false _ _ h.0;
      low = ltb-false _ _ h.1.0;
      size = eqb-true _ _ (not-false _ h.1.1.0);
      inside = ltb-false _ _ h.1.1.1.0;
      dest = ltb-false _ _ k.0;
      whole = not-false _ k.1.0;
      opened = not-false _ k.1.1.0;
      room = ltb-false _ _ k.1.1.1.0;
      few = ltb-false _ _ k.1.1.1.1.0;
    }

module _ (s : State) (store_len window_len dest_len c a n : ℕ) (e : accepted (fetch_says s store_len window_len dest_len c a n) ≡ true) where
  pub fetched : Fetched s store_len window_len dest_len c a n
  unfolding fetch_says
  fetched = unbarred s store_len window_len dest_len c a n _ e

  pub fetched_reply : fetch_says s store_len window_len dest_len c a n ≡ replied (fetch_numbers (records_of s c) a n)
  unfolding fetch_says
  fetched_reply = given _ _ e

-- an accepted host write lies inside the window
pub host_inside : (window_len a n : ℕ) → accepted (host_says window_len a n) ≡ true → a + n ≤ window_len
unfolding host_says
host_inside window_len a n e = ltb-false _ _ (none_applies _ _ e).1.1.0

-- An own write is judged as a fetch of its span into a destination that has room for it.
pub own_judged : (s : State) (store_len window_len c a n : ℕ) (r : Reply)
    → verdict (own_checks s store_len window_len c a n) r ≡ verdict (fetch_checks s store_len window_len n c a n) r
unfolding verdict
own_judged s store_len window_len c a n r = rw (le-ltb n n (omega arith))

module _ (s : State) (store_len window_len c a n : ℕ) (e : accepted (own_says s store_len window_len c a n) ≡ true) where
  pub own_fetched : Fetched s store_len window_len n c a n
  unfolding own_says
  own_fetched = unbarred s store_len window_len n c a n _ (rw (own_judged s store_len window_len c a n _) at e)

  pub own_reply : own_says s store_len window_len c a n ≡ replied (n ∷ fresh (records_of s c) a n ∷ [])
  unfolding own_says
  own_reply = given _ _ e
