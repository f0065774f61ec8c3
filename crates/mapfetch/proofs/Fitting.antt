-- What an accepted fetch tells: the span fits wherever it goes.
use Prim.Native.Nat.{ℕ, ◌+◌, ◌≤◌}
use native.Mathlib.Omega.{arith}
use mathlib.Core.Path.{◌≡◌}
use mathlib.Core.Bool.{true}
use lib.ListN.{length}
use borrow.Author.Tests.{ltb-false}
use Rattle.state.specs.Verdict.{accepted}
use Rattle.state.proofs.Verdict.{none_applies}
use Rattle.bits.specs.Bits.{word_limit, map_limit}
use Rattle.bytemap.specs.Map.{Map}
use Rattle.bytemap.specs.Fetch.{fetch_says}
use Rattle.mapfetch.specs.Delivery.{Fits}

pub fetched :
    (m : Map) (window_len dest_len a n : ℕ) → length m.words ≡ word_limit → length m.values ≡ map_limit
    → accepted (fetch_says m window_len dest_len a n) ≡ true → Fits (length m.words) (length m.values) window_len dest_len a n
unfolding fetch_says
fetched m window_len dest_len a n words values e =
    let h = (none_applies _ _ e).1 in
    let small : window_len ≤ map_limit = ltb-false _ _ h.0 in
    let inside : a + n ≤ window_len = ltb-false _ _ h.1.0 in
    record { words = words; values = values; reach = omega arith; window = inside; dest = ltb-false _ _ h.1.1.0 }
