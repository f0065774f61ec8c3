-- What a span that was admitted keeps to, and what 23 and 24 make of it. A fetch and an own write both go this way; they differ in what they reply.
use Prim.Native.Nat.{ℕ, ◌+◌, ◌≤◌, ◌<◌}
use mathlib.Core.Path.{◌≡◌, sym, ◌∙◌, refl}
use mathlib.Core.List.{List, []}
use mathlib.Core.Bool.{true}
use lib.ListN.{length}
use borrow.Author.Tests.{ltb-false, leb-false, le-ltb, lt-ltb, eqb-true, not-false}
use Rattle.state.specs.declared.Record.{Record}
use Rattle.state.specs.declared.refusal.Refusal.TheVariants.{TooManyBytes, TooManyRecords}
use Rattle.state.specs.Limits.{command_limit, record_limit, held_limit, transfer_limit, window_limit, store_size}
use Rattle.state.specs.Records.{total, fresh, joined}
use Rattle.state.specs.State.{State, records_of, is_open, holds}
use Rattle.state.specs.Refusals.{number}
use Rattle.state.specs.Verdict.{Reply, refused, replied, accepted, verdict}
use Rattle.state.proofs.Verdict.{none_applies, verdict_passes, verdict_stops, verdict_goes_on, verdict_gives}
use Rattle.cache.specs.Fetch.{admit_checks, fetch_checks}

-- no check up to 21 bars it
pub record Admits (s : State) (store_len window_len room c a n : ℕ) : Type 0 where
  pub short : n ≤ transfer_limit
  pub command : c < command_limit
  pub low : window_len ≤ window_limit
  pub size : store_len ≡ store_size
  pub inside : a + n ≤ window_len
  pub takes : n ≤ room
  pub whole : holds s ≡ true
  pub opened : is_open s c ≡ true

module _ (s : State) (store_len window_len room c a n : ℕ) (e : accepted (verdict (admit_checks s store_len window_len room c a n) (replied [])) ≡ true) where
  pub admits : Admits s store_len window_len room c a n
  admits =
      let h = none_applies _ _ e in
      let k = h.1.1.1.1 in
      record {
        short = ltb-false _ _ h.0;
        command = leb-false _ _ h.1.0;
        low = ltb-false _ _ h.1.1.0;
        size = eqb-true _ _ (not-false _ h.1.1.1.0);
        inside = ltb-false _ _ k.0;
        takes = ltb-false _ _ k.1.0;
        whole = not-false _ k.1.1.0;
        opened = not-false _ k.1.1.1.0;
      }

  -- then 23 and 24 decide
  module _ (reply : Reply) where
    abbrev rs : List Record
    rs = records_of s c

    abbrev judged : Reply
    judged = verdict (fetch_checks s store_len window_len room c a n) reply

    pub bytes_barred : held_limit < total rs + fresh rs a n → judged ≡ refused (number TooManyBytes)
    bytes_barred h = verdict_passes _ _ _ (admit_checks s store_len window_len room c a n) e ∙ sym (verdict_stops _ _ _ _ (lt-ltb _ _ h))

    module _ (fits : total rs + fresh rs a n ≤ held_limit) where
      pub records_barred : record_limit < length (joined rs a n) → judged ≡ refused (number TooManyRecords)
      records_barred h =
          verdict_passes _ _ _ (admit_checks s store_len window_len room c a n) e
          ∙ sym (verdict_goes_on _ _ _ _ (le-ltb _ _ fits) (verdict_stops _ _ _ _ (lt-ltb _ _ h)))

      pub none_barred : length (joined rs a n) ≤ record_limit → judged ≡ reply
      none_barred few =
          verdict_passes _ _ _ (admit_checks s store_len window_len room c a n) e
          ∙ sym (verdict_goes_on _ _ _ _ (le-ltb _ _ fits) (verdict_goes_on _ _ _ _ (le-ltb _ _ few) (verdict_gives refl)))
