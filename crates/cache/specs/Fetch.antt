-- Fetch, as in 01 (the agreed scope) and in request F-6 of 02 (the agreed changes; docs/RULES.md has their rules): the span goes to the
-- destination, and its bytes are held. The answer and the state depend on the lengths of the buffers and on no byte in them.
use Rattle.std.specs.Prelude.{ℕ, List, [], ◌∷◌, ◌++◌, map, cond, length}
use Rattle.octets.specs.Lists.{overwrite}
use Rattle.state.specs.declared.Record.{Record}
use Rattle.state.specs.Records.{span, fresh, replayed, joined, looked}
use Rattle.state.specs.State.{State, records_of, open_with, with_command}
use Rattle.state.specs.Verdict.{Reply, replied, accepted, Check, verdict}
use Rattle.state.specs.Checks.{length_too_long, command_too_high, window_too_long, store_wrong_size, outside_window, buffer_too_short, state_broken, command_not_open}
use Rattle.state.specs.Checks.{too_many_bytes, too_many_records}
use Rattle.store.specs.Store.{location, packed, byte_at, sees}

-- the numbers of a reply: fresh, replayed, and how many records are looked at, of those before the fetch
abbrev pub fetch_numbers : List Record → (a n : ℕ) → List ℕ
fetch_numbers rs a n = fresh rs a n ∷ replayed rs a n ∷ looked rs a n ∷ []

module _ (s : State) (store_len window_len dest_len c a n : ℕ) where
  -- 4, 6 to 10, 20, 21, which are judged before the records are searched
  abbrev pub admit_checks : List Check
  admit_checks =
      length_too_long n ∷ command_too_high c ∷ window_too_long window_len ∷ store_wrong_size store_len ∷ outside_window window_len a n
      ∷ buffer_too_short dest_len n ∷ state_broken s ∷ command_not_open s c ∷ []

  -- and 23, 24
  abbrev pub fetch_checks : List Check
  fetch_checks = admit_checks ++ too_many_bytes (records_of s c) a n ∷ too_many_records (records_of s c) a n ∷ []

  unfoldable pub fetch_says : Reply
  fetch_says = verdict fetch_checks (replied (fetch_numbers (records_of s c) a n))

  unfoldable pub fetch_state : State
  fetch_state = cond (accepted fetch_says) (with_command s c (open_with (joined (records_of s c) a n))) s

module _ (s : State) (store window dest : List ℕ) (c a n : ℕ) where
  -- the bytes of the joined records, as the command sees them, go to the front of its part; the places behind them stay
  unfoldable pub fetch_store : List ℕ
  fetch_store =
      let rs = records_of s c in
      cond (accepted (fetch_says s (length store) (length window) (length dest) c a n))
      (packed store c (joined rs a n) (sees rs (location s c) store (byte_at window))) store

  -- the bytes of the span, as the command sees them, go to the front of the destination; the places behind them stay
  unfoldable pub fetch_dest : List ℕ
  fetch_dest =
      cond (accepted (fetch_says s (length store) (length window) (length dest) c a n))
      (overwrite dest 0 (map (sees (records_of s c) (location s c) store (byte_at window)) (span a n))) dest
