-- Own write, as in 01 (the agreed scope) and in request F-3 of 02 (the agreed changes; docs/RULES.md has their rules): an open command writes
-- bytes into the window, and holds them as if it had fetched them there. The answer and the state depend on the lengths of the buffers and on no
-- byte in them.
use Rattle.std.specs.Prelude.{ℕ, List, [], ◌∷◌, Bool, cond, length}
use Rattle.octets.specs.Lists.{overwrite}
use Rattle.state.specs.Records.{fresh, joined}
use Rattle.state.specs.State.{State, records_of, open_with, with_command}
use Rattle.state.specs.Verdict.{Reply, replied, accepted, Check, verdict}
use Rattle.state.specs.Checks.{length_too_long, command_too_high, window_too_long, store_wrong_size, outside_window, state_broken, command_not_open}
use Rattle.state.specs.Checks.{too_many_bytes, too_many_records}
use Rattle.store.specs.Store.{location, packed, from, sees, written}

-- n is how many bytes are given
module _ (s : State) (store_len window_len c a n : ℕ) where
  -- 4, 6 to 9, 20, 21, 23, 24: those of a fetch but 10, since there is no destination
  abbrev pub own_checks : List Check
  own_checks =
      length_too_long n ∷ command_too_high c ∷ window_too_long window_len ∷ store_wrong_size store_len ∷ outside_window window_len a n ∷ state_broken s
      ∷ command_not_open s c ∷ too_many_bytes (records_of s c) a n ∷ too_many_records (records_of s c) a n ∷ []

  -- the reply: how many bytes were written, and how many of their addresses were not held before
  unfoldable pub own_says : Reply
  own_says = verdict own_checks (replied (n ∷ fresh (records_of s c) a n ∷ []))

  unfoldable pub own_state : State
  own_state = cond (accepted own_says) (with_command s c (open_with (joined (records_of s c) a n))) s

module _ (s : State) (store window : List ℕ) (c a : ℕ) (bytes : List ℕ) where
  abbrev pub own_taken : Bool
  own_taken = accepted (own_says s (length store) (length window) c a (length bytes))

  -- at each address of the joined records the given byte where one is written, and else the held one, go to the front of its part; the places
  -- behind them stay. Outside the span each such address is held, so nothing is asked of `from a bytes` there.
  unfoldable pub own_store : List ℕ
  own_store =
      let rs = records_of s c in
      cond own_taken (packed store c (joined rs a (length bytes)) (written a bytes (sees rs (location s c) store (from a bytes)))) store

  -- the bytes go into the window
  unfoldable pub own_window : List ℕ
  own_window = cond own_taken (overwrite window a bytes) window
