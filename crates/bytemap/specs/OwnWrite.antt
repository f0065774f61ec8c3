-- Own write: bytes go into the window, and the command holds them as if it had fetched them there (requests F-2 and F-3 of 02, the agreed changes;
-- docs/RULES.md has their rules).
use Rattle.std.specs.Prelude.{ℕ, ◌≡◌, List, [], ◌∷◌, Result, Bool, cond, length}
use Rattle.octets.specs.Lists.{overwrite}
use Rattle.state.specs.declared.answer.OwnWriteCounts.{OwnWriteCounts}
use Rattle.state.specs.declared.refusal.Refusal.{Refusal}
use Rattle.state.specs.Answers.{own_write_reply}
use Rattle.state.specs.Verdict.{Reply, replied, accepted, Check, verdict}
use Rattle.state.specs.Checks.{length_too_long, outside_window}
use Rattle.bytemap.specs.Map.{Map, window_beyond_map, map_broken, not_open}
use Rattle.bytemap.specs.Fetch.{fresh_count, holding, too_many_runs}

-- n is how many bytes are given
module _ (m : Map) (window_len a n : ℕ) where
  -- 4, 30 in the place of 7, 9, 20, 21, 24: those of a fetch but 10, since there is no destination
  abbrev pub own_checks : List Check
  own_checks = length_too_long n ∷ window_beyond_map window_len ∷ outside_window window_len a n ∷ map_broken m ∷ not_open m ∷ too_many_runs m a n ∷ []

  -- the reply: how many bytes were written, and how many of their addresses were not held before
  unfoldable pub own_says : Reply
  own_says = verdict own_checks (replied (n ∷ fresh_count m a n ∷ []))

module _ (m : Map) (window : List ℕ) (a : ℕ) (bytes : List ℕ) where
  abbrev pub own_taken : Bool
  own_taken = accepted (own_says m (length window) a (length bytes))

  -- the map after it: the span is held, with the written bytes, over older values too
  unfoldable pub own_map : Map
  own_map = cond own_taken (holding m a (length bytes) bytes) m

  -- the window after it: the bytes go into it
  unfoldable pub own_window : List ℕ
  own_window = cond own_taken (overwrite window a bytes) window

-- the call: its answer, the map and the window after it
pub record OwnWrites (m : Map) (window : List ℕ) (a : ℕ) (bytes : List ℕ) (r : Result OwnWriteCounts Refusal) (m' : Map) (window' : List ℕ) : Type 0 where
  pub answer : own_write_reply r ≡ own_says m (length window) a (length bytes)
  pub map : m' ≡ own_map m window a bytes
  pub host : window' ≡ own_window m window a bytes
