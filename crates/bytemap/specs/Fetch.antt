-- Fetch: the span goes to the destination, and its bytes are held (request F-2 of 02, the agreed changes; docs/RULES.md has its rules).
use Rattle.std.specs.Prelude.{ℕ, ◌≡◌, List, [], ◌∷◌, Result, map, Bool, not, cond, ◌||◌, ltb, length, get_or}
use Rattle.octets.specs.Lists.{count, overwrite}
use Rattle.state.specs.declared.Record.{Record}
use Rattle.state.specs.declared.refusal.Refusal.TheVariants.{TooManyRecords}
use Rattle.state.specs.Limits.{record_limit}
use Rattle.state.specs.Records.{in_span, span}
use Rattle.state.specs.Refusals.{number}
use Rattle.state.specs.Runs.{runs_from}
use Rattle.state.specs.declared.answer.MapFetchCounts.{MapFetchCounts}
use Rattle.state.specs.declared.refusal.Refusal.{Refusal}
use Rattle.state.specs.Answers.{map_fetch_reply}
use Rattle.state.specs.Verdict.{Reply, replied, accepted, Check, ◌⇒◌, verdict}
use Rattle.state.specs.Checks.{length_too_long, outside_window, buffer_too_short}
use Rattle.bits.specs.Bits.{map_limit, words_of}
use Rattle.bytemap.specs.Map.{Map, is_held, window_beyond_map, map_broken, not_open}

-- a span that is to be held, by a fetch or by an own write
module _ (m : Map) (a n : ℕ) where
  -- which addresses are held once the span is
  abbrev pub held_then : ℕ → Bool
  held_then x = is_held m x || in_span a n x

  -- and their runs
  abbrev pub runs_then : List Record
  runs_then = runs_from held_then 0 map_limit

  -- fresh and replayed: how many addresses of the span are not held, and how many are
  abbrev pub fresh_count : ℕ
  fresh_count = count (λ x. not (is_held m x)) (span a n)

  abbrev pub replayed_count : ℕ
  replayed_count = count (is_held m) (span a n)

  -- the map that holds the span, with these bytes
  abbrev pub holding : (bytes : List ℕ) → Map
  holding bytes = record { flag = m.flag; words = words_of held_then; values = overwrite m.values a bytes }

  -- 24: with the span there would be more than 64 runs
  abbrev pub too_many_runs : Check
  too_many_runs = ltb record_limit (length runs_then) ⇒ number TooManyRecords

module _ (m : Map) (window_len dest_len a n : ℕ) where
  -- 4, 30 in the place of 7, 9, 10, 20, 21, 24
  abbrev pub fetch_checks : List Check
  fetch_checks =
      length_too_long n ∷ window_beyond_map window_len ∷ outside_window window_len a n ∷ buffer_too_short dest_len n ∷ map_broken m ∷ not_open m
      ∷ too_many_runs m a n ∷ []

  -- the reply: fresh, and replayed
  unfoldable pub fetch_says : Reply
  fetch_says = verdict fetch_checks (replied (fresh_count m a n ∷ replayed_count m a n ∷ []))

-- a byte as the command sees it: the held value, or else what the window has
abbrev pub sees : Map → (window : List ℕ) → ℕ → ℕ
sees m window x = cond (is_held m x) (get_or m.values x 0) (get_or window x 0)

-- the bytes of a span, as it sees them
abbrev pub seen : Map → (window : List ℕ) → (a n : ℕ) → List ℕ
seen m window a n = map (sees m window) (span a n)

module _ (m : Map) (window dest : List ℕ) (a n : ℕ) where
  -- the map after it: the span is held, with its bytes as the command sees them
  unfoldable pub fetch_map : Map
  fetch_map = cond (accepted (fetch_says m (length window) (length dest) a n)) (holding m a n (seen m window a n)) m

  -- the destination after it: these bytes are at its front, and the places behind them stay
  unfoldable pub fetch_dest : List ℕ
  fetch_dest = cond (accepted (fetch_says m (length window) (length dest) a n)) (overwrite dest 0 (seen m window a n)) dest

-- the call: its answer, the map and the destination after it; the window is lent to be read, and stays
pub record Fetches (m : Map) (window dest : List ℕ) (a n : ℕ) (r : Result MapFetchCounts Refusal) (m' : Map) (dest' : List ℕ) : Type 0 where
  pub answer : map_fetch_reply r ≡ fetch_says m (length window) (length dest) a n
  pub map : m' ≡ fetch_map m window dest a n
  pub delivered : dest' ≡ fetch_dest m window dest a n
