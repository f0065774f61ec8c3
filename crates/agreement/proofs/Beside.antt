-- A byte map beside a record engine: the map follows the memory of the events that led to the engine's state. So each call of the command is
-- answered alike by the two, but for the number of records looked at.
use Prim.Native.Nat.{ℕ, ◌+◌, ◌-◌, ◌≤◌, ◌<◌}
use native.Mathlib.Omega.{arith}
use mathlib.Core.Path.{◌≡◌, refl, ap, subst, sym, fun_ext, ◌∙◌}
use mathlib.Core.List.{List, [], ◌∷◌, ◌++◌}
use mathlib.Core.Bool.{Bool, true, false, cond, not, ◌||◌, and-false}
use lib.Dec.{leb, ltb}
use lib.ListN.{length}
use borrow.Author.Tests.{leb-true, lt-leb, ltb-false, le-ltb}
use Rattle.octets.specs.Lists.{count}
use Rattle.state.specs.Limits.{command_limit, held_limit, window_limit, store_size}
use Rattle.state.specs.Records.{in_span, span}
use Rattle.state.specs.Runs.{runs}
use Rattle.state.specs.Verdict.{replied, accepted, without_looked, Check, verdict}
use Rattle.state.proofs.Verdict.{verdict_without, accepted_without}
use Rattle.bits.specs.Bits.{map_limit}
use Rattle.bytemap.specs.Map.{Map, is_held, runs_of, holds}
use Rattle.bytemap.specs.Begin.{begin_says}
use Rattle.bytemap.specs.Fetch.{held_then, runs_then, fresh_count, replayed_count, fetch_says}
use Rattle.bytemap.specs.End.{end_says}
use Rattle.bytemap.specs.OwnWrite.{own_says}
use Rattle.bytemap.specs.Runs as bytemap
use Rattle.cache.specs.Begin.{begin_checks, begin_says as beginByRecords}
use Rattle.cache.specs.End.{end_checks, end_says as endByRecords}
use Rattle.cache.specs.OwnWrite.{own_checks, own_says as ownByRecords}
use Rattle.cache.specs.Runs.{begin, fetch, end, own_write, Machine, says}
use Rattle.history.specs.Journal.{Event}
use Rattle.history.specs.Firsts.{Value, none, memory, held_since}
use Rattle.history.specs.Answers.{open_since, first_count, replay_count, runs_with, bytes_full, records_full, lower_checks, answer_owed}
use Rattle.history.specs.Answers.{held_count as countSince, runs_of as runsSince}
use Rattle.history.proofs.Stored.{memory_held}
use Rattle.history.proofs.Tied.{Tied}
use Rattle.history.proofs.Answers.{answer_here}
use Rattle.agreement.specs.Agreement.{as_command, is_small}
use Rattle.agreement.proofs.Spans.{count_room, count_low, runs_low}
use Rattle.agreement.proofs.Follows.{Follows, follows_holds}

-- what a command last wrote at an address since its begin, or else first fetched there, if it is open; a closed one knows nothing
abbrev pub known_since : List Event → (c x : ℕ) → Value
known_since past c x = cond (open_since past c) (memory past c x) none

pub record Beside (c : ℕ) (m : Map) (j : Machine) : Type 0 where
  pub past : List Event
  pub tied : Tied store_size j past
  pub follows : Follows m (open_since past c) (known_since past c)

module _ {c : ℕ} {m : Map} {j : Machine} (B : Beside c m j) where
  abbrev past : List Event
  past = B.past

  abbrev F : Follows m (open_since past c) (known_since past c)
  F = B.follows

  -- of an open command the map follows the whole memory, and so it holds what the command has fetched or written
  pub follows_open : open_since past c ≡ true → Follows m true (memory past c)
  follows_open o = subst (λ (b : Bool). Follows m b (λ x. cond b (memory past c x) none)) o F

  pub held_here : open_since past c ≡ true → held_since past c ≡ is_held m
  held_here o = fun_ext λ x. sym ((follows_open o).held x ∙ memory_held past c x)

  -- no address from 4,096 on is held
  none_beyond : (x : ℕ) → map_limit ≤ x → is_held m x ≡ false
  none_beyond x far = F.held x ∙ F.low x far

  -- Among all 65,536 addresses there are then as many, and the same runs, as among the first 4,096. So what the calls tell of an open command is
  -- what the map has: the counts, of all addresses and of a span, and the runs.
  module _ (o : open_since past c ≡ true) where
    pub held_count_lem : countSince past c ≡ count (is_held m) (span 0 map_limit)
    held_count_lem =
        ap (λ (f : ℕ → Bool). count f (span 0 window_limit)) (held_here o)
        ∙ count_low (is_held m) 0 map_limit (window_limit - map_limit) (λ x far. none_beyond x (omega arith))

    pub runs_here : runsSince past c ≡ runs_of m
    runs_here = ap runs (held_here o) ∙ runs_low (is_held m) 0 map_limit (window_limit - map_limit) (λ x far. none_beyond x (omega arith))

    module _ (a n : ℕ) where
      first_count_lem : first_count past c a n ≡ fresh_count m a n
      first_count_lem = ap (λ (f : ℕ → Bool). count (λ x. not (f x)) (span a n)) (held_here o)

      replay_count_lem : replay_count past c a n ≡ replayed_count m a n
      replay_count_lem = ap (λ (f : ℕ → Bool). count f (span a n)) (held_here o)

      -- 23 does not apply: those that are held and those that would be are among the first 4,096
      room_left : a + n ≤ map_limit → ltb held_limit (countSince past c + first_count past c a n) ≡ false
      room_left fits =
          le-ltb held_limit (countSince past c + first_count past c a n)
          (omega (arith, held_count_lem, first_count_lem, count_room (is_held m) a n map_limit fits))

      -- and 24 applies to the one where it does to the other
      runs_with_lem : a + n ≤ map_limit → runs_with past c a n ≡ runs_then m a n
      runs_with_lem fits =
          ap (λ (f : ℕ → Bool). runs (λ x. f x || in_span a n x)) (held_here o)
          ∙ runs_low (held_then m a n) 0 map_limit (window_limit - map_limit)
          (λ x far. rw (none_beyond x (omega arith), le-ltb x (a + n) (omega arith)) (and-false (leb a x)))

-- The answers

module _ {c : ℕ} {m : Map} {j : Machine} (B : Beside c m j) (low : c < command_limit) where
  no_command : leb command_limit c ≡ false
  no_command = lt-leb command_limit c low

  whole : holds m ≡ true
  whole = follows_holds B.follows

  begin_same : begin_says m ≡ says j (begin c)
  unfolding answer_owed begin_says verdict
  begin_same = sym (answer_here B.tied (begin c) ∙ rw (no_command, whole, B.follows.same))

  end_same : end_says m ≡ says j (end c)
  unfolding answer_owed end_says verdict
  end_same = sym (answer_here B.tied (end c) ∙ go (open_since B.past c) refl)
    where
      go : (opened : Bool) → open_since B.past c ≡ opened → answer_owed store_size B.past (end c) ≡ end_says m
      go false e = rw (no_command, whole, B.follows.same, e)
      go true e = rw (no_command, whole, B.follows.same, e, runs_here B e, held_count_lem B e, B.follows.ones)

  module _ (window : List ℕ) (small : length window ≤ map_limit) where
    no_window : ltb window_limit (length window) ≡ false
    no_window = le-ltb window_limit (length window) (omega arith)

    no_map : ltb map_limit (length window) ≡ false
    no_map = le-ltb map_limit (length window) small

    fits_map : (a n : ℕ) → ltb (length window) (a + n) ≡ false → a + n ≤ map_limit
    fits_map a n h = omega (arith, ltb-false (length window) (a + n) h)

    pub fetch_same : (a n : ℕ) (dest : List ℕ) → fetch_says m (length window) (length dest) a n ≡ without_looked (says j (fetch c a n dest window))
    unfolding answer_owed fetch_says verdict
    fetch_same a n dest =
        sym
        (ap without_looked (answer_here B.tied (fetch c a n dest window)) ∙ verdict_without checks _
        ∙ go (ltb (length window) (a + n)) refl (open_since B.past c) refl)
      where
        checks : List Check
        checks =
            lower_checks store_size B.past c a n (length dest) (length window) ++ bytes_full B.past c a n ∷ records_full B.past c a n ∷ []

        go : (outside : Bool) → ltb (length window) (a + n) ≡ outside → (opened : Bool) → open_since B.past c ≡ opened
            → verdict checks (replied (first_count B.past c a n ∷ replay_count B.past c a n ∷ []))
            ≡ fetch_says m (length window) (length dest) a n
        go true h o e = rw (no_command, no_window, no_map, h)
        go false h false e = rw (no_command, no_window, no_map, h, whole, B.follows.same, e)
        go false h true e =
            let fits = fits_map a n h in
            rw (
              no_command,
              no_window,
              no_map,
              h,
              whole,
              B.follows.same,
              e,
              room_left B e a n fits,
              runs_with_lem B e a n fits,
              first_count_lem B e a n,
              replay_count_lem B e a n,
            )

    pub own_same : (a : ℕ) (bytes : List ℕ) → own_says m (length window) a (length bytes) ≡ says j (own_write c a bytes window)
    unfolding answer_owed own_says verdict
    own_same a bytes =
        sym (answer_here B.tied (own_write c a bytes window) ∙ go (ltb (length window) (a + length bytes)) refl (open_since B.past c) refl)
      where
        go : (outside : Bool) → ltb (length window) (a + length bytes) ≡ outside → (opened : Bool) → open_since B.past c ≡ opened
            → answer_owed store_size B.past (own_write c a bytes window) ≡ own_says m (length window) a (length bytes)
        go true h o e = rw (no_command, no_window, no_map, h)
        go false h false e = rw (no_command, no_window, no_map, h, whole, B.follows.same, e)
        go false h true e =
            let n = length bytes in
            let fits = fits_map a n h in
            rw (no_command, no_window, no_map, h, whole, B.follows.same, e, room_left B e a n fits, runs_with_lem B e a n fits, first_count_lem B e a n)

  -- the other calls reply two numbers at the most
  pub answer_same : (p : bytemap.Call) → is_small p ≡ true → bytemap.says m p ≡ without_looked (says j (as_command c p))
  unfolding beginByRecords endByRecords ownByRecords
  answer_same bytemap.begin h = begin_same ∙ sym (verdict_without (begin_checks j.state (length j.store) c) [])
  answer_same (bytemap.fetch a n dest window) h = fetch_same window (leb-true (length window) map_limit h) a n dest
  answer_same bytemap.end h = end_same ∙ sym (verdict_without (end_checks j.state (length j.store) c) _)
  answer_same (bytemap.own_write a bytes window) h =
      own_same window (leb-true (length window) map_limit h) a bytes
      ∙ sym (verdict_without (own_checks j.state (length j.store) (length window) c a (length bytes)) _)

  pub taken_same : (p : bytemap.Call) → is_small p ≡ true → accepted (bytemap.says m p) ≡ accepted (says j (as_command c p))
  taken_same p h = ap accepted (answer_same p h) ∙ accepted_without (says j (as_command c p))
