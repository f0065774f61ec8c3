-- The checks in their order: the first that applies is given. Each test that is passed makes its check false, and the rest decide.
use Prim.Native.Nat.{ℕ, ◌+◌, ◌≤◌, ◌<◌}
use native.Mathlib.Omega.{arith}
use mathlib.Core.Path.{◌≡◌, ap, ap₂, sym, ◌∙◌}
use mathlib.Core.List.{List, [], ◌∷◌}
use mathlib.Core.Bool.{true, false, not}
use lib.Dec.{ltb}
use lib.ListN.{length, drop}
use borrow.Author.Tests.{le-ltb, lt-ltb, ltb-false}
use Rattle.state.specs.Limits.{transfer_limit, record_limit}
use Rattle.state.specs.Verdict.{Reply, Check, replied, verdict}
use Rattle.bits.specs.Bits.{map_limit}
use Rattle.bytemap.specs.Map.{Map, map_of, holds}
use Rattle.bytemap.specs.Fetch.{runs_then, fresh_count, replayed_count, fetch_checks, fetch_says}
use Rattle.mapfetch.proofs.Counting.{more_than}
use Rattle.mapfetch.proofs.judge.judge.Goals as goal

-- what is left to decide once the first two checks are passed, once the next two are, and once the next two are
module _ (m : Map) (window_len dest_len a n : ℕ) where
  abbrev checks : List Check
  checks = fetch_checks m window_len dest_len a n

  abbrev reply : Reply
  reply = replied (fresh_count m a n ∷ replayed_count m a n ∷ [])

  past_two : n ≤ transfer_limit → window_len ≤ map_limit → verdict checks reply ≡ verdict (drop 2 checks) reply
  unfolding verdict
  past_two short small = rw (le-ltb transfer_limit n short, le-ltb map_limit window_len small)

  past_four : ltb window_len (a + n) ≡ false → n ≤ dest_len → verdict (drop 2 checks) reply ≡ verdict (drop 4 checks) reply
  unfolding verdict
  past_four inside room = rw (inside, le-ltb dest_len n room)

  past_six : holds m ≡ true → 0 < m.flag → verdict (drop 4 checks) reply ≡ verdict (drop 6 checks) reply
  unfolding verdict
  past_six whole opened = rw (whole, lt-ltb 0 m.flag opened)

pub returns-then-size-gt-TRANSFER : goal.returns-then-size-gt-TRANSFER
unfolding fetch_says verdict
returns-then-size-gt-TRANSFER c = rw (lt-ltb transfer_limit c.args.size (omega arith))

pub returns-then-window_len-gt-ADDRESSES : goal.returns-then-window_len-gt-ADDRESSES
unfolding fetch_says verdict
returns-then-window_len-gt-ADDRESSES c =
    let short : ltb transfer_limit c.args.size ≡ false = le-ltb transfer_limit c.args.size (omega arith) in
    rw (short, lt-ltb map_limit c.args.window_len (omega arith))

pub returns-then-outside : goal.returns-then-outside
unfolding fetch_says verdict
returns-then-outside c =
    let a = c.args in
    let lent : Map = map_of a.flag a.words.now a.values.now in
    let two = past_two lent a.window_len a.destination_len a.address a.size (omega arith) (omega arith) in
    sym (two ∙ rw (sym c.outside.ensures ∙ c.if-outside.true))

pub returns-then-destination_len-size : goal.returns-then-destination_len-size
unfolding fetch_says verdict
returns-then-destination_len-size c =
    let a = c.args in
    let lent : Map = map_of a.flag a.words.now a.values.now in
    let two = past_two lent a.window_len a.destination_len a.address a.size (omega arith) (omega arith) in
    let inside : ltb a.window_len (a.address + a.size) ≡ false = sym c.outside.ensures ∙ c.if-outside.false in
    sym (two ∙ rw (inside, lt-ltb a.destination_len a.size (omega arith)))

pub returns-then-not-holds : goal.returns-then-not-holds
unfolding fetch_says verdict
returns-then-not-holds c =
    let a = c.args in
    let lent : Map = map_of a.flag a.words.now a.values.now in
    let two = past_two lent a.window_len a.destination_len a.address a.size (omega arith) (omega arith) in
    let four = past_four lent a.window_len a.destination_len a.address a.size (sym c.outside.ensures ∙ c.if-outside.false) (omega arith) in
    sym (two ∙ four ∙ rw (sym c.holds.ensures ∙ c.if-not-holds.true))

pub returns-then-flag-eq0 : goal.returns-then-flag-eq0
unfolding fetch_says verdict
returns-then-flag-eq0 c =
    let a = c.args in
    let lent : Map = map_of a.flag a.words.now a.values.now in
    let two = past_two lent a.window_len a.destination_len a.address a.size (omega arith) (omega arith) in
    let four = past_four lent a.window_len a.destination_len a.address a.size (sym c.outside.ensures ∙ c.if-outside.false) (omega arith) in
    let whole : holds lent ≡ true = sym c.holds.ensures ∙ c.if-not-holds.false in
    sym (two ∙ four ∙ rw (whole, le-ltb 0 a.flag (omega arith)))

pub returns-then-not-has_room : goal.returns-then-not-has_room
unfolding fetch_says verdict
returns-then-not-has_room c =
    let a = c.args in
    let lent : Map = map_of a.flag a.words.now a.values.now in
    let two = past_two lent a.window_len a.destination_len a.address a.size (omega arith) (omega arith) in
    let four = past_four lent a.window_len a.destination_len a.address a.size (sym c.outside.ensures ∙ c.if-outside.false) (omega arith) in
    let six = past_six lent a.window_len a.destination_len a.address a.size (sym c.holds.ensures ∙ c.if-not-holds.false) (omega arith) in
    let full = more_than record_limit (length (runs_then lent a.address a.size)) ∙ ap not (sym c.has_room.ensures ∙ c.if-not-has_room.true) in
    sym (two ∙ four ∙ six ∙ rw full)

pub returns : goal.returns
unfolding fetch_says verdict
returns c =
    let a = c.args in
    let lent : Map = map_of a.flag a.words.now a.values.now in
    let two = past_two lent a.window_len a.destination_len a.address a.size (omega arith) (omega arith) in
    let four = past_four lent a.window_len a.destination_len a.address a.size (sym c.outside.ensures ∙ c.if-outside.false) (omega arith) in
    let six = past_six lent a.window_len a.destination_len a.address a.size (sym c.holds.ensures ∙ c.if-not-holds.false) (omega arith) in
    let room = more_than record_limit (length (runs_then lent a.address a.size)) ∙ ap not (sym c.has_room.ensures ∙ c.if-not-has_room.false) in
    ap₂ (λ (f r : ℕ). replied (f ∷ r ∷ [])) c.counted.ensures.fresh c.counted.ensures.replayed ∙ sym (two ∙ four ∙ six ∙ rw room)

pub has_room-requires : goal.has_room-requires
has_room-requires c =
    let a = c.args in
    let inside : ltb a.window_len (a.address + a.size) ≡ false = sym c.outside.ensures ∙ c.if-outside.false in
    (c.runs-runs.ensures, omega (arith, ltb-false a.window_len (a.address + a.size) inside))

pub counted-requires : goal.counted-requires
counted-requires c =
    let a = c.args in
    let inside : ltb a.window_len (a.address + a.size) ≡ false = sym c.outside.ensures ∙ c.if-outside.false in
    omega (arith, ltb-false a.window_len (a.address + a.size) inside)
