-- What the search of a command's records gives, in the numbers of the code: it is `join`'s, and its sums stay small.
use Prim.Native.Nat.{ℕ, ◌+◌, ◌-◌, ◌≤◌, ◌<◌, min}
use native.Mathlib.Omega.{arith}
use mathlib.Core.Path.{◌≡◌, refl, ap}
use mathlib.Core.Bool.{true}
use lib.ListN.{length, take, drop, take-append-drop}
use Rattle.state.specs.State.{CommandState, records_in, command_holds}
use Rattle.state.specs.declared.Meeting.{Meeting}
use Rattle.state.specs.Join.{Join, meeting, spliced, join, Judged}
use Rattle.state.specs.Limits.{held_limit, window_limit}
use Rattle.state.specs.Records.{total, looked_up_to}
use Rattle.state.proofs.Join.{join_judged}
use Rattle.state.proofs.Commands.{Kept, kept_command}
use Rattle.state.proofs.Laws.{total_append, fresh_by_place}
use Rattle.admission.specs.Plan.{bytes_of}

-- what was looked at is what the join says
pub looks_is : (p : CommandState) (a n : ℕ) → looked_up_to (a + n) (records_in p) ≡ (join p a (a + n)).looked
unfolding join
looks_is p a n = refl

-- what was met gives the parts of the join
module _ (p : CommandState) (a n : ℕ) (m : Meeting) (met : m ≡ meeting (records_in p) a (a + n)) where
  abbrev j : Join
  j = join p a (a + n)

  pub meets : m ≡ j.meeting
  unfolding join
  meets = met

  pub new_is : m.high - m.low - m.held ≡ j.fresh
  unfolding join
  new_is = ap (λ (k : Meeting). k.high - k.low - k.held) met

  pub place_is : m.below + min (a - m.low) window_limit ≡ j.place
  unfolding join
  place_is = ap (λ (k : Meeting). k.below + min (a - k.low) window_limit) met

  pub count_is : m.first + 1 + (length (records_in p) - m.last) ≡ j.command.count
  unfolding join spliced
  count_is = ap (λ (k : Meeting). k.first + 1 + (length (records_in p) - k.last)) met

  abbrev held : ℕ
  held = m.below + m.held + total (drop m.last (records_in p))

  pub bytes_are : held + (m.high - m.low - m.held) ≡ bytes_of p j
  bytes_are =
      omega (
        arith,
        new_is,
        ap (λ (k : Meeting). k.below) meets,
        ap (λ (k : Meeting). k.held) meets,
        ap (λ (k : Meeting). total (drop k.last (records_in p))) meets,
      )

  module _ (whole : command_holds p ≡ true) (some : 0 < n) where
    K : Kept p
    K = kept_command p whole

    judged : Judged p a n j
    judged = join_judged p a n some whole

    -- no sum of the code wraps
    pub held_small : held ≤ held_limit
    held_small =
        let rs = records_in p in
        omega (
          arith,
          K.small,
          judged.bytes,
          ap (λ (k : Meeting). k.below) meets,
          ap (λ (k : Meeting). k.held) meets,
          ap (λ (k : Meeting). total (drop k.last rs)) meets,
          ap total (take-append-drop j.meeting.last rs),
          total_append (take j.meeting.last rs) (drop j.meeting.last rs),
        )

    pub fresh_small : m.high - m.low - m.held ≤ n
    fresh_small = omega (arith, new_is, judged.fresh, fresh_by_place 0 (records_in p) a n K.up)
