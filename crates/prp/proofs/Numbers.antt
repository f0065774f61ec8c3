-- The numbers that a walk can give: those of its checks, 32, and of those of a fetch all but 4, since the entries of a list page are few.
use Prim.Native.Nat.{ℕ, ◌≤◌}
use native.Mathlib.Omega.{arith}
use mathlib.Core.Path.{◌≡◌, refl}
use mathlib.Core.List.{List, [], ◌∷◌}
use mathlib.Core.Bool.{true}
use borrow.Author.Tests.{le-ltb}
use Rattle.octets.specs.Lists.{all}
use Rattle.octets.proofs.Lists.{and_right}
use Rattle.state.specs.Checks.{length_too_long}
use Rattle.state.specs.Limits.{transfer_limit}
use Rattle.state.specs.State.{State}
use Rattle.state.specs.Verdict.{Reply, replied, Check, verdict, contains, keeps_to}
use Rattle.state.proofs.Verdict.{verdict_keeps}
use Rattle.cache.specs.Fetch.{fetch_says}
use Rattle.prp.specs.Pages.{Walk, offset, reach, needed, with_list}
use Rattle.prp.specs.Entries.{judged}
use Rattle.prp.specs.Walk.{asks_of, makes_one, walk_checks, walk_says}
use Rattle.prp.specs.Claims.{WalkNumbers}
use Rattle.prp.proofs.Answers.{then_first}
use Rattle.prp.proofs.Pages.{count_room}
use Rattle.prp.proofs.Said.{walk_said}
use Rattle.prp.proofs.Listing.{first_made}
use Rattle.prp.proofs.Accepted.{Admitted, admitted}

-- 02's numbers, in their order
abbrev pub walk_numbers : List ℕ
walk_numbers = 31 ∷ 10 ∷ 6 ∷ 7 ∷ 8 ∷ 20 ∷ 21 ∷ 32 ∷ 9 ∷ 23 ∷ 24 ∷ []

-- is an answer one of these, or no refusal?
abbrev keeps : Reply → Type 0
keeps r = keeps_to walk_numbers r ≡ true

-- a fetch that is not too long
short_keeps :
    (n : ℕ) (cs : List Check) (ns : List ℕ) → n ≤ transfer_limit → all (λ c. contains walk_numbers c.number) cs ≡ true
    → keeps (verdict (length_too_long n ∷ cs) (replied ns))
unfolding verdict
short_keeps n cs ns short h = rw (le-ltb transfer_limit n short) (verdict_keeps walk_numbers cs ns h)

fetch_keeps : (s : State) (store_len window_len dest_len c a n : ℕ) → n ≤ transfer_limit → keeps (fetch_says s store_len window_len dest_len c a n)
unfolding fetch_says all contains
fetch_keeps s store_len window_len dest_len c a n short = short_keeps n _ _ short refl

-- at most 16 entries are needed
pub few_needed : (w : Walk) → Admitted w → needed w ≤ 16
few_needed w h = omega (arith, count_room (offset w) (reach w) (omega arith) (omega arith) (omega arith))

pub walk_numbers_lem : WalkNumbers
unfolding walk_says all contains keeps_to
walk_numbers_lem m w =
    let asks = asks_of m in
    let checks = walk_checks m w in
    let few : makes_one asks w checks ≡ true → needed w ≤ 16 =
    λ made. few_needed w (admitted m w (then_first _ (judged checks) (and_right (with_list w) _ made))) in
    walk_said keeps (λ ns. refl) refl asks w checks (verdict_keeps walk_numbers checks [] refl)
    (λ made. fetch_keeps _ _ _ _ _ _ _ (omega (arith, few made)))
    (λ made. fetch_keeps _ _ _ _ _ _ _ (omega (arith, few (first_made asks w checks made))))
