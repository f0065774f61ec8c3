-- A walk leaves the other commands alone: each of its list fetches does.
use Prim.Native.Nat.{ℕ}
use mathlib.Core.Path.{◌≡◌, refl, ◌∙◌}
use mathlib.Core.List.{List, [], ◌∷◌}
use mathlib.Core.Bool.{true, not}
use borrow.Author.Tests.{ne_eqb, not-true}
use Rattle.octets.specs.Lists.{all}
use Rattle.octets.proofs.Lists.{and_left, and_right}
use Rattle.cache.specs.Runs.{Call, Machine, after, ran}
use Rattle.history.specs.Claims.{may_change}
use Rattle.history.proofs.Isolation.{isolation}
use Rattle.prp.specs.Walk.{walk_checks, walk_fetches, asks_of}
use Rattle.prp.proofs.Listing.{fetches_all}
use Rattle.walks.specs.Claims.{LeftAlone, WalkAlone}

-- calls that may not change a command leave it alone
alone_ran : (m : Machine) (ps : List Call) (d : ℕ) → all (λ p. not (may_change p d)) ps ≡ true → LeftAlone m (ran m ps) d
unfolding ran all
alone_ran m [] d h = record { command = refl; bytes = refl }
alone_ran m (p ∷ ps) d h =
    let rest = all (λ q. not (may_change q d)) ps in
    let A = isolation m p d (not-true _ (and_left (not (may_change p d)) rest h)) in
    let L = alone_ran (after m p) ps d (and_right (not (may_change p d)) rest h) in
    record { command = L.command ∙ A.command; bytes = L.bytes ∙ A.bytes }

pub walk_alone : WalkAlone
unfolding walk_fetches
walk_alone m w d apart =
    let same = ne_eqb w.command d apart in
    alone_ran m (walk_fetches m w) d (fetches_all (asks_of m) w (walk_checks m w) (λ p. not (may_change p d)) (rw same) (rw same))
