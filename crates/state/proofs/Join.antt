-- What joining a span gives: the numbers by which 23 and 24 are judged and, where there is room, the records joined.
use Prim.Native.Nat.{ℕ, zero, suc, ◌+◌}
use native.Mathlib.Omega.{arith}
use mathlib.Core.Path.{refl, sym, subst}
use Rattle.state.specs.Records.{looked}
use Rattle.state.specs.State.{records_in}
use Rattle.state.specs.Cut.{Cut}
use Rattle.state.specs.Join.{meeting, spliced, join, JoinJudged, JoinJoined}
use Rattle.state.proofs.Found.{found}
use Rattle.state.proofs.Cut.{cut_found}
use Rattle.state.proofs.Entries.{fresh_found, count_found, spliced_joined, place_found}
use Rattle.state.proofs.Commands.{kept_command}

pub join_judged : JoinJudged
unfolding join spliced looked
join_judged p a zero some whole = absurd (omega arith)
join_judged p a (suc n) some whole =
    let up = (kept_command p whole).up in
    record {
      bytes = omega (arith, (found (records_in p) a n up).held);
      fresh = fresh_found (records_in p) a n up;
      count = count_found (records_in p) a n up;
      looked = refl;
    }

pub join_joined : JoinJoined
unfolding join
join_joined p a zero some size R = absurd (omega arith)
join_joined p a (suc n) some size R =
    let up = (kept_command p R.whole).up in
    let m = meeting (records_in p) a (a + suc n) in
    let F = found (records_in p) a n up in
    record {
      records = spliced_joined p a n R size;
      place = place_found p a n R size;
      cut = subst (λ (f : ℕ). Cut (records_in p) m f a (a + suc n)) (sym (fresh_found (records_in p) a n up)) (cut_found (records_in p) a n m F up R.fits);
      replaces = F.joins;
    }
