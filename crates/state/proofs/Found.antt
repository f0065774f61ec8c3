-- What the search finds where the records ascend: a front that lies before the span, a middle that shares a byte with it or touches it,
-- and a back that starts behind it, so that `joined` puts one record in the place of the middle.
use Prim.Native.Nat.{ℕ, zero, suc, ◌+◌, ◌-◌, ◌≤◌, max}
use native.Mathlib.Omega.{arith}
use mathlib.Core.Path.{◌≡◌, refl, ap, sym, ◌∙◌}
use mathlib.Core.List.{List, [], ◌∷◌, ◌++◌, append_assoc}
use mathlib.Core.Bool.{Bool, true, false, cond}
use lib.ListN.{length, take, drop, length-append, take-append-drop}
use lib.Seq.{take_at, drop_at}
use Rattle.state.specs.declared.Record.{Record}
use Rattle.state.specs.declared.Meeting.{Meeting}
use Rattle.state.specs.Limits.{window_limit}
use Rattle.state.specs.Records.{past, total, fresh, keep, meets as meetsSpan, earlier, later, lowest, highest, joined}
use Rattle.state.specs.State.{ascending}
use Rattle.state.specs.Join.{moved, widened, searched, unmet, meeting}
use Rattle.state.specs.Claims.{SearchFinds, SearchJoins}
use Rattle.state.proofs.Cases.{Side, before, meets, after, side, Ascends, ascends, ascending_from}
use Rattle.state.proofs.Parts.{met, first_before, first_meets, all_behind, in_order_lem}
use Rattle.state.proofs.Merge.{between, lowest_min, highest_max, lowest_under, highest_over}
use Rattle.state.proofs.Laws.{total_joined, total_append}
use Rattle.state.proofs.Search.{passed_before, passed_meets, search_stops, search_on}

-- what the search adds on its way over records of which these are before the span, and those meet it
pub record Gathers (before met : List Record) (m s : Meeting) : Type 0 where
  pub first : s.first ≡ m.first + length before
  pub last : s.last ≡ m.last + length before + length met
  pub low : s.low ≡ lowest m.low met
  pub high : s.high ≡ highest m.high met
  pub below : s.below ≡ m.below + total before
  pub held : s.held ≡ m.held + total met

module _ (a e : ℕ) (wide : a ≤ e) where
  -- the search gathers what is before the span and what meets it
  gathers_none : (m : Meeting) → Gathers [] [] m m
  unfolding total lowest highest
  gathers_none m = record {
    first = omega arith;
    last = omega arith;
    low = refl;
    high = refl;
    below = omega arith;
    held = omega arith;
  }

  gathers : (lo : ℕ) (rs : List Record) (m : Meeting) → ascending lo rs ≡ true → Gathers (earlier a rs) (met a e rs) m (searched a e rs m)
  gathers lo [] m up = unfold keep searched in gathers_none m
  gathers lo (r ∷ rs) m up = let u = ascends lo r rs up in go u (side a e r) (λ n. gathers (suc (past r)) rs n u.rest)
    where
      go : Ascends lo r rs → Side a e r → ((n : Meeting) → Gathers (earlier a rs) (met a e rs) n (searched a e rs n))
          → Gathers (earlier a (r ∷ rs)) (met a e (r ∷ rs)) m (searched a e (r ∷ rs) m)
      go u (before k) ih =
          let P = first_before a e wide r rs k in
          let G = ih (moved r m) in
          rw (P.before, P.meeting, search_on a e r rs m (omega arith), passed_before a r m k) (unfold total in record {
            first = omega arith;
            last = omega arith;
            low = G.low;
            high = G.high;
            below = omega arith;
            held = omega arith;
          })
      go u (meets j k) ih =
          let P = first_meets a e wide r rs j k in
          let G = ih (widened r m) in
          rw (P.before, P.meeting, search_on a e r rs m j, passed_meets a r m k) (unfold total lowest highest in record {
            first = omega arith;
            last = omega arith;
            low = G.low ∙ lowest_min r.start m.low (met a e rs);
            high = G.high ∙ highest_max (past r) m.high (met a e rs);
            below = omega arith;
            held = omega arith;
          })
      go u (after k) ih =
          let P = all_behind a e wide r.start (r ∷ rs) (ascending_from r.start u (omega arith)) k in
          rw (P.before, P.meeting, search_stops a e r rs m k) (gathers_none m)

pub search_finds : SearchFinds
unfolding meeting
search_finds rs a n up =
    let m = meeting rs a (a + n) in
    let early = earlier a rs in
    let middle = keep (meetsSpan a n) rs in
    let late = later (a + n) rs in
    let G = gathers a (a + n) (omega arith) 0 rs (unmet a (a + n)) up in
    let parts : rs ≡ early ++ (middle ++ late) = in_order_lem a (a + n) (omega arith) 0 rs up in
    let first : length early ≡ m.first = omega (arith, G.first) in
    let rest : drop m.first rs ≡ middle ++ late = ap (drop m.first) parts ∙ drop_at early (middle ++ late) m.first first in
    let size : length rs ≡ length early + (length middle + length late) = ap length parts ∙ simp length-append in
    record {
      order = omega (arith, G.first, G.last);
      most = omega (arith, G.first, G.last);
      before = ap (take m.first) parts ∙ take_at early (middle ++ late) m.first first;
      met = ap (take (m.last - m.first)) rest ∙ take_at middle late (m.last - m.first) (omega (arith, G.first, G.last));
      behind =
          ap (drop m.last) (parts ∙ sym (append_assoc early middle late))
          ∙ drop_at (early ++ middle) late m.last (simp length-append (omega (arith, G.last)));
      low = G.low;
      high = G.high;
      below = omega (arith, G.below);
      held = omega (arith, G.held);
    }

-- What the search finds of a whole list, for the span of n addresses from a on: numbers, and how `joined` is made of it.
pub record Found (rs : List Record) (a n : ℕ) (m : Meeting) : Type 0 where
  pub order : m.first ≤ m.last
  pub most : m.last ≤ length rs
  pub below : m.below ≡ total (take m.first rs)
  pub held : m.held + m.below ≡ total (take m.last rs)
  pub low : m.low ≤ a
  pub high : a + n ≤ m.high
  pub under : m.high ≤ max (a + n) window_limit
  pub joins : joined rs a n ≡ take m.first rs ++ between m.low m.high ∷ drop m.last rs
  pub counts : fresh rs a n + m.held ≡ m.high - m.low

highest_within : (p : Record → Bool) (e lo : ℕ) (rs : List Record) → ascending lo rs ≡ true → highest e (keep p rs) ≤ max e window_limit
unfolding keep highest
highest_within p e lo [] up = omega arith
highest_within p e lo (r ∷ rs) up = let u = ascends lo r rs up in go u (p r) (highest_within p e (suc (past r)) rs u.rest)
  where
    go : Ascends lo r rs → (b : Bool) → highest e (keep p rs) ≤ max e window_limit → highest e (cond b (r ∷ keep p rs) (keep p rs)) ≤ max e window_limit
    go u true ih = omega (arith, u.fits)
    go u false ih = ih

pub found : (rs : List Record) (a n : ℕ) → ascending 0 rs ≡ true → Found rs a (suc n) (meeting rs a (a + suc n))
unfolding total
found rs a n up =
    let e = a + suc n in
    let m = meeting rs a e in
    let S = search_finds rs a (suc n) up in
    let met = keep (meetsSpan a (suc n)) rs in
    let joins : joined rs a (suc n) ≡ take m.first rs ++ between m.low m.high ∷ drop m.last rs
    = unfold joined in λ i. sym S.before i ++ between (sym S.low i) (sym S.high i) ∷ sym S.behind i in
    let parts : total rs ≡ total (earlier a rs) + (total met + total (later e rs))
    = ap total (in_order_lem a e (omega arith) 0 rs up) ∙ simp total_append in
    let whole : total rs ≡ total (take m.last rs) + total (drop m.last rs)
    = ap total (sym (take-append-drop m.last rs)) ∙ total_append (take m.last rs) (drop m.last rs) in
    let front = ap total S.before in
    let back = ap total S.behind in
    record {
      order = S.order;
      most = S.most;
      below = omega (arith, S.below);
      held = omega (arith, S.held, S.below);
      low = omega (arith, S.low, lowest_under a met);
      high = omega (arith, S.high, highest_over e met);
      under = omega (arith, S.high, highest_within (meetsSpan a (suc n)) e 0 rs up);
      joins = joins;
      counts = omega (
        arith,
        S.held,
        total_joined rs a (suc n) up,
        ap total joins,
        total_append (take m.first rs) (between m.low m.high ∷ drop m.last rs),
      );
    }

pub search_joins : SearchJoins
search_joins rs a zero up some = absurd (omega arith)
search_joins rs a (suc n) up some = let F = found rs a n up in (F.joins, F.counts)
