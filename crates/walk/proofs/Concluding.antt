-- The lists that the walk was lent: as they were, or with the spans at their front.
use Prim.Native.Nat.{ℕ, ◌+◌, ◌<◌}
use native.Mathlib.Omega.{arith}
use mathlib.Core.Path.{◌≡◌, ap, ◌∙◌}
use mathlib.Core.List.{List, [], ◌∷◌, map}
use Rattle.octets.specs.Lists.{overwrite}
use Rattle.state.specs.declared.refusal.Refusal.{Refusal}
use Rattle.state.specs.Records.{span}
use Rattle.state.specs.Verdict.{replied, accepted}
use Rattle.prp.specs.Pages.{Walk, offset, reach, touched, needed, share_in, span_lengths}
use Rattle.prp.specs.Entries.{entries_behind}
use Rattle.std.specs.Prelude.{Result, Ok, Err}
use Rattle.walk.specs.Parts.{Concludes}

module _ (g : Result ℕ Refusal) (w : Walk) (scratch addresses lengths : List ℕ) where
  pub not_gathered : (why : Refusal) → g ≡ Err why → Concludes g w scratch addresses lengths (Err why) addresses lengths
  unfolding accepted
  not_gathered why is = record { answer = rw is; starts = rw is; sizes = rw is }

  pub spans_put :
      (n look : ℕ) (addresses' lengths' : List ℕ) → g ≡ Ok look → n ≡ needed w → 0 < w.transfer
      → addresses' ≡ overwrite addresses 0 (w.prp1 ∷ entries_behind w.prp2 n scratch)
      → lengths' ≡ overwrite lengths 0 (map (share_in (offset w) (reach w)) (span 0 (n + 1)))
      → Concludes g w scratch addresses lengths (Ok (record { spans = n + 1; looked = look })) addresses' lengths'
  unfolding accepted span_lengths
  spans_put n look addresses' lengths' is count some starts sizes =
      let all : n + 1 ≡ touched w = omega (arith, count) in
      record {
        answer = rw is (ap (λ (k : ℕ). replied (k ∷ look ∷ [])) all);
        starts = rw is (starts ∙ ap (λ (k : ℕ). overwrite addresses 0 (w.prp1 ∷ entries_behind w.prp2 k scratch)) count);
        sizes = rw is (sizes ∙ ap (λ (k : ℕ). overwrite lengths 0 (map (share_in (offset w) (reach w)) (span 0 k))) all);
      }
