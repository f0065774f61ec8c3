-- A span that fills the gap between two records makes one record of the two.
use Prim.Native.Nat.{zero, suc, ◌+◌, ◌-◌}
use native.Mathlib.Omega.{arith}
use mathlib.Core.Path.{◌≡◌, ap, ◌∙◌}
use mathlib.Core.List.{List, [], ◌∷◌, ◌++◌, append-nil}
use mathlib.Core.Bool.{Bool, and-false, and-eq-true_iff}
use lib.Dec.{ltb}
use borrow.Author.Tests.{lt-leb}
use Rattle.state.specs.declared.Record.{Record}
use Rattle.state.specs.Records.{past, keep, meets, earlier, later, lowest, highest, union, joined}
use Rattle.state.specs.Claims.{GapFilled}
use Rattle.state.proofs.Cases.{leb_iff, not_leb_iff, ascends, back_ascends}
use Rattle.state.proofs.Apart.{records_apart}
use Rattle.state.proofs.Keep.{keep_yes, keep_no, keep_all, keep_none, keep_front, drop_front}

pub gap_filled : GapFilled
unfolding joined lowest highest
gap_filled before one next behind zero up fills = absurd (omega (arith, records_apart 0 before one next behind up))
gap_filled before one next behind (suc k) up fills =
    let a = past one in
    let n = suc k in
    let rs : List Record = before ++ one ∷ next ∷ behind in
    let u = back_ascends 0 before one (next ∷ behind) up in
    let v = ascends (suc (past one)) next behind u.rest in
    let ends : Record → Bool = λ r. ltb (past r) a in
    let starts : Record → Bool = λ r. ltb (a + n) r.start in
    let front : earlier a rs ≡ before
    = keep_front ends 0 before one (next ∷ behind) up (λ r h. simp leb_iff (omega arith))
    ∙ ap (λ (l : List Record). before ++ l)
    (keep_no ends one (next ∷ behind) (simp not_leb_iff (omega arith))
    ∙ keep_none ends (suc a) (next ∷ behind) u.rest (λ r h. simp not_leb_iff (omega arith)))
    ∙ append-nil before in
    let two : keep (meets a n) rs ≡ one ∷ next ∷ []
    = drop_front (meets a n) 0 before one (next ∷ behind) up (λ r h. rw (lt-leb a (past r) (omega arith), and-false))
    ∙ keep_yes (meets a n) one (next ∷ behind) (simp (and-eq-true_iff, leb_iff) (omega arith, omega arith))
    ∙ ap (λ (l : List Record). one ∷ l)
    (keep_yes (meets a n) next behind (simp (and-eq-true_iff, leb_iff) (omega arith, omega arith))
    ∙ ap (λ (l : List Record). next ∷ l)
    (keep_none (meets a n) (suc (past next)) behind v.rest (λ r h. rw (lt-leb r.start (a + n) (omega arith))))) in
    let back : later (a + n) rs ≡ behind
    = drop_front starts 0 before one (next ∷ behind) up (λ r h. simp not_leb_iff (omega arith))
    ∙ keep_no starts one (next ∷ behind) (simp not_leb_iff (omega arith))
    ∙ keep_no starts next behind (simp not_leb_iff (omega arith))
    ∙ keep_all starts (suc (past next)) behind v.rest (λ r h. simp leb_iff (omega arith)) in
    let low : (union a n (one ∷ next ∷ [])).start ≡ one.start = omega arith in
    let size : (union a n (one ∷ next ∷ [])).len ≡ past next - one.start = omega arith in
    rw (front, two, back) (λ i. before ++ record { start = low i; len = size i } ∷ behind)
