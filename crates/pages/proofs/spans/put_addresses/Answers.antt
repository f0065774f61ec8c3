-- PRP1 at the front, and behind it PRP2 or the entries.
use Prim.Native.Nat.{ℕ, suc, ◌+◌, ◌<◌}
use native.Mathlib.Omega.{arith}
use mathlib.Core.Path.{◌≡◌, refl, ap, sym, ◌∙◌}
use mathlib.Core.List.{List, [], ◌∷◌}
use lib.ListN.{length, set}
use Rattle.octets.specs.Lists.{overwrite}
use Rattle.prp.specs.Entries.{entries_in, entries_behind}
use Rattle.prp.proofs.Reading.{behind_one_lem, behind_some}
use Rattle.pages.proofs.spans.put_addresses.Goals as goal

-- a first place that is set, and what is written behind it
behind_first : (list : List ℕ) (x : ℕ) (es : List ℕ) → 0 < length list → overwrite (set list 0 x) 1 es ≡ overwrite list 0 (x ∷ es)
behind_first [] x es h = absurd (omega arith)
behind_first (y ∷ list) x es h =
    let one_more : 1 + length es ≡ suc (length es) = omega arith in
    let as_many : 0 + suc (length es) ≡ suc (length es) = omega arith in
    rw (one_more, as_many)

one : (list : List ℕ) (x y : ℕ) → 1 < length list → set (set list 0 x) 1 y ≡ overwrite list 0 (x ∷ y ∷ [])
one [] x y h = absurd (omega arith)
one (u ∷ []) x y h = absurd (omega arith)
one (u ∷ v ∷ list) x y h = refl

pub returns-then-needed-eq1 : goal.returns-then-needed-eq1
returns-then-needed-eq1 c =
    let a = c.args in
    let single : a.needed ≡ 1 = omega arith in
    let behind : entries_behind a.prp2 a.needed a.bytes.now ≡ a.prp2 ∷ [] = rw single (behind_one_lem a.prp2 a.bytes.now) in
    one a.list.now a.prp1 a.prp2 (omega arith) ∙ ap (λ (es : List ℕ). overwrite a.list.now 0 (a.prp1 ∷ es)) (sym behind)

pub returns : goal.returns
returns c =
    let a = c.args in
    let list : List ℕ = a.list.now in
    let bytes : List ℕ = a.bytes.now in
    c.put_entries.ensures ∙ behind_first list a.prp1 (entries_in a.needed bytes) (omega arith)
    ∙ ap (λ (es : List ℕ). overwrite list 0 (a.prp1 ∷ es)) (sym (behind_some a.prp2 a.needed bytes (omega arith)))
