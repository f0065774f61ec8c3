-- Midas' invariant (docs/RULES.md says what Midas is): until its next begin or its next own write there, a command gets one value at each
-- address that it fetches, and after an own write there the one written.
use Prim.Native.Nat.{ℕ, ◌+◌, ◌-◌, ◌<◌}
use native.Mathlib.Omega.{arith}
use mathlib.Core.Path.{◌≡◌, refl, ap, sym, ◌∙◌}
use mathlib.Core.List.{List, [], ◌∷◌, map, append-nil}
use mathlib.Core.Bool.{Bool, true, false, cond, not, ◌&&◌}
use lib.Dec.{leb, ltb, eqb}
use lib.ListN.{get_or}
use borrow.Author.Tests.{leb-true, ltb-true, eq-eqb, not-true}
use Rattle.octets.specs.Lists.{all}
use Rattle.octets.proofs.Lists.{and_left, and_right}
use Rattle.state.specs.Records.{in_span, span}
use Rattle.state.specs.Verdict.{accepted}
use Rattle.state.proofs.Places.{span_at}
use Rattle.store.specs.Store.{from}
use Rattle.cache.specs.Runs.{Call, fetch, own_write, Machine, start, says, after, along, ran, delivers}
use Rattle.history.specs.Journal.{Event, event, journal, backwards, Deed, began, fetched, wrote, ended, other, deed}
use Rattle.history.specs.Firsts.{Value, none, some, or_else, Memory, remember, memory, recall, owed_by}
use Rattle.history.specs.Claims.{renews, SameValueRule, WrittenValueRule}
use Rattle.history.proofs.Sound.{Sound, sound_start, sound_after, sound_ran}
use Rattle.history.proofs.Delivery.{delivers_owed}

-- a value once fetched or written stays until the command begins anew or writes there
stays : (mem : Memory) (d : Deed) (c x v : ℕ) → mem c x ≡ some v → renews c x d ≡ false → remember mem d c x ≡ some v
unfolding remember
stays mem (began e) c x v known no' = rw no' known
stays mem (fetched e a n window) c x v known no' = rw known (go (eqb c e && in_span a n x))
  where
    go : (t : Bool) → cond t (some v) (some v) ≡ some v
    go true = refl
    go false = refl
stays mem (wrote e a bytes) c x v known no' = rw no' known
stays mem (ended e) c x v known no' = known
stays mem other c x v known no' = known

stays_along :
    (past : List Event) (es : List Event) (c x v : ℕ) → memory past c x ≡ some v → all (λ e. not (renews c x (deed e))) es ≡ true
    → memory (backwards past es) c x ≡ some v
unfolding backwards memory all
stays_along past [] c x v known h = known
stays_along past (e ∷ es) c x v known h =
    let here = not-true (renews c x (deed e)) (and_left (not (renews c x (deed e))) (all (λ f. not (renews c x (deed f))) es) h) in
    let rest = and_right (not (renews c x (deed e))) (all (λ f. not (renews c x (deed f))) es) h in
    stays_along (e ∷ past) es c x v (stays (memory past) (deed e) c x v known here) rest

-- the byte delivered for an address of the span
pub delivered_at :
    (m : Machine) (mem : Memory) (c a n : ℕ) (dest window : List ℕ) → Sound m mem → accepted (says m (fetch c a n dest window)) ≡ true
    → (x : ℕ) → in_span a n x ≡ true → get_or (delivers m (fetch c a n dest window)) (x - a) 0 ≡ recall (or_else (mem c x) (get_or window x 0))
unfolding owed_by
delivered_at m mem c a n dest window S e x near =
    let f : ℕ → ℕ = λ y. recall (or_else (mem c y) (get_or window y 0)) in
    let low = leb-true a x (and_left (leb a x) (ltb x (a + n)) near) in
    let high = ltb-true x (a + n) (and_right (leb a x) (ltb x (a + n)) near) in
    let i : x - a < n = omega arith in
    ap (λ (l : List ℕ). get_or l (x - a) 0) (delivers_owed m mem (fetch c a n dest window) true e S ∙ ap (map f) (sym (append-nil (span a n))))
    ∙ span_at f 0 a n [] (x - a) i ∙ ap f (omega arith)

value_of_lem : (k : Value) (w : ℕ) → or_else k w ≡ some (recall (or_else k w))
value_of_lem none w = refl
value_of_lem (some u) w = refl

-- a fetch delivers what was learnt at a call before it, if nothing between the two renews the address
module _ (store : List ℕ) (before : List Call) (p : Call) (between : List Call) (c a n : ℕ) (dest window : List ℕ) (x v : ℕ) where
  abbrev m : Machine
  m = ran (start store) before

  abbrev past : List Event
  past = backwards [] (journal store before)

  abbrev later : Machine
  later = ran (after m p) between

  delivered_later :
      in_span a n x ≡ true → accepted (says later (fetch c a n dest window)) ≡ true
      → all (λ e. not (renews c x (deed e))) (along event (after m p) between) ≡ true → memory (event m p ∷ past) c x ≡ some v
      → get_or (delivers later (fetch c a n dest window)) (x - a) 0 ≡ v
  unfolding memory
  delivered_later near taken unbroken learnt =
      let rest = along event (after m p) between in
      let S = sound_ran [] (start store) before (sound_start store) in
      let S' = sound_ran (event m p ∷ past) (after m p) between (sound_after m (memory past) p (accepted (says m p)) refl S) in
      let known = stays_along (event m p ∷ past) rest c x v learnt unbroken in
      delivered_at later (memory (backwards (event m p ∷ past) rest)) c a n dest window S' taken x near
      ∙ ap (λ (k : Value). recall (or_else k (get_or window x 0))) known

pub same_value : SameValueRule
unfolding remember memory
same_value store before c a n dest window between a' n' dest' window' x near near' taken taken' unbroken =
    let p = fetch c a n dest window in
    let past = backwards [] (journal store before) in
    let S = sound_ran [] (start store) before (sound_start store) in
    let v = recall (or_else (memory past c x) (get_or window x 0)) in
    let m = ran (start store) before in
    let learnt : memory (event m p ∷ past) c x ≡ some v = rw (taken, eq-eqb c c refl, near) (value_of_lem (memory past c x) (get_or window x 0)) in
    delivered_at m (memory past) c a n dest window S taken x near
    ∙ sym (delivered_later store before p between c a' n' dest' window' x v near' taken' unbroken learnt)

pub written_value : WrittenValueRule
unfolding remember memory
written_value store before c a bytes window between a' n' dest' window' x near near' taken taken' unbroken =
    let p = own_write c a bytes window in
    let past = backwards [] (journal store before) in
    let learnt : memory (event (ran (start store) before) p ∷ past) c x ≡ some (from a bytes x) = rw (taken, eq-eqb c c refl, near) in
    delivered_later store before p between c a' n' dest' window' x (from a bytes x) near' taken' unbroken learnt
