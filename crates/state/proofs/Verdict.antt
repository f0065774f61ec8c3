-- What a verdict tells: an accepted call's checks are all false, and where the numbers ascend the lowest that applies is given.
use Prim.Native.Nat.{ℕ, ◌≤◌, ◌<◌}
use native.Mathlib.Omega.{arith}
use mathlib.Core.Path.{◌≡◌, refl, ap, sym, ◌∙◌}
use mathlib.Core.Logic.{◌≢◌}
use mathlib.Core.List.{List, [], ◌∷◌, ◌++◌}
use mathlib.Core.Bool.{Bool, true, false, false≢true, cond, not, ◌&&◌}
use lib.Dec.{ltb, eqb}
use lib.ListN.{take}
use borrow.Author.Tests.{ltb-true, eq-eqb}
use Rattle.octets.specs.Lists.{all}
use Rattle.octets.proofs.Lists.{and_left, and_right}
use Rattle.state.specs.Verdict.{Reply, refused, replied, accepted, without_looked, Check, ◌⇒◌, verdict}
use Rattle.state.specs.Verdict.{numbers, applying, ascend_from, minimum, lowest_or, contains, keeps_to}

-- Accepted

abbrev pub AllFalse : List Check → Type 0
AllFalse [] = Unit {0}
AllFalse (c ∷ cs) = (c.applies ≡ false) × AllFalse cs

clear : (b : Bool) (n : ℕ) (cs : List Check) (reply : Reply) → accepted (verdict (b ⇒ n ∷ cs) reply) ≡ true → (b ≡ false) × (accepted (verdict cs reply) ≡ true)
unfolding accepted verdict
clear true n cs reply e = absurd (false≢true e)
clear false n cs reply e = (refl, e)

pub none_applies : (cs : List Check) (reply : Reply) → accepted (verdict cs reply) ≡ true → AllFalse cs
none_applies [] reply e = tt
none_applies (c ∷ cs) reply e = let h = clear c.applies c.number cs reply e in (h.0, none_applies cs reply h.1)

-- an accepted call gives its reply
pub given : (cs : List Check) (reply : Reply) → accepted (verdict cs reply) ≡ true → verdict cs reply ≡ reply
unfolding verdict
given [] reply e = refl
given (c ∷ cs) reply e = let h = clear c.applies c.number cs reply e in rw h.0 (given cs reply h.1)

-- The lowest

-- a number below all of a list that ascends is its minimum with those of the list that apply
lowest_first : (k floor : ℕ) (cs : List Check) → k ≤ floor → ascend_from floor (numbers cs) ≡ true → minimum k (applying cs) ≡ k
unfolding ascend_from applying
lowest_first k floor [] low up = refl
lowest_first k floor (c ∷ cs) low up =
    let above = ltb-true _ _ (and_left (ltb floor c.number) _ up) in
    go c.applies above (lowest_first k c.number cs (omega arith) (and_right (ltb floor c.number) _ up))
  where
    go : (b : Bool) → floor < c.number → minimum k (applying cs) ≡ k → minimum k (cond b (c.number ∷ applying cs) (applying cs)) ≡ k
    go true above ih = omega arith
    go false above ih = ih

pub verdict_lowest : (floor : ℕ) (cs : List Check) (reply : Reply) → ascend_from floor (numbers cs) ≡ true → verdict cs reply ≡ lowest_or (applying cs) reply
unfolding verdict ascend_from applying lowest_or
verdict_lowest floor [] reply up = refl
verdict_lowest floor (c ∷ cs) reply up =
    let rest = and_right (ltb floor c.number) _ up in
    go c.applies refl (lowest_first c.number c.number cs (omega arith) rest) (verdict_lowest c.number cs reply rest)
  where
    go : (b : Bool) → c.applies ≡ b → minimum c.number (applying cs) ≡ c.number → verdict cs reply ≡ lowest_or (applying cs) reply
        → verdict (c ∷ cs) reply ≡ lowest_or (cond b (c.number ∷ applying cs) (applying cs)) reply
    go true e first ih = rw (e, first)
    go false e first ih = rw e ih

-- a number is not given where none of the checks that bear it applies
pub never_given : (k : ℕ) (cs : List Check) (ns : List ℕ) → all (λ c. not (eqb c.number k && c.applies)) cs ≡ true → verdict cs (replied ns) ≢ refused k
unfolding verdict all
never_given k [] ns h = λ e. let z : ◌≡◌ {A = ℕ} 0 1 = cc in omega arith
never_given k (c ∷ cs) ns h =
    go c.applies refl (and_left (not (eqb c.number k && c.applies)) _ h) (never_given k cs ns (and_right (not (eqb c.number k && c.applies)) _ h))
  where
    go : (b : Bool) → c.applies ≡ b → not (eqb c.number k && c.applies) ≡ true → verdict cs (replied ns) ≢ refused k
        → verdict (c ∷ cs) (replied ns) ≢ refused k
    go true a t ih e =
        let given_this = rw a at e in
        let is : c.number ≡ k = cc in
        false≢true (rw (a, eq-eqb c.number k is) at t)
    go false a t ih e = ih (rw a at e)

-- the number given is one of those of the checks
pub verdict_keeps :
    (ks : List ℕ) (cs : List Check) (ns : List ℕ) → all (λ c. contains ks c.number) cs ≡ true → keeps_to ks (verdict cs (replied ns)) ≡ true
unfolding verdict all keeps_to
verdict_keeps ks [] ns h = refl
verdict_keeps ks (c ∷ cs) ns h =
    go c.applies refl (and_left (contains ks c.number) _ h) (verdict_keeps ks cs ns (and_right (contains ks c.number) _ h))
  where
    go : (b : Bool) → c.applies ≡ b → contains ks c.number ≡ true → keeps_to ks (verdict cs (replied ns)) ≡ true
        → keeps_to ks (verdict (c ∷ cs) (replied ns)) ≡ true
    go true e first rest = rw e first
    go false e first rest = rw e rest

-- The numbers of the reply decide neither whether a call is accepted nor with which number it is refused.
module _ (ns ks : List ℕ) where
  pub accepted_alike : (cs : List Check) → accepted (verdict cs (replied ns)) ≡ accepted (verdict cs (replied ks))
  unfolding verdict accepted
  accepted_alike [] = refl
  accepted_alike (c ∷ cs) = go c.applies refl (accepted_alike cs)
    where
      go : (b : Bool) → c.applies ≡ b → accepted (verdict cs (replied ns)) ≡ accepted (verdict cs (replied ks))
          → accepted (verdict (c ∷ cs) (replied ns)) ≡ accepted (verdict (c ∷ cs) (replied ks))
      go true e ih = rw e
      go false e ih = rw e ih

  pub refused_alike : (cs : List Check) → accepted (verdict cs (replied ns)) ≡ false → verdict cs (replied ns) ≡ verdict cs (replied ks)
  unfolding verdict accepted
  refused_alike [] away = absurd (false≢true (sym away))
  refused_alike (c ∷ cs) away = go c.applies refl (refused_alike cs)
    where
      go : (b : Bool) → c.applies ≡ b → (accepted (verdict cs (replied ns)) ≡ false → verdict cs (replied ns) ≡ verdict cs (replied ks))
          → verdict (c ∷ cs) (replied ns) ≡ verdict (c ∷ cs) (replied ks)
      go true e ih = rw e
      go false e ih = rw e (ih (rw e at away))

-- a verdict told check by check, as code that goes through the checks tells it
module _ (b : Bool) (n : ℕ) (cs : List Check) (reply : Reply) where
  pub verdict_stops : b ≡ true → refused n ≡ verdict (b ⇒ n ∷ cs) reply
  unfolding verdict
  verdict_stops e = rw e

  pub verdict_goes_on : b ≡ false → {r : Reply} → r ≡ verdict cs reply → r ≡ verdict (b ⇒ n ∷ cs) reply
  unfolding verdict
  verdict_goes_on e h = rw e h

-- what is said, from an answer that stands for it and the case that the answer is
pub says_of : {A : Type 0} (f : A → Reply) {x y : A} {says : Reply} → f x ≡ says → x ≡ y → says ≡ f y
says_of f e h = sym e ∙ ap f h

-- past the last check the reply is given
pub verdict_gives : {reply r : Reply} → r ≡ reply → r ≡ verdict [] reply
unfolding verdict
verdict_gives e = e

-- two lists of checks, one after the other: the second is looked at where none of the first applies
module _ (ds : List Check) (k reply : Reply) where
  pub verdict_passes : (cs : List Check) → accepted (verdict cs k) ≡ true → verdict (cs ++ ds) reply ≡ verdict ds reply
  unfolding verdict
  verdict_passes [] e = refl
  verdict_passes (c ∷ cs) e = let h = clear c.applies c.number cs k e in rw h.0 (verdict_passes cs h.1)

pub verdict_bars : (cs ds : List Check) (ns : List ℕ) (reply : Reply) (n : ℕ) → verdict cs (replied ns) ≡ refused n → verdict (cs ++ ds) reply ≡ refused n
unfolding verdict accepted
verdict_bars [] ds ns reply n e = absurd (false≢true (sym (ap accepted e)))
verdict_bars (c ∷ cs) ds ns reply n e = go c.applies refl (verdict_bars cs ds ns reply n)
  where
    go : (b : Bool) → c.applies ≡ b → (verdict cs (replied ns) ≡ refused n → verdict (cs ++ ds) reply ≡ refused n) → verdict (c ∷ cs ++ ds) reply ≡ refused n
    go true a ih = rw a (rw a at e)
    go false a ih = rw a (ih (rw a at e))

-- An answer without the number of records looked at: the first two numbers of the reply, and a refusal or none as before.

pub verdict_without : (cs : List Check) (ns : List ℕ) → without_looked (verdict cs (replied ns)) ≡ verdict cs (replied (take 2 ns))
unfolding verdict
verdict_without [] ns = refl
verdict_without (c ∷ cs) ns = go c.applies refl (verdict_without cs ns)
  where
    go : (b : Bool) → c.applies ≡ b → without_looked (verdict cs (replied ns)) ≡ verdict cs (replied (take 2 ns))
        → without_looked (verdict (c ∷ cs) (replied ns)) ≡ verdict (c ∷ cs) (replied (take 2 ns))
    go true e rest = rw e
    go false e rest = rw e rest

pub accepted_without : (r : Reply) → accepted (without_looked r) ≡ accepted r
unfolding accepted
accepted_without (refused n) = refl
accepted_without (replied ns) = refl
