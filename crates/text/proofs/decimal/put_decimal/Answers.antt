use Prim.Native.Nat.{ℕ, suc, ◌-◌, ◌/◌, ◌%◌, ◌^◌, ◌≤◌, ◌<◌}
use native.Mathlib.Omega.{arith}
use mathlib.Core.Path.{◌≡◌, refl, ap, subst, sym, ◌∙◌}
use mathlib.Core.List.{List, ◌∷◌, ◌++◌, append-nil}
use lib.ListN.{length, take, drop, set, length-set, length-drop}
use lib.Seq.{take_all, append_snoc, drop-cons, get_or-set_same, drop-set-lt}
use Rattle.octets.specs.Text.{Puts}
use Rattle.text.specs.Decimal.{digit, decimal}
use Rattle.text.proofs.Putting.{puts_is}
use Rattle.text.proofs.Digits.{decimal_small, decimal_large, tenth}
use Rattle.text.proofs.decimal.put_decimal.Goals as goal

-- a digit that is stored just before the others
module _ (ds : List ℕ) (start : ℕ) (some : 1 ≤ start) (inside : start ≤ length ds) where
  stored : (x : ℕ) → drop (start - 1) (set ds (start - 1) x) ≡ x ∷ drop start ds
  stored x =
      let place : suc (start - 1) ≡ start = omega arith in
      drop-cons (set ds (start - 1) x) (start - 1) 0 (rw length-set (omega arith))
      ∙ rw (get_or-set_same ds (start - 1) x 0 (omega arith), drop-set-lt (suc (start - 1)) ds (start - 1) x (omega arith), place)

  module _ (n rest : ℕ) (so_far : decimal rest ++ drop start ds ≡ decimal n) where
    -- the last digit of the rest
    last : 10 ≤ rest → decimal (rest / 10) ++ drop (start - 1) (set ds (start - 1) (digit (rest % 10))) ≡ decimal n
    last more =
        ap (λ (l : List ℕ). decimal (rest / 10) ++ l) (stored (digit (rest % 10)))
        ∙ sym (append_snoc (decimal (rest / 10)) (digit (rest % 10)) (drop start ds))
        ∙ ap (λ (l : List ℕ). l ++ drop start ds) (sym (decimal_large rest more)) ∙ so_far

    -- and its only one
    only : rest < 10 → length ds ≡ 20 → take (20 - (start - 1)) (drop (start - 1) (set ds (start - 1) (digit (rest % 10)))) ≡ decimal n
    only one size =
        let same : rest % 10 ≡ rest = omega arith in
        take_all (20 - (start - 1)) (drop (start - 1) (set ds (start - 1) (digit (rest % 10)))) (simp (length-drop, length-set) (omega arith))
        ∙ stored (digit (rest % 10))
        ∙ ap (λ (d : ℕ). digit d ∷ drop start ds) same
        ∙ ap (λ (l : List ℕ). l ++ drop start ds) (sym (decimal_small rest one)) ∙ so_far

pub loop-start-init : goal.loop-start-init
loop-start-init c = record { digits = append-nil (decimal c.args.n); size = refl; room = omega arith; some = omega arith; out = refl }

pub loop-start-preserved : goal.loop-start-preserved
loop-start-preserved c =
    let l = c.loop-start in
    let i = l.invariant in
    let less = tenth l.start l.rest (omega arith) i.room in
    record {
      digits = rw c.digit.ensures (last l.digits l.start (omega arith) (omega arith) c.args.n l.rest i.digits (omega arith));
      size = simp length-set i.size;
      room = less.1;
      some = omega arith;
      out = i.out;
    }

pub unreachable-requires : goal.unreachable-requires
unreachable-requires c =
    let l = c.loop-start in
    let none : l.start ≡ 0 = omega arith in
    let zero : l.rest < 10 ^ 0 = subst (λ (k : ℕ). l.rest < 10 ^ k) none l.invariant.room in
    omega arith

pub returns-then-rest-lt10 : goal.returns-then-rest-lt10
returns-then-rest-lt10 c =
    let l = c.loop-start in
    let n = c.args.n in
    let text : take (20 - (l.start - 1)) (drop (l.start - 1) (set l.digits (l.start - 1) c.digit.result)) ≡ decimal n =
    rw c.digit.ensures (only l.digits l.start (omega arith) (omega arith) n l.rest l.invariant.digits (omega arith) l.invariant.size) in
    subst (λ (out : List ℕ). Puts out c.args.at (decimal n) c.put.result c.put.new.out) l.invariant.out (puts_is c.put.ensures text)
