-- No two arrays of words stand for the same state: what a call says of the state it says of the words.
use Prim.Native.Nat.{ℕ, zero, suc, ◌+◌, ◌*◌, ◌-◌, ◌/◌, ◌%◌, ◌<◌}
use native.Mathlib.Omega.{arith}
use native.Mathlib.Nat.{div-add-mod', mod-lt}
use mathlib.Core.Path.{◌≡◌, refl, ap, sym, subst, ◌∙◌}
use mathlib.Core.Logic.{◌⊎◌, inl, inr, ⊎_elim}
use mathlib.Core.List.{List}
use mathlib.Core.Bool.{Bool, true, false, false≢true}
use lib.Dec.{ltb}
use lib.ListN.{length, drop, get_or}
use lib.Seq.{get_or-take, get_or-drop, ext_get_or}
use borrow.Author.Tests.{ltb-true, ltb-false}
use Rattle.state.specs.declared.Record.{Record}
use Rattle.state.specs.State.{CommandState, State, no_record, closed}
use Rattle.state.specs.Limits.{command_limit, record_limit, command_words}
use Rattle.state.specs.Words.{record_at, command_in, words_of, state_of}
use Rattle.words.specs.Claims.{StateOne}
use Rattle.words.proofs.EntryWords.{entry_at}
use Rattle.words.proofs.StateWords.{command_at}

-- a word behind the first is a start or a length
half : (i : ℕ) → (k : ℕ) × ((suc i ≡ 2 * k + 1) ⊎ (suc i ≡ 2 * k + 1 + 1))
half zero = (0, inl refl)
half (suc zero) = (0, inr refl)
half (suc (suc i)) = let h = half i in (suc h.0, ⊎_elim (λ e. inl (omega arith)) (λ e. inr (omega arith)) h.1)

module _ (xs ys : List ℕ) (same : command_in xs ≡ command_in ys) where
  heads : get_or xs 0 0 ≡ get_or ys 0 0
  heads = go (ltb 0 (get_or xs 0 0)) refl (ltb 0 (get_or ys 0 0)) refl (ap (λ (p : CommandState). p.opened) same) (ap (λ (p : CommandState). p.count) same)
    where
      go : (a : Bool) → ltb 0 (get_or xs 0 0) ≡ a → (b : Bool) → ltb 0 (get_or ys 0 0) ≡ b → ltb 0 (get_or xs 0 0) ≡ ltb 0 (get_or ys 0 0)
          → get_or xs 0 0 - 1 ≡ get_or ys 0 0 - 1 → get_or xs 0 0 ≡ get_or ys 0 0
      go true e true f o n = omega (arith, ltb-true 0 (get_or xs 0 0) e, ltb-true 0 (get_or ys 0 0) f)
      go false e false f o n = omega (arith, ltb-false 0 (get_or xs 0 0) e, ltb-false 0 (get_or ys 0 0) f)
      go true e false f o n = absurd (false≢true (sym f ∙ sym o ∙ e))
      go false e true f o n = absurd (false≢true (sym e ∙ o ∙ f))

  entries : (k : ℕ) → k < record_limit → record_at xs k ≡ record_at ys k
  entries k h = sym (entry_at xs k h) ∙ ap (λ (p : CommandState). get_or p.records k no_record) same ∙ entry_at ys k h

  word : (i : ℕ) → i < command_words → get_or xs i 0 ≡ get_or ys i 0
  word zero h = heads
  word (suc i) h =
      let k = (half i).0 in
      ⊎_elim
      (λ e. subst (λ (j : ℕ). get_or xs j 0 ≡ get_or ys j 0) (sym e) (ap (λ (r : Record). r.start) (entries k (omega arith))))
      (λ e. subst (λ (j : ℕ). get_or xs j 0 ≡ get_or ys j 0) (sym e) (ap (λ (r : Record). r.len) (entries k (omega arith))))
      (half i).1

word_at_lem : (words : List ℕ) (c i : ℕ) → i < command_words → get_or (words_of words c) i 0 ≡ get_or words (129 * c + i) 0
word_at_lem words c i h = get_or-take 129 (drop (129 * c) words) i 0 h ∙ get_or-drop (129 * c) words i 0

pub state_one : StateOne
unfolding state_of
state_one a b sa sb same = ext_get_or 0 a b (sa ∙ sym sb) alike
  where
    alike : (i : ℕ) → i < length a → get_or a i 0 ≡ get_or b i 0
    alike i h =
        let c = i / 129 in
        let r = i % 129 in
        let whole : c * 129 + r ≡ i = div-add-mod' i 129 in
        let small : r < 129 = mod-lt i (omega arith) in
        let few : c < command_limit = omega arith in
        let place : 129 * c + r ≡ i = omega arith in
        let own : command_in (words_of a c) ≡ command_in (words_of b c)
        = sym (command_at a c closed few) ∙ ap (λ (s : State). get_or s.commands c closed) same ∙ command_at b c closed few in
        subst (λ (j : ℕ). get_or a j 0 ≡ get_or b j 0) place (sym (word_at_lem a c r small) ∙ word (words_of a c) (words_of b c) own r small ∙ word_at_lem b c r small)
