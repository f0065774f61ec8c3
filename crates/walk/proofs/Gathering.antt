-- The entries from PRP1 on, case by case: PRP1 is wrong, no entry is needed behind it, PRP2 is the one that is, or there are lists.
use Prim.Native.Nat.{ℕ, ◌<◌}
use native.Mathlib.Omega.{arith}
use mathlib.Core.Path.{◌≡◌, ap, sym, ◌∙◌}
use mathlib.Core.List.{List, [], ◌∷◌}
use mathlib.Core.Bool.{Bool, true, false, false≢true, cond}
use lib.Dec.{eqb}
use Rattle.std.specs.Prelude.{Result, Ok, Err}
use Rattle.state.specs.declared.refusal.Refusal.{Refusal}
use borrow.Author.Tests.{ltb-true}
use Rattle.state.specs.declared.refusal.Refusal.TheVariants.{EntryMisaligned}
use Rattle.state.specs.Verdict.{Reply, accepted, verdict}
use Rattle.cache.specs.Runs.{Machine, given, ran}
use Rattle.prp.specs.Pages.{Walk, page_size, needed, with_list}
use Rattle.prp.specs.Entries.{entries_behind, is_multiple, wrong_multiple, judged, ◌then◌}
use Rattle.prp.specs.Walk.{Asks, behind_says, page_entries, looked_behind, asks_of}
use Rattle.prp.proofs.Listed.{entries_none, looked_none, looked_lists}
use Rattle.prp.proofs.Said.{said_if}
use Rattle.prp.proofs.Reading.{behind_few, behind_some}
use Rattle.lists.specs.Lists.{lists_make, Lists}
use Rattle.walk.specs.Parts.{entries_make, Gathers}

module _ (words store : List ℕ) (w : Walk) where
  abbrev m : Machine
  m = given words store

  abbrev asks : Asks
  asks = asks_of m

  pub wrong_first : (scratch : List ℕ) → is_multiple 4 w.prp1 ≡ false → Gathers words store w (Err EntryMisaligned) words store scratch
  unfolding verdict accepted entries_make ran
  wrong_first scratch wrong = record {
    answer = rw wrong;
    machine = rw wrong;
    entries = λ e. absurd (false≢true e);
    looked = λ e. absurd (false≢true e);
  }

  module _ (right : is_multiple 4 w.prp1 ≡ true) where
    said : (judged (wrong_multiple 4 w.prp1 ∷ []) then behind_says asks w) ≡ behind_says asks w
    unfolding verdict
    said = rw right

    makes_if : (b : Bool) → with_list w ≡ b → entries_make asks w ≡ cond b (lists_make asks w) []
    unfolding verdict accepted entries_make
    makes_if b e = rw (right, e)

    pub by_lists :
        (r : Result ℕ Refusal) (words' store' scratch' : List ℕ) → with_list w ≡ true → Lists words store w r words' store' scratch'
        → Gathers words store w r words' store' scratch'
    by_lists r words' store' scratch' listed L =
        let some : 1 < needed w = ltb-true 1 (needed w) listed in
        record {
          answer = L.answer ∙ sym (said ∙ ap (said_if asks w) listed);
          machine = L.machine ∙ ap (ran m) (sym (makes_if true listed));
          entries = λ e. behind_some w.prp2 (needed w) scratch' (omega arith) ∙ L.entries e;
          looked = λ e. L.looked e ∙ sym (looked_lists asks w listed);
        }

    -- without lists the machine stays
    module _ (unlisted : with_list w ≡ false) (scratch : List ℕ) where
      left : m ≡ ran m (entries_make asks w)
      unfolding ran
      left = ap (ran m) (sym (makes_if false unlisted))

      -- what is said of PRP2 if n entries are needed
      abbrev second_if : ℕ → Reply
      second_if n = judged (elim (eqb n 0) [ true ↦ [] | false ↦ wrong_multiple page_size w.prp2 ∷ [] ])

      said_second : (n : ℕ) → needed w ≡ n → (judged (wrong_multiple 4 w.prp1 ∷ []) then behind_says asks w) ≡ second_if n
      said_second n e = said ∙ ap (said_if asks w) unlisted ∙ ap second_if e

      behind : entries_behind w.prp2 (needed w) scratch ≡ page_entries asks w
      behind = behind_few w.prp2 (needed w) scratch unlisted ∙ sym (entries_none asks w unlisted)

      none_looked : 0 ≡ looked_behind asks w
      none_looked = sym (looked_none asks w unlisted)

      pub none_needed : needed w ≡ 0 → Gathers words store w (Ok 0) words store scratch
      unfolding verdict
      none_needed none = record { answer = sym (said_second 0 none); machine = left; entries = λ e. behind; looked = λ e. none_looked }

      pub second_wrong : needed w ≡ 1 → is_multiple page_size w.prp2 ≡ false → Gathers words store w (Err EntryMisaligned) words store scratch
      unfolding verdict accepted
      second_wrong one wrong = record {
        answer = sym (said_second 1 one ∙ rw wrong);
        machine = left;
        entries = λ e. absurd (false≢true e);
        looked = λ e. absurd (false≢true e);
      }

      pub second_right : needed w ≡ 1 → is_multiple page_size w.prp2 ≡ true → Gathers words store w (Ok 0) words store scratch
      unfolding verdict
      second_right one fine = record { answer = sym (said_second 1 one ∙ rw fine); machine = left; entries = λ e. behind; looked = λ e. none_looked }
