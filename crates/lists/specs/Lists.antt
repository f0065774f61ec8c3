-- The lists behind PRP2 as the code fetches and judges them.
use Rattle.std.specs.Prelude.{ℕ, ◌≡◌, List, [], ◌∷◌, true, false, cond, ◌&&◌, Result}
use Rattle.state.specs.Verdict.{accepted}
use Rattle.cache.specs.Runs.{Call, given, ran}
use Rattle.state.specs.declared.refusal.Refusal.{Refusal}
use Rattle.listing.specs.Page.{gathered_reply, looked_by}
use Rattle.prp.specs.Pages.{Walk, scratch_least, needed, chained, first_count}
use Rattle.prp.specs.Entries.{entries_in, wrong_multiple, judged, page_says}
use Rattle.prp.specs.Walk.{Asks, list_one, got_one, list_two, lists_say, page_entries, looked_in_lists, asks_of}

-- a walk of these numbers over this window; what is lent to it beside that does not enter its entries
abbrev pub asked : (c prp1 prp2 transfer : ℕ) (window : List ℕ) → Walk
asked c prp1 prp2 transfer window = record {
  command = c;
  prp1 = prp1;
  prp2 = prp2;
  transfer = transfer;
  least = scratch_least;
  scratch = [];
  address_list = [];
  length_list = [];
  window = window;
}

-- the list fetches once PRP1 is judged: none if PRP2 is wrong, and the second if there is one and nothing is wrong with the first page
unfoldable pub lists_make : Asks → Walk → List Call
lists_make asks w =
    cond (accepted (judged (wrong_multiple 8 w.prp2 ∷ [])))
    (list_one asks w ∷ elim (chained w && accepted (page_says (first_count w) (got_one asks w))) [ true ↦ list_two asks w ∷ [] | false ↦ [] ]) []

-- The lists behind PRP2: what is said of them, what their fetches leave, and, if nothing is wrong, the entries of both pages side by side at the
-- front of the scratch, without the onward one, and the records that were looked at.
pub record Lists (words store : List ℕ) (w : Walk) (r : Result ℕ Refusal) (words' store' scratch' : List ℕ) : Type 0 where
  pub answer : gathered_reply r ≡ lists_say (asks_of (given words store)) w
  pub machine : given words' store' ≡ ran (given words store) (lists_make (asks_of (given words store)) w)
  pub entries : accepted (gathered_reply r) ≡ true → entries_in (needed w) scratch' ≡ page_entries (asks_of (given words store)) w
  pub looked : accepted (gathered_reply r) ≡ true → looked_by r ≡ looked_in_lists (asks_of (given words store)) w
