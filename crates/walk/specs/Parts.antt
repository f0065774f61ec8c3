-- The parts of a page walk as the code makes them: what is judged before PRP1, all entries from PRP1 on, and the spans.
use Rattle.std.specs.Prelude.{ℕ, ◌≡◌, List, [], ◌∷◌, true, cond, ◌&&◌, ◌||◌, ltb, Result}
use Rattle.octets.specs.Lists.{overwrite}
use Rattle.state.specs.declared.refusal.Refusal.TheVariants.{BufferTooShort}
use Rattle.state.specs.declared.answer.WalkCounts.{WalkCounts}
use Rattle.state.specs.declared.refusal.Refusal.{Refusal}
use Rattle.state.specs.Answers.{walk_reply}
use Rattle.state.specs.Refusals.{number}
use Rattle.state.specs.State.{State}
use Rattle.state.specs.Verdict.{replied, accepted, Check, ◌⇒◌}
use Rattle.state.specs.Checks.{command_too_high, window_too_long, store_wrong_size, state_broken, command_not_open}
use Rattle.cache.specs.Runs.{Call, given, ran}
use Rattle.prp.specs.Pages.{Walk, scratch_least, spans_most, touched, needed, span_lengths, with_list}
use Rattle.prp.specs.Entries.{entries_behind, wrong_multiple, judged, ◌then◌}
use Rattle.prp.specs.Walk.{Asks, transfer_wrong, behind_says, page_entries, looked_behind, asks_of}
use Rattle.listing.specs.Page.{gathered_reply, looked_by}
use Rattle.lists.specs.Lists.{lists_make}

-- the checks before PRP1, by lengths: 31, 10, 6, 7, 8, 20, 21
abbrev pub early_checks : (s : State) (store_len window_len scratch_len address_places length_places c transfer : ℕ) → List Check
early_checks s store_len window_len scratch_len address_places length_places c transfer =
    transfer_wrong transfer
    ∷ ((ltb scratch_len scratch_least || ltb address_places spans_most || ltb length_places spans_most) ⇒ number BufferTooShort)
    ∷ command_too_high c ∷ window_too_long window_len ∷ store_wrong_size store_len ∷ state_broken s ∷ command_not_open s c ∷ []

-- all list fetches of a walk that was not refused before PRP1
unfoldable pub entries_make : Asks → Walk → List Call
entries_make asks w = cond (accepted (judged (wrong_multiple 4 w.prp1 ∷ [])) && with_list w) (lists_make asks w) []

-- The entries from PRP1 on, and the records that were looked at to fetch them.
pub record Gathers (words store : List ℕ) (w : Walk) (r : Result ℕ Refusal) (words' store' scratch' : List ℕ) : Type 0 where
  pub answer : gathered_reply r ≡ (judged (wrong_multiple 4 w.prp1 ∷ []) then behind_says (asks_of (given words store)) w)
  pub machine : given words' store' ≡ ran (given words store) (entries_make (asks_of (given words store)) w)
  pub entries :
      accepted (gathered_reply r) ≡ true → entries_behind w.prp2 (needed w) scratch' ≡ page_entries (asks_of (given words store)) w
  pub looked : accepted (gathered_reply r) ≡ true → looked_by r ≡ looked_behind (asks_of (given words store)) w

-- The lists that the walk was lent: the spans at their front, if the entries were gathered.
pub record Concludes (gathered : Result ℕ Refusal) (w : Walk) (scratch addresses lengths : List ℕ) (r : Result WalkCounts Refusal) (addresses' lengths' : List ℕ) : Type 0 where
  pub answer : walk_reply r ≡ (gathered_reply gathered then replied (touched w ∷ looked_by gathered ∷ []))
  pub starts :
      addresses'
      ≡ cond (accepted (gathered_reply gathered)) (overwrite addresses 0 (w.prp1 ∷ entries_behind w.prp2 (needed w) scratch)) addresses
  pub sizes : lengths' ≡ cond (accepted (gathered_reply gathered)) (overwrite lengths 0 (span_lengths w)) lengths
