-- What came of entries that are wanted, and a list page as the code fetches and judges it.
use Rattle.std.specs.Prelude.{ℕ, ◌*◌, ◌≤◌, ◌≡◌, List, [], true, length, Result, Ok, Err}
use Rattle.state.specs.Limits.{record_limit}
use Rattle.state.specs.declared.refusal.Refusal.{Refusal}
use Rattle.state.specs.Answers.{reply_of}
use Rattle.state.specs.Verdict.{Reply, accepted, looked_in}
use Rattle.cache.specs.Runs.{given, says, delivers, after}
use Rattle.prp.specs.Pages.{entry_size}
use Rattle.prp.specs.Entries.{list_fetch, page_says}

-- what is said of them, and how many records were looked at
abbrev pub gathered_reply : Result ℕ Refusal → Reply
gathered_reply = reply_of (λ _. [])

abbrev pub looked_by : Result ℕ Refusal → ℕ
looked_by (Ok looked) = looked
looked_by (Err r) = 0

-- A list page: its fetch, and its entries judged. Where the fetch is accepted the entries are what it delivered, and their buffer stays as long as
-- they are. Where the entries are as they should be, the records looked at are those of the fetch; they are few, so that two pages can be added up.
pub record ListsPage (words store window : List ℕ) (c a k : ℕ) (r : Result ℕ Refusal) (words' store' entries' : List ℕ) : Type 0 where
  pub answer :
      gathered_reply r
      ≡ page_says k
      (record { answer = says (given words store) (list_fetch c a k window); bytes = delivers (given words store) (list_fetch c a k window) })
  pub machine : given words' store' ≡ after (given words store) (list_fetch c a k window)
  pub bytes :
      accepted (says (given words store) (list_fetch c a k window)) ≡ true → entries' ≡ delivers (given words store) (list_fetch c a k window)
  pub sized : length entries' ≡ entry_size * k
  pub looked : accepted (gathered_reply r) ≡ true → looked_by r ≡ looked_in (says (given words store) (list_fetch c a k window))
  pub few : looked_by r ≤ record_limit
