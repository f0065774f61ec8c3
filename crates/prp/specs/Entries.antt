-- The entries of a list page, and how they are judged (request F-5 of 02, the agreed changes; docs/RULES.md has its rules).
use Rattle.std.specs.Prelude.{ℕ, zero, suc, ◌*◌, ◌%◌, List, [], ◌∷◌, map, Bool, true, false, not, ltb, eqb, take, drop, replicate}
use Rattle.state.specs.declared.refusal.Refusal.TheVariants.{EntryMisaligned}
use Rattle.state.specs.Refusals.{number}
use Rattle.state.specs.Verdict.{Reply, refused, replied, Check, ◌⇒◌, verdict}
use Rattle.cache.specs.Runs.{Call, fetch}
use Rattle.endian.specs.LittleEndian.{least_first}
use Rattle.prp.specs.Pages.{page_size, entry_size}

-- the first k entries of some bytes: eight bytes each, the least byte first
unfoldable pub entries_in : (k : ℕ) → List ℕ → List ℕ
entries_in zero bytes = []
entries_in (suc k) bytes = least_first (take entry_size bytes) ∷ entries_in k (drop entry_size bytes)

-- the entries behind PRP1, where they stand in these bytes if there are more than one: if there is one it is PRP2
unfoldable pub entries_behind : (prp2 needed : ℕ) → List ℕ → List ℕ
entries_behind prp2 needed bytes = elim (ltb 1 needed) [ true ↦ entries_in needed bytes | false ↦ take needed (prp2 ∷ []) ]

-- is an entry a multiple of k?
abbrev pub is_multiple : (k x : ℕ) → Bool
is_multiple k x = eqb (x % k) 0

-- 32: it is not
abbrev pub wrong_multiple : (k x : ℕ) → Check
wrong_multiple k x = not (is_multiple k x) ⇒ number EntryMisaligned

-- what these checks say, if nothing else is asked: the number of the first that applies, or nothing
abbrev pub judged : List Check → Reply
judged checks = verdict checks (replied [])

-- one answer, and if that is no refusal another
abbrev pub ◌then◌ : Reply → Reply → Reply
refused k then r = refused k
replied ns then r = r

infixr 60 ◌then◌
-- The entries that are needed in one list page are one fetch through the cache. Its destination is as long as they are, wherever the walk keeps
-- them, so that no list fetch gets 10.
abbrev pub list_fetch : (c a k : ℕ) (window : List ℕ) → Call
list_fetch c a k window = fetch c a (entry_size * k) (replicate (entry_size * k) 0) window

-- what a list fetch got: its answer, and the bytes that it delivered
pub record Got : Type 0 where
  pub answer : Reply
  pub bytes : List ℕ

-- what is said of a list page of k entries: the number that its fetch gets, and then 32 for the first entry that is no multiple of a page
abbrev pub page_says : (k : ℕ) → Got → Reply
page_says k got = got.answer then judged (map (wrong_multiple page_size) (entries_in k got.bytes))
