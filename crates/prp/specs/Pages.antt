-- A page walk as it is given, and the pages that its transfer touches (request F-5 of 02, the agreed changes; docs/RULES.md has its rules).
use Rattle.std.specs.Prelude.{ℕ, suc, ◌+◌, ◌-◌, ◌*◌, ◌/◌, ◌%◌, min, max, List, map, Bool, ltb}
use Rattle.state.specs.Records.{span}

-- 02's page, in bytes
abbrev pub page_size : ℕ
page_size = 4096

-- how many bytes an entry of a list has
abbrev pub entry_size : ℕ
entry_size = 8

-- the longest transfer, and so the most spans: as many pages, and one more where the first byte stands inside its page
abbrev pub transfer_most : ℕ
transfer_most = 65536

abbrev pub spans_most : ℕ
spans_most = 17

-- the scratch that the walk asks for: room for sixteen entries
abbrev pub scratch_least : ℕ
scratch_least = 128

-- a walk with all that it is given but state and store: `least` is the scratch that it asks for
pub record Walk : Type 0 where
  pub command : ℕ
  pub prp1 : ℕ
  pub prp2 : ℕ
  pub transfer : ℕ
  pub least : ℕ
  pub scratch : List ℕ
  pub address_list : List ℕ
  pub length_list : List ℕ
  pub window : List ℕ

-- how many pages a transfer touches, told from PRP1's place in its page
abbrev pub touched_by : (prp1 transfer : ℕ) → ℕ
touched_by prp1 transfer = (prp1 % page_size + transfer + (page_size - 1)) / page_size

-- how many bytes of a transfer from `offset` up to `reach` lie in page i: those from where both have begun up to where one of them ends
abbrev pub share_in : (offset reach i : ℕ) → ℕ
share_in offset reach i = min reach (page_size * suc i) - max offset (page_size * i)

module _ (w : Walk) where
  -- where the transfer starts in its first page, and where it ends, counted from that page's start
  abbrev pub offset : ℕ
  offset = w.prp1 % page_size

  abbrev pub reach : ℕ
  reach = offset + w.transfer

  -- the pages that the transfer touches, PRP1's among them, and the entries that are needed behind PRP1
  abbrev pub touched : ℕ
  touched = touched_by w.prp1 w.transfer

  abbrev pub needed : ℕ
  needed = touched - 1

  -- how many bytes of the transfer lie in page i, counted from 0
  abbrev pub length_in : ℕ → ℕ
  length_in i = share_in offset reach i

  -- the lengths of the spans, one a page
  unfoldable pub span_lengths : List ℕ
  span_lengths = map length_in (span 0 touched)

  -- 02's "otherwise": more than one page is touched behind the first, so that PRP2 points to a list
  abbrev pub with_list : Bool
  with_list = ltb 1 needed

  -- how many entries fit from PRP2 up to the end of its page, and whether more are needed: then the last one that fits points to the next list
  abbrev pub fit : ℕ
  fit = (page_size - w.prp2 % page_size) / entry_size

  abbrev pub chained : Bool
  chained = ltb fit needed

  -- the entries that are needed of the first list page, the onward one among them, and of the second
  abbrev pub first_count : ℕ
  first_count = min needed fit

  abbrev pub second_count : ℕ
  second_count = needed - (fit - 1)
