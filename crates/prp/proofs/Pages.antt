-- The pages that a transfer touches, as numbers: how many they are, what of the transfer lies in each, and that this is the whole transfer.
use Prim.Native.Nat.{ℕ, zero, suc, ◌+◌, ◌-◌, ◌*◌, ◌/◌, ◌%◌, ◌<◌, ◌≤◌, min, max}
use native.Mathlib.Omega.{arith}
use native.Mathlib.Nat.{zero-add, add-zero}
use mathlib.Core.Path.{◌≡◌, ap}
use mathlib.Core.Logic.{◌↔◌}
use mathlib.Core.List.{map}
use Rattle.state.specs.Records.{span}
use Rattle.prp.specs.Pages.{page_size, entry_size, spans_most, transfer_most, share_in}
use Rattle.prp.specs.Claims.{sum}

-- Steps that lead from each value to the next lead from the first value to the last.
sum_steps : (step value : ℕ → ℕ) → ((i : ℕ) → step i + value i ≡ value (suc i)) → (i n : ℕ) → sum (map step (span i n)) + value i ≡ value (i + n)
unfolding sum span
sum_steps step value leads i zero = rw (zero-add, add-zero)
sum_steps step value leads i (suc n) =
    let next : value (suc i + n) ≡ value (i + suc n) = ap value (omega arith) in
    omega (arith, leads i, sum_steps step value leads (suc i) n)

-- A transfer that starts inside its first page and ends at `reach`, counted from that page's start, and the pages that it touches.
module _ (offset reach : ℕ) (inside : offset < page_size) (some : offset < reach) where
  abbrev count : ℕ
  count = (reach + (page_size - 1)) / page_size

  -- as many pages as 02 says, each with bytes of the transfer in it
  pub count_some : 0 < count
  count_some = omega arith

  pub count_room : reach ≤ offset + transfer_most → count ≤ spans_most
  count_room short = omega arith

  pub page_touched : (i : ℕ) → (i < count) ↔ (page_size * i < reach)
  page_touched i = omega arith

  pub page_full : (i : ℕ) → page_size * i < reach → 0 < share_in offset reach i
  page_full i h = omega arith

  pub page_behind : (i : ℕ) → 0 < share_in offset reach i → page_size * i < reach
  page_behind i h = omega arith

  -- what lies in a page stays in it, and fills it to its end where the transfer goes on
  pub first_inside : offset + share_in offset reach 0 ≤ page_size
  first_inside = omega arith

  pub first_ends : page_size < reach → offset + share_in offset reach 0 ≡ page_size
  first_ends h = omega arith

  pub later_inside : (i : ℕ) → share_in offset reach i ≤ page_size
  later_inside i = omega arith

  pub later_ends : (i : ℕ) → 0 < i → page_size * suc i < reach → share_in offset reach i ≡ page_size
  later_ends i h k = omega arith

  -- how far the transfer has come at the start of page i
  abbrev come : ℕ → ℕ
  come i = max offset (min reach (page_size * i))

  -- what lies in a page leads to the start of the next
  come_on : (i : ℕ) → share_in offset reach i + come i ≡ come (suc i)
  come_on i = omega arith

  come_start : come 0 ≡ offset
  come_start = omega arith

  come_all : come count ≡ reach
  come_all = omega arith

  pub sum_all : sum (map (share_in offset reach) (span 0 count)) + offset ≡ reach
  sum_all = omega (arith, sum_steps (share_in offset reach) come come_on 0 count, come_start, come_all)

-- a list that starts at a multiple of an entry has room for one up to the end of its page
pub fit_some : (x : ℕ) → x % entry_size ≡ 0 → 0 < (page_size - x % page_size) / entry_size
fit_some x h = omega arith

-- the onward entry left out, the entries of two list pages are those that are needed; without one all are in the first page
pub two_pages_lem : (needed fit : ℕ) → 0 < fit → fit < needed → min (fit - 1) (min needed fit) + (needed - (fit - 1)) ≡ needed
two_pages_lem needed fit some more = omega arith

pub one_page_lem : (needed fit : ℕ) → needed ≤ fit → min needed fit ≡ needed
one_page_lem needed fit all = omega arith
