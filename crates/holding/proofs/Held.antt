-- Once a span is held its bytes stand side by side in the command's part: they are read as one, and written as one.
use Prim.Native.Nat.{ℕ, ◌+◌, ◌≤◌}
use native.Mathlib.Omega.{arith}
use mathlib.Core.Path.{◌≡◌, ap, ◌∙◌}
use mathlib.Core.List.{List, map}
use mathlib.Core.Bool.{true}
use lib.ListN.{length}
use Rattle.octets.specs.Lists.{overwrite, part}
use Rattle.state.specs.declared.Record.{Record}
use Rattle.state.specs.Limits.{held_limit}
use Rattle.state.specs.Records.{span, total, joined}
use Rattle.state.specs.State.{records_of, ascending}
use Rattle.state.specs.Words.{state_of}
use Rattle.state.proofs.Commands.{kept}
use Rattle.state.proofs.Laws.{total_joined}
use Rattle.store.specs.Store.{part_start, location, packed, from, sees, written}
use Rattle.store.proofs.Spans.{span_below, read_back, written_over}
use Rattle.holding.specs.Holding.{MayHold, Held}

module _ (words store : List ℕ) (c a n base : ℕ) (source : List ℕ) (M : MayHold words (length store) c a n base (length source))
    (new at look : ℕ) (words' store' : List ℕ) (H : Held words store c a n base source new at look words' store') where
  abbrev rs : List Record
  rs = records_of (state_of words) c

  abbrev seen : ℕ → ℕ
  seen = sees rs (location (state_of words) c) store (from base source)

  up : ascending 0 rs ≡ true
  up = (kept (state_of words) c M.whole).up

  pub span_placed : at + n ≤ held_limit
  span_placed = omega (arith, H.stands, span_below rs a n up M.inside M.some, total_joined rs a n up, H.bytes)

  in_store : part_start c + total (joined rs a n) ≤ length store
  in_store = omega (arith, M.command, M.size, total_joined rs a n up, H.bytes)

  pub span_reads : part store' (part_start c + at) n ≡ map seen (span a n)
  span_reads =
      ap (λ (l : List ℕ). part l (part_start c + at) n) H.stored
      ∙ ap (λ (k : ℕ). part (packed store c (joined rs a n) seen) (part_start c + k) n) H.stands
      ∙ read_back rs a n up M.inside seen store (part_start c) in_store M.some

  pub span_writes :
      (bytes : List ℕ) → length bytes ≡ n → overwrite store' (part_start c + at) bytes ≡ packed store c (joined rs a n) (written a bytes seen)
  span_writes bytes size =
      ap (λ (l : List ℕ). overwrite l (part_start c + at) bytes) H.stored
      ∙ ap (λ (k : ℕ). overwrite (packed store c (joined rs a n) seen) (part_start c + k) bytes) H.stands
      ∙ written_over rs a n up M.inside seen store (part_start c) in_store M.some bytes size
