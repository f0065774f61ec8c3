-- Laws of the words of one command: what its entries are.
use Prim.Native.Nat.{ℕ, ◌-◌, ◌<◌, min}
use native.Mathlib.Nat.{zero-add}
use mathlib.Core.Path.{◌≡◌, ap, sym, ◌∙◌}
use mathlib.Core.List.{List, [], map, append-nil}
use lib.ListN.{length, get_or, length-map, length-take}
use Rattle.state.specs.State.{no_record, records_in}
use Rattle.state.specs.Limits.{record_limit}
use Rattle.state.specs.Records.{span}
use Rattle.state.proofs.Places.{span_at, length_span}
use Rattle.state.specs.Words.{record_at, entries_in, command_in}

pub entries_size : (ws : List ℕ) → length (entries_in ws) ≡ record_limit
unfolding entries_in
entries_size ws = length-map (span 0 record_limit) (record_at ws) ∙ length_span 0 record_limit

pub entry_at : (ws : List ℕ) (k : ℕ) → k < record_limit → get_or (entries_in ws) k no_record ≡ record_at ws k
unfolding entries_in
entry_at ws k h =
    ap (λ (xs : List ℕ). get_or (map (record_at ws) xs) k no_record) (sym (append-nil (span 0 record_limit)))
    ∙ span_at (record_at ws) no_record 0 record_limit [] k h ∙ ap (record_at ws) (zero-add k)

pub used_is : (ws : List ℕ) → length (records_in (command_in ws)) ≡ min (get_or ws 0 0 - 1) record_limit
used_is ws = length-take (get_or ws 0 0 - 1) (entries_in ws) ∙ ap (λ (n : ℕ). min (get_or ws 0 0 - 1) n) (entries_size ws)
