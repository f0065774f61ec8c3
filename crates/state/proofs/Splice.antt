-- The entries of a command with the union put in, of which only some are written.
use Prim.Native.Nat.{ℕ, ◌+◌, ◌-◌, ◌≤◌, ◌<◌, min}
use native.Mathlib.Omega.{arith}
use native.Mathlib.Nat.{zero-add}
use mathlib.Core.Path.{◌≡◌, ap, sym, ◌∙◌}
use mathlib.Core.List.{List, [], ◌++◌, map, append-nil}
use mathlib.Core.Bool.{Bool, true, false, cond}
use lib.ListN.{length, take, drop, get_or, length-map, length-drop, take-append-drop}
use lib.Seq.{paste, get_or-drop, ext_get_or}
use lib.Dec.{eqb}
use Rattle.state.specs.declared.Record.{Record}
use Rattle.state.specs.declared.Meeting.{Meeting}
use Rattle.state.specs.Limits.{record_limit}
use Rattle.state.specs.Records.{span}
use Rattle.state.specs.State.{CommandState, no_record, records_in}
use Rattle.state.specs.Join.{entry_after, changed_up_to, spliced}
use Rattle.state.proofs.Places.{span_at, length_span}

pub changed_within : (used : ℕ) (m : Meeting) → m.last ≤ record_limit → changed_up_to used m ≤ record_limit
unfolding changed_up_to
changed_within used m most = go (eqb m.last (m.first + 1))
  where
    go : (b : Bool) → cond b m.last (min (used + 1) record_limit) ≤ record_limit
    go true = most
    go false = omega arith

-- the entries wanted
abbrev pub wanted : CommandState → Meeting → List Record
wanted p m = map (entry_after p.records m) (span 0 record_limit)

-- the entries after k of them are written
abbrev pub written : CommandState → Meeting → ℕ → List Record
written p m k = paste p.records 0 (wanted p m) k

module _ (p : CommandState) (m : Meeting) where
  pub wanted_size : length (wanted p m) ≡ record_limit
  wanted_size = length-map (span 0 record_limit) (entry_after p.records m) ∙ length_span 0 record_limit

  pub wanted_at : (k : ℕ) → k < record_limit → get_or (wanted p m) k no_record ≡ entry_after p.records m k
  wanted_at k h =
      ap (λ (xs : List ℕ). get_or (map (entry_after p.records m) xs) k no_record) (sym (append-nil (span 0 record_limit)))
      ∙ span_at (entry_after p.records m) no_record 0 record_limit [] k h ∙ ap (entry_after p.records m) (zero-add k)

  written_is : (k : ℕ) → written p m k ≡ take k (wanted p m) ++ drop k p.records
  written_is k = ap (λ (j : ℕ). take k (wanted p m) ++ drop j p.records) (zero-add k)

  module _ (size : length p.records ≡ record_limit) (k : ℕ) (most : k ≤ record_limit) where
    -- where those from k on stay as they are, all are written
    pub back_written : ((i : ℕ) → k ≤ i → i < record_limit → entry_after p.records m i ≡ get_or p.records i no_record) → written p m k ≡ wanted p m
    back_written same =
        written_is k ∙ ap (λ (l : List Record). take k (wanted p m) ++ l) (ext_get_or no_record (drop k p.records) (drop k (wanted p m)) sizes alike)
        ∙ take-append-drop k (wanted p m)
      where
        sizes : length (drop k p.records) ≡ length (drop k (wanted p m))
        sizes = simp length-drop (omega (arith, wanted_size, size))

        alike : (i : ℕ) → i < length (drop k p.records) → get_or (drop k p.records) i no_record ≡ get_or (drop k (wanted p m)) i no_record
        alike i h =
            let near : k + i < record_limit = omega (arith, length-drop k p.records) in
            get_or-drop k p.records i no_record ∙ sym (same (k + i) (omega arith) near) ∙ sym (wanted_at (k + i) near)
            ∙ sym (get_or-drop k (wanted p m) i no_record)

  pub is_spliced :
      (opened : Bool) (count : ℕ) (entries : List Record) → opened ≡ p.opened → count ≡ m.first + 1 + (length (records_in p) - m.last)
      → entries ≡ written p m (changed_up_to (length (records_in p)) m)
      → ◌≡◌ {A = CommandState} (record { opened = opened; count = count; records = entries }) (spliced p m)
  unfolding spliced
  is_spliced opened count entries a b c = λ i. record { opened = a i; count = b i; records = (c ∙ written_is (changed_up_to (length (records_in p)) m)) i }
