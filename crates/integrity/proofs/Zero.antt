-- Entries are zero if their words are.
use Rattle.std.proofs.Common.{◌≡◌, ℕ, zero, suc, ◌+◌, ◌-◌, ◌*◌, ◌≤◌, Bool, true, false, ◌&&◌, eqb, List, ◌∷◌, ◌++◌, map, length, get_or, drop, sym, refl, ap, ◌∙◌, zero-add, arith, drop_of_length-le, drop-cons, drop_at}
use mathlib.Core.List.{map-append}
use lib.ListN.{length-map}
use Rattle.octets.specs.Lists.{all, all_zero}
use Rattle.state.specs.Limits.{record_limit, command_words}
use Rattle.state.specs.Records.{span}
use Rattle.state.specs.State.{is_zero}
use Rattle.state.specs.Words.{record_at, entries_in}
use Rattle.state.proofs.Places.{length_span, span_append}

-- two words are an entry
entries_words : (words : List ℕ) (k m : ℕ) → length words ≡ 2 * (k + m) + 1
    → all is_zero (map (record_at words) (span k m)) ≡ all_zero (drop (2 * k + 1) words)
unfolding all span
entries_words words k zero size = sym (ap all_zero (drop_of_length-le words {i = 2 * k + 1} (omega arith)))
entries_words words k (suc m) size =
    let next : suc (suc (2 * k + 1)) ≡ 2 * suc k + 1 = omega arith in
    let split : drop (2 * k + 1) words ≡ get_or words (2 * k + 1) 0 ∷ get_or words (2 * k + 1 + 1) 0 ∷ drop (2 * suc k + 1) words =
    drop-cons words (2 * k + 1) 0 (omega arith)
    ∙ ap (λ (l : List ℕ). get_or words (2 * k + 1) 0 ∷ l) (drop-cons words (suc (2 * k + 1)) 0 (omega arith))
    ∙ ap (λ (j : ℕ). get_or words (2 * k + 1) 0 ∷ get_or words (suc (2 * k + 1)) 0 ∷ drop j words) next
    ∙ ap (λ (j : ℕ). get_or words (2 * k + 1) 0 ∷ get_or words j 0 ∷ drop (2 * suc k + 1) words) (omega arith)
    in
    ap (λ (b : Bool). is_zero (record_at words k) && b) (entries_words words (suc k) m (omega arith))
    ∙ go (eqb (get_or words (2 * k + 1) 0) 0) (eqb (get_or words (2 * k + 1 + 1) 0) 0) (all_zero (drop (2 * suc k + 1) words)) ∙ sym (ap all_zero split)
  where
    go : (b c d : Bool) → (b && c && d) ≡ (b && (c && d))
    go true c d = refl
    go false c d = refl

-- the entries from n on
pub unused_words : (words : List ℕ) (n : ℕ) → length words ≡ command_words → n ≤ record_limit
    → all is_zero (drop n (entries_in words)) ≡ all_zero (drop (2 * n + 1) words)
unfolding entries_in
unused_words words n size few =
    let both : span 0 record_limit ≡ span 0 n ++ span n (record_limit - n) =
    ap (span 0) (omega arith) ∙ span_append 0 n (record_limit - n) ∙ ap (λ (k : ℕ). span 0 n ++ span k (record_limit - n)) (zero-add n)
    in
    let front : length (map (record_at words) (span 0 n)) ≡ n = length-map (span 0 n) (record_at words) ∙ length_span 0 n in
    ap (λ (l : List ℕ). all is_zero (drop n (map (record_at words) l))) both
    ∙ ap (λ l. all is_zero (drop n l)) (map-append (record_at words) (span 0 n) (span n (record_limit - n)))
    ∙ ap (all is_zero) (drop_at (map (record_at words) (span 0 n)) (map (record_at words) (span n (record_limit - n))) n front)
    ∙ entries_words words n (record_limit - n) (omega arith)
