-- The claims about the byte map's calls.
use Prim.Native.Nat.{ℕ, zero, suc, ◌+◌, ◌/◌, ◌%◌, ◌≤◌, ◌<◌}
use native.Mathlib.Omega.{arith}
use mathlib.Core.Path.{◌≡◌, refl, ap, sym, ◌∙◌}
use mathlib.Core.List.{List, [], ◌∷◌}
use mathlib.Core.Bool.{Bool, true, false, not, ◌&&◌, ◌||◌, false≢true, and-false}
use mathlib.Core.Logic.{◌↔◌, ◌≢◌}
use lib.Dec.{ltb, leb, eqb}
use lib.ListN.{length, get_or}
use borrow.Author.Tests.{eqb-true, eqb-false, ltb-true, ltb-false, le-ltb, lt-ltb, lt-leb}
use Rattle.octets.specs.Lists.{all, all_zero}
use Rattle.octets.proofs.Lists.{and_left, and_right, all_at}
use Rattle.octets.proofs.Overwrite.{overwrite_part, overwrite_before, overwrite_behind}
use Rattle.state.specs.Limits.{record_limit, transfer_limit}
use Rattle.state.specs.Records.{span}
use Rattle.state.specs.Verdict.{refused, replied, contains, Check, verdict}
use Rattle.state.specs.Checks.{length_too_long}
use Rattle.state.proofs.Verdict.{none_applies, verdict_keeps, never_given}
use Rattle.bits.specs.Bits.{map_limit, bit, is_set}
use Rattle.bits.proofs.Word.{bit_of_zero}
use Rattle.bytemap.specs.Map.{is_open, is_held, runs_of, held_count, is_empty, is_clean, holds, window_beyond_map}
use Rattle.bytemap.specs.Begin.{begin_checks, begin_says, begin_map}
use Rattle.bytemap.specs.Fetch.{fetch_checks, fetch_says, fetch_map, fetch_dest, fresh_count, replayed_count}
use Rattle.bytemap.specs.End.{end_checks, end_says, end_map}
use Rattle.bytemap.specs.OwnWrite.{own_checks, own_says, own_map, own_window}
use Rattle.bytemap.specs.Runs.{begin, fetch, end, own_write}
use Rattle.bytemap.specs.Claims.{of_call, MapRefusals, MapUnchanged, MapBroken, ThirtyGiven, MapWindowWritten}

pub map_refusals : MapRefusals
unfolding begin_says fetch_says end_says own_says all contains
map_refusals m begin = record { order = refl; given = verdict_keeps (of_call begin) (begin_checks m) [] refl }
map_refusals m (fetch a n dest window) =
    record {
      order = refl;
      given =
          verdict_keeps (of_call (fetch a n dest window)) (fetch_checks m (length window) (length dest) a n) (fresh_count m a n ∷ replayed_count m a n ∷ [])
          refl;
    }
map_refusals m (own_write a bytes window) =
    let n = length bytes in
    record {
      order = refl;
      given = verdict_keeps (of_call (own_write a bytes window)) (own_checks m (length window) a n) (n ∷ fresh_count m a n ∷ []) refl;
    }
map_refusals m end = record { order = refl; given = verdict_keeps (of_call end) (end_checks m) (length (runs_of m) ∷ held_count m ∷ []) refl }

pub map_unchanged : MapUnchanged
unfolding begin_map fetch_map fetch_dest end_map own_map own_window
map_unchanged m begin away = record { map = rw away; dest = refl; window = refl }
map_unchanged m (fetch a n dest window) away = record { map = rw away; dest = rw away; window = refl }
map_unchanged m end away = record { map = rw away; dest = refl; window = refl }
map_unchanged m (own_write a bytes window) away = record { map = rw away; dest = refl; window = rw away }

-- words that are all zero have no bit set
zero_unset : (words : List ℕ) → all_zero words ≡ true → (x : ℕ) → is_set words x ≡ false
zero_unset words zeros x =
    ap (λ (w : ℕ). bit w (x % 64)) (eqb-true (get_or words (x / 64) 0) 0 (all_at (λ w. eqb w 0) words (x / 64) 0 zeros refl)) ∙ bit_of_zero (x % 64)

-- what passes at every address of a span passes at each
at_each : (test : ℕ → Bool) (a n x : ℕ) → all test (span a n) ≡ true → a ≤ x → x < a + n → test x ≡ true
unfolding all span
at_each test a zero x h low high = absurd (omega arith)
at_each test a (suc n) x h low high = go (eqb x a) refl (at_each test (suc a) n x (and_right (test a) (all test (span (suc a) n)) h))
  where
    go : (b : Bool) → eqb x a ≡ b → (suc a ≤ x → x < suc a + n → test x ≡ true) → test x ≡ true
    go true e later = ap test (eqb-true x a e) ∙ and_left (test a) (all test (span (suc a) n)) h
    go false e later = later (omega (arith, eqb-false x a e)) (omega arith)

pub map_broken_lem : MapBroken
unfolding holds
map_broken_lem m = record {
  bit_left = λ x closed held. go_bit (is_empty m) refl x closed held;
  value_left = λ x inside free value. go_value (is_clean m) refl x inside free value;
  many_runs = λ many. rw (lt-leb (length (runs_of m)) record_limit many) (and-false ((is_open m || is_empty m) && is_clean m));
}
  where
    go_bit : (b : Bool) → is_empty m ≡ b → (x : ℕ) → is_open m ≡ false → is_held m x ≡ true → holds m ≡ false
    go_bit true e x closed held = absurd (false≢true (sym (zero_unset m.words e x) ∙ held))
    go_bit false e x closed held = rw (closed, e)

    second : (b c : Bool) → (b && false && c) ≡ false
    second true c = refl
    second false c = refl

    go_value : (b : Bool) → is_clean m ≡ b → (x : ℕ) → x < map_limit → is_held m x ≡ false → get_or m.values x 0 ≢ 0 → holds m ≡ false
    go_value true e x inside free value =
        let zero_or_held = at_each (λ y. is_held m y || eqb (get_or m.values y 0) 0) 0 map_limit x e (omega arith) inside in
        absurd (value (eqb-true (get_or m.values x 0) 0 (rw free at zero_or_held)))
    go_value false e x inside free value = rw e (second (is_open m || is_empty m) (leb (length (runs_of m)) record_limit))

-- Of a list of checks that begins with 4 and 30, and has 30 nowhere else: it gives 30 exactly where the second check applies and the first does
-- not.
thirty_behind_four :
    (n window_len : ℕ) (others : List Check) (ns : List ℕ) → all (λ c. not (eqb c.number 30 && c.applies)) others ≡ true
    → (verdict (length_too_long n ∷ window_beyond_map window_len ∷ others) (replied ns) ≡ refused 30) ↔ ((n ≤ transfer_limit) × (map_limit < window_len))
unfolding verdict all
thirty_behind_four n window_len others ns elsewhere = ((λ e. go (ltb transfer_limit n) refl (ltb map_limit window_len) refl e), back)
  where
    says_thirty : Type 0
    says_thirty = verdict (length_too_long n ∷ window_beyond_map window_len ∷ others) (replied ns) ≡ refused 30

    back : (n ≤ transfer_limit) × (map_limit < window_len) → says_thirty
    back h = rw (le-ltb transfer_limit n h.0, lt-ltb map_limit window_len h.1)

    go : (p : Bool) → ltb transfer_limit n ≡ p → (q : Bool) → ltb map_limit window_len ≡ q → says_thirty → (n ≤ transfer_limit) × (map_limit < window_len)
    go true f q g e =
        let four : refused 4 ≡ refused 30 = rw f at e in
        let z : ◌≡◌ {A = ℕ} 4 30 = cc in
        absurd (omega arith)
    go false f true g e = (ltb-false transfer_limit n f, ltb-true map_limit window_len g)
    go false f false g e = absurd (never_given 30 others ns elsewhere (rw (f, g) at e))

pub thirty_given : ThirtyGiven
unfolding fetch_says own_says all
thirty_given m = record {
  fetched = λ a n dest window. thirty_behind_four n (length window) _ (fresh_count m a n ∷ replayed_count m a n ∷ []) refl;
  written = λ a bytes window. thirty_behind_four (length bytes) (length window) _ (length bytes ∷ fresh_count m a (length bytes) ∷ []) refl;
}

pub map_window_written : MapWindowWritten
unfolding own_says own_window
map_window_written m a bytes window e =
    let fits = ltb-false (length window) (a + length bytes) (none_applies _ _ e).1.1.0 in
    record {
      there = rw e (overwrite_part window bytes a fits);
      below = rw e (overwrite_before window bytes a fits);
      above = rw e (overwrite_behind window bytes a fits);
    }
