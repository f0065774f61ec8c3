-- A byte map that follows a memory: it holds just the addresses that the memory knows, each with the value known there. Begin, fetch, own write
-- and end each leave one that follows.
use Prim.Native.Nat.{ℕ, zero, suc, ◌+◌, ◌≤◌, ◌/◌, ◌%◌, ◌^◌}
use native.Mathlib.Omega.{arith}
use native.Mathlib.Nat.{zero-div}
use mathlib.Core.Path.{◌≡◌, refl, ap, subst, sym, fun_ext, ◌∙◌}
use mathlib.Core.List.{List}
use mathlib.Core.Bool.{Bool, true, false, false≢true, cond, ◌||◌, or-true, or-false, and-false}
use lib.Count.{ones}
use lib.Dec.{leb, ltb, eqb}
use lib.ListN.{length, get_or, replicate, length-replicate, get_or-eq_default}
use borrow.Author.Tests.{le-leb, ltb-true, ltb-false, le-ltb}
use Rattle.octets.specs.Lists.{count, overwrite}
use Rattle.octets.proofs.Lists.{both, all_replicate, get_d_same_lem}
use Rattle.octets.proofs.Overwrite.{length_overwrite}
use Rattle.state.specs.Limits.{record_limit}
use Rattle.state.specs.Records.{in_span, span}
use Rattle.store.specs.Store.{from}
use Rattle.bits.specs.Bits.{word_limit, map_limit, bit, is_set, words_of, ones_of}
use Rattle.bits.proofs.Counts.{count_none}
use Rattle.bits.proofs.Words.{words_set, ones_of_words, length_words}
use Rattle.bytemap.specs.Map.{Map, is_open, is_held, held_count, runs_of, cleared, is_empty, holds}
use Rattle.bytemap.specs.Fetch.{held_then, runs_then, holding, sees, seen}
use Rattle.history.specs.Firsts.{Value, none, some, or_else, is_known, recall}
use Rattle.bytemap.proofs.Spans.{length_bytes, byte_in, overwritten}
use Rattle.agreement.proofs.Spans.{all_pass, runs_none}

pub record Follows (m : Map) (opened : Bool) (known : ℕ → Value) : Type 0 where
  pub same : is_open m ≡ opened
  -- the addresses of the memory, all below 4,096, and their values
  pub held : (x : ℕ) → is_held m x ≡ is_known (known x)
  pub low : (x : ℕ) → map_limit ≤ x → is_known (known x) ≡ false
  pub value : (x : ℕ) → get_or m.values x 0 ≡ recall (known x)
  pub size : length m.values ≡ map_limit
  -- the ones, and what a closed map and any map must keep to
  pub ones : held_count m ≡ count (is_held m) (span 0 map_limit)
  pub empty : opened ≡ false → is_empty m ≡ true
  pub few : length (runs_of m) ≤ record_limit

-- Such a map holds together.

module _ {m : Map} {opened : Bool} {known : ℕ → Value} (F : Follows m opened known) where
  held_or_zero : (x : ℕ) → (is_held m x || eqb (get_or m.values x 0) 0) ≡ true
  held_or_zero x = rw (F.held x, F.value x) (go (known x))
    where
      go : (v : Value) → (is_known v || eqb (recall v) 0) ≡ true
      go none = refl
      go (some u) = refl

  open_or_empty : (is_open m || is_empty m) ≡ true
  open_or_empty = go opened F.same F.empty
    where
      go : (b : Bool) → is_open m ≡ b → (b ≡ false → is_empty m ≡ true) → (is_open m || is_empty m) ≡ true
      go true e h = rw e
      go false e h = rw (e, h refl)

  pub follows_holds : holds m ≡ true
  unfolding holds
  follows_holds =
      both (both open_or_empty (all_pass (λ x. is_held m x || eqb (get_or m.values x 0) 0) (span 0 map_limit) held_or_zero))
      (le-leb (length (runs_of m)) record_limit F.few)

-- What the command sees at an address is the value known there once it is fetched.
pub sees_known : {m : Map} {opened : Bool} {known : ℕ → Value} → Follows m opened known → (window : List ℕ) (x : ℕ)
    → sees m window x ≡ recall (or_else (known x) (get_or window x 0))
sees_known {known} F window x = rw (F.held x, F.value x) (go (known x))
  where
    go : (v : Value) → cond (is_known v) (recall v) (get_or window x 0) ≡ recall (or_else v (get_or window x 0))
    go none = refl
    go (some u) = refl

-- A cleared map follows a memory that knows nothing.

zero_word : (j : ℕ) → bit 0 j ≡ false
zero_word j = rw (zero-div (2 ^ j))

zero_words : (n x : ℕ) → is_set (replicate n 0) x ≡ false
zero_words n x = rw (get_d_same_lem {A = ℕ} n (x / 64) 0) (zero_word (x % 64))

zero_ones : (n : ℕ) → ones_of (replicate n 0) ≡ 0
unfolding ones_of ones
zero_ones zero = refl
zero_ones (suc n) = omega (arith, zero_ones n)

pub cleared_follows : (flag : ℕ) → Follows (cleared flag) (ltb 0 flag) (λ x. none)
cleared_follows flag = record {
  same = refl;
  held = zero_words word_limit;
  low = λ x h. refl;
  value = λ x. get_d_same_lem map_limit x 0;
  size = length-replicate {A = ℕ} map_limit 0;
  ones = zero_ones word_limit ∙ sym (count_none (is_set (replicate word_limit 0)) 0 map_limit (λ y h k. zero_words word_limit y));
  empty = λ e. all_replicate (λ w. eqb w 0) word_limit 0 refl;
  few = omega (arith, ap length (runs_none (is_set (replicate word_limit 0)) 0 map_limit (λ y h. zero_words word_limit y)));
}

-- The words of a test that no address from 4,096 on passes have its bits at every address.

set_beyond : (test : ℕ → Bool) (x : ℕ) → map_limit ≤ x → is_set (words_of test) x ≡ false
set_beyond test x h = rw (get_or-eq_default (words_of test) 0 {n = x / 64} (omega (arith, length_words test))) (zero_word (x % 64))

set_everywhere : (test : ℕ → Bool) → ((x : ℕ) → map_limit ≤ x → test x ≡ false) → is_set (words_of test) ≡ test
set_everywhere test none_beyond = fun_ext λ x. go x (ltb x map_limit) refl
  where
    go : (x : ℕ) (b : Bool) → ltb x map_limit ≡ b → is_set (words_of test) x ≡ test x
    go x true e = words_set test x (ltb-true x map_limit e)
    go x false e = let far = ltb-false x map_limit e in set_beyond test x far ∙ sym (none_beyond x far)

-- Bytes held from an address on, by a fetch or by an own write: the map follows the memory with them in it.

module _ {m : Map} {known : ℕ → Value} (F : Follows m true known) (a n : ℕ) (bytes : List ℕ) (given : length bytes ≡ n)
    (fits : a + n ≤ map_limit) (room : length (runs_then m a n) ≤ record_limit) where
  abbrev known_then : ℕ → Value
  known_then x = cond (in_span a n x) (some (from a bytes x)) (known x)

  -- an address is known then exactly if it was or if it is in the span
  known_or_in : (x : ℕ) → held_then m a n x ≡ is_known (known_then x)
  known_or_in x = rw (F.held x) (go (known x) (in_span a n x))
    where
      go : (v : Value) (b : Bool) → (is_known v || b) ≡ is_known (cond b (some (from a bytes x)) v)
      go v false = or-false (is_known v)
      go v true = or-true (is_known v)

  low_then : (x : ℕ) → map_limit ≤ x → held_then m a n x ≡ false
  low_then x far = rw (F.held x, F.low x far, le-ltb x (a + n) (omega arith)) (and-false (leb a x))

  set_then : is_set (words_of (held_then m a n)) ≡ held_then m a n
  set_then = set_everywhere (held_then m a n) low_then

  bytes_fit : a + length bytes ≤ length m.values
  bytes_fit = omega (arith, F.size, given)

  value_then : (x : ℕ) → get_or (overwrite m.values a bytes) x 0 ≡ recall (known_then x)
  value_then x = overwritten m.values bytes a bytes_fit x ∙ rw (given, F.value x) (go (in_span a n x))
    where
      go : (b : Bool) → cond b (from a bytes x) (recall (known x)) ≡ recall (cond b (some (from a bytes x)) (known x))
      go true = refl
      go false = refl

  pub hold_follows : Follows (holding m a n bytes) true known_then
  hold_follows = record {
    same = F.same;
    held = λ x. ap (λ (f : ℕ → Bool). f x) set_then ∙ known_or_in x;
    low = λ x far. sym (known_or_in x) ∙ low_then x far;
    value = value_then;
    size = length_overwrite m.values bytes a bytes_fit ∙ F.size;
    ones = ones_of_words (held_then m a n) ∙ ap (λ (f : ℕ → Bool). count f (span 0 map_limit)) (sym set_then);
    empty = λ e. absurd (false≢true (sym e));
    few = rw set_then room;
  }

-- What a fetch holds at an address is what the memory has there, or else what the window has.
module _ {m : Map} {known : ℕ → Value} (F : Follows m true known) (window : List ℕ) (a n : ℕ)
    (fits : a + n ≤ map_limit) (room : length (runs_then m a n) ≤ record_limit) where
  fetched_known : (x : ℕ) → cond (in_span a n x) (some (from a (seen m window a n) x)) (known x)
      ≡ cond (in_span a n x) (or_else (known x) (get_or window x 0)) (known x)
  fetched_known x = go (in_span a n x) refl
    where
      recalled : (v : Value) (w : ℕ) → some (recall (or_else v w)) ≡ or_else v w
      recalled none w = refl
      recalled (some u) w = refl

      go : (b : Bool) → in_span a n x ≡ b
          → cond b (some (from a (seen m window a n) x)) (known x) ≡ cond b (or_else (known x) (get_or window x 0)) (known x)
      go true inside = ap some (byte_in (sees m window) a n x inside ∙ sees_known F window x) ∙ recalled (known x) (get_or window x 0)
      go false outside = refl

  pub fetch_follows : Follows (holding m a n (seen m window a n)) true (λ x. cond (in_span a n x) (or_else (known x) (get_or window x 0)) (known x))
  fetch_follows =
      subst (Follows (holding m a n (seen m window a n)) true) (fun_ext fetched_known)
      (hold_follows F a n (seen m window a n) (length_bytes (sees m window) a n) fits room)
