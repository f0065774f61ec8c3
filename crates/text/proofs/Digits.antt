-- Decimal numbers: they are read as the numbers that they stand for, are made of digits, have no leading zero, and no more digits
-- than they need.
use Prim.Native.Nat.{ℕ, zero, suc, ◌+◌, ◌-◌, ◌*◌, ◌/◌, ◌%◌, ◌^◌, ◌≤◌, ◌<◌}
use native.Mathlib.Omega.{arith}
use native.Mathlib.Nat.{not-suc-le-zero}
use mathlib.Core.Path.{◌≡◌, refl, ap, sym, ◌∙◌}
use mathlib.Core.List.{List, [], ◌∷◌, ◌++◌}
use mathlib.Core.Bool.{Bool, true, false}
use lib.Dec.{ltb}
use lib.ListN.{length, get_or, length-append, get_or-append}
use borrow.Author.Tests.{ltb-true, ltb-false, lt-ltb, le-ltb, le-leb}
use Rattle.octets.specs.Lists.{all}
use Rattle.octets.proofs.Lists.{both, and_left, and_right}
use Rattle.text.specs.Decimal.{digit, digits, decimal, read_on, is_digit, DecimalReads, DecimalDigits, NoLeadingZero}

-- a number with one digit, and one with more
digits_small : (steps n : ℕ) → n < 10 → digits (suc steps) n ≡ digit n ∷ []
unfolding digits
digits_small steps n h = rw (lt-ltb n 10 h, digits)

digits_large : (steps n : ℕ) → 10 ≤ n → digits (suc steps) n ≡ digits steps (n / 10) ++ digit (n % 10) ∷ []
unfolding digits
digits_large steps n h = rw (le-ltb n 10 h, digits)

-- What holds of a number with one digit, and of one with more if it holds of its tenth, holds of every number.
module _
    (P : ℕ → List ℕ → Type 0) (small : (n : ℕ) → n < 10 → P n (digit n ∷ []))
    (large : (n : ℕ) (ds : List ℕ) → 10 ≤ n → P (n / 10) ds → P n (ds ++ digit (n % 10) ∷ []))
  where
    by_steps : (steps n : ℕ) → n < steps → P n (digits steps n)
    by_steps zero n h = absurd (not-suc-le-zero h)
    by_steps (suc steps) n h = go (by_steps steps) (ltb n 10) refl
      where
        go : ((k : ℕ) → k < steps → P k (digits steps k)) → (t : Bool) → ltb n 10 ≡ t → P n (digits (suc steps) n)
        go tenth true e = rw (digits_small steps n (ltb-true n 10 e)) (small n (ltb-true n 10 e))
        go tenth false e =
            let more = ltb-false n 10 e in
            rw (digits_large steps n more) (large n (digits steps (n / 10)) more (tenth (n / 10) (omega arith)))

    by_digits : (n : ℕ) → P n (decimal n)
    unfolding decimal
    by_digits n = by_steps (suc n) n (omega arith)

-- the count of steps does not matter, if there are enough
enough : (n steps : ℕ) → n < steps → digits steps n ≡ decimal n
enough n steps h = by_digits (λ m ds. (k : ℕ) → m < k → digits k m ≡ ds) small large n steps h
  where
    small : (m : ℕ) → m < 10 → (k : ℕ) → m < k → digits k m ≡ digit m ∷ []
    small m one zero below = absurd (not-suc-le-zero below)
    small m one (suc k) below = digits_small k m one

    large : (m : ℕ) (ds : List ℕ) → 10 ≤ m → ((k : ℕ) → m / 10 < k → digits k (m / 10) ≡ ds) → (k : ℕ) → m < k → digits k m ≡ ds ++ digit (m % 10) ∷ []
    large m ds more tenth zero below = absurd (not-suc-le-zero below)
    large m ds more tenth (suc k) below = digits_large k m more ∙ ap (λ (l : List ℕ). l ++ digit (m % 10) ∷ []) (tenth k (omega arith))

pub decimal_small : (n : ℕ) → n < 10 → decimal n ≡ digit n ∷ []
unfolding decimal
decimal_small n h = digits_small n n h

pub decimal_large : (n : ℕ) → 10 ≤ n → decimal n ≡ decimal (n / 10) ++ digit (n % 10) ∷ []
decimal_large n h = sym (enough n (suc n) (omega arith)) ∙ digits_large n n h ∙ ap (λ (l : List ℕ). l ++ digit (n % 10) ∷ []) (enough (n / 10) n (omega arith))

read_append : (n : ℕ) (ds es : List ℕ) → read_on n (ds ++ es) ≡ read_on (read_on n ds) es
unfolding read_on
read_append n [] es = refl
read_append n (d ∷ ds) es = read_append (n * 10 + (d - 48)) ds es

pub decimal_reads : DecimalReads
unfolding read_on
decimal_reads n = by_digits (λ m ds. read_on 0 ds ≡ m) small large n
  where
    small : (m : ℕ) → m < 10 → read_on 0 (digit m ∷ []) ≡ m
    small m one = omega arith

    large : (m : ℕ) (ds : List ℕ) → 10 ≤ m → read_on 0 ds ≡ m / 10 → read_on 0 (ds ++ digit (m % 10) ∷ []) ≡ m
    large m ds more tenth = read_append 0 ds (digit (m % 10) ∷ []) ∙ omega arith

all_append : (p : ℕ → Bool) (xs ys : List ℕ) → all p xs ≡ true → all p ys ≡ true → all p (xs ++ ys) ≡ true
unfolding all
all_append p [] ys h k = k
all_append p (x ∷ xs) ys h k = both (and_left (p x) (all p xs) h) (all_append p xs ys (and_right (p x) (all p xs) h) k)

one_digit : (d : ℕ) → d < 10 → all is_digit (digit d ∷ []) ≡ true
unfolding all
one_digit d h = rw (le-leb 48 (48 + d) (omega arith), le-leb (48 + d) 57 (omega arith))

pub decimal_digits : DecimalDigits
decimal_digits n =
    by_digits (λ m ds. all is_digit ds ≡ true) one_digit
    (λ m ds more tenth. all_append is_digit ds (digit (m % 10) ∷ []) tenth (one_digit (m % 10) (omega arith))) n

-- the first character is there, and is 0 only for 0
record Leads (n : ℕ) (ds : List ℕ) : Type 0 where
  some : 0 < length ds
  zero_only : get_or ds 0 0 ≡ 48 → n ≡ 0

leads : (n : ℕ) → Leads n (decimal n)
leads n = by_digits Leads small large n
  where
    small : (m : ℕ) → m < 10 → Leads m (digit m ∷ [])
    small m one = record { some = omega arith; zero_only = λ e. omega arith }

    large : (m : ℕ) (ds : List ℕ) → 10 ≤ m → Leads (m / 10) ds → Leads m (ds ++ digit (m % 10) ∷ [])
    large m ds more tenth =
        record {
          some = omega (arith, length-append ds (digit (m % 10) ∷ []), tenth.some);
          zero_only = λ e. omega (arith, tenth.zero_only (sym (get_or-append ds (digit (m % 10) ∷ []) 0 0 tenth.some) ∙ e));
        }

pub no_leading_zero : NoLeadingZero
no_leading_zero n rest e = (leads n).zero_only (ap (λ (l : List ℕ). get_or l 0 0) e)

-- How long they are

-- a number of two digits or more: its tenth has one digit less, and not none
pub tenth : (k n : ℕ) → 10 ≤ n → n < 10 ^ k → (1 ≤ k - 1) × (n / 10 < 10 ^ (k - 1))
tenth zero n more below = absurd (omega arith)
tenth (suc zero) n more below = absurd (omega arith)
tenth (suc (suc k)) n more below = let less : suc (suc k) - 1 ≡ suc k = omega arith in rw less (omega arith, omega arith)

-- a number below 10 ^ k has at most k digits
abbrev Within : ℕ → List ℕ → Type 0
Within n ds = (k : ℕ) → 1 ≤ k → n < 10 ^ k → length ds ≤ k

pub decimal_short : (k n : ℕ) → 1 ≤ k → n < 10 ^ k → length (decimal n) ≤ k
decimal_short k n some below = by_digits Within (λ m one k some below. some) large n k some below
  where
    large : (m : ℕ) (ds : List ℕ) → 10 ≤ m → Within (m / 10) ds → Within m (ds ++ digit (m % 10) ∷ [])
    large m ds more shorter k some below =
        let less = tenth k m more below in
        omega (arith, length-append ds (digit (m % 10) ∷ []), shorter (k - 1) less.0 less.1)
