-- Laws of the walk over the rules of the records.
use Rattle.std.proofs.Common.{◌≡◌, ℕ, suc, ◌<◌, ◌≤◌, Bool, true, false, ◌&&◌, ltb, leb, List, [], ◌∷◌, sym, refl, arith, ltb-false, ltb-true, le-ltb, lt-ltb, le-leb, leb-false, leb-true}
use lib.Bits.{bit_or, or_lt, or_add_and, and_le_l, and_le_r}
use borrow.Author.Tests.{lt-leb}
use Rattle.octets.proofs.Lists.{and_left, and_right}
use Rattle.state.specs.declared.Record.{Record}
use Rattle.state.specs.Limits.{held_limit, window_limit}
use Rattle.state.specs.Records.{past, total}
use Rattle.state.specs.State.{ascending}
use Rattle.integrity.specs.Holds.{is_faultless}

-- a bitwise or has its highest bit set if one of the two has
pub or_faultless : (a b : ℕ) → is_faultless (bit_or a b) ≡ (is_faultless a && is_faultless b)
or_faultless a b = go (is_faultless a) refl (is_faultless b) refl
  where
    go : (p : Bool) → is_faultless a ≡ p → (q : Bool) → is_faultless b ≡ q → is_faultless (bit_or a b) ≡ (p && q)
    go true e true f = lt-ltb (bit_or a b) 2147483648 (or_lt 31 a b (ltb-true a 2147483648 e) (ltb-true b 2147483648 f))
    go true e false f = le-ltb (bit_or a b) 2147483648 (omega (arith, or_add_and a b, and_le_l a b, ltb-false b 2147483648 f))
    go false e q f = le-ltb (bit_or a b) 2147483648 (omega (arith, or_add_and a b, and_le_r a b, ltb-false a 2147483648 e))

-- Records in a chain: each starts at the lowest address that is left to it or behind it, which is the second after the one before it, so that
-- an address lies between them, and is not empty. A chain that ends where addresses do is records that ascend, so that a walk asks for
-- that once, at its end.
unfoldable pub chained : ℕ → List Record → Bool
chained low [] = true
chained low (r ∷ rs) = leb low r.start && ltb 0 r.len && chained (suc (past r)) rs

unfoldable pub chain_low : ℕ → List Record → ℕ
chain_low low [] = low
chain_low low (r ∷ rs) = chain_low (suc (past r)) rs

chain_reaches : (low : ℕ) (rs : List Record) → chained low rs ≡ true → low ≤ chain_low low rs
unfolding chained chain_low
chain_reaches low [] up = omega arith
chain_reaches low (r ∷ rs) up =
    let first = and_left (leb low r.start && ltb 0 r.len) (chained (suc (past r)) rs) up in
    let rest = and_right (leb low r.start && ltb 0 r.len) (chained (suc (past r)) rs) up in
    omega (arith, leb-true low r.start (and_left (leb low r.start) (ltb 0 r.len) first), chain_reaches (suc (past r)) rs rest)

-- a chain that has passed the last address does not come back
chain_far : (low : ℕ) (rs : List Record) → suc window_limit < low → (chained low rs && leb (chain_low low rs) (suc window_limit)) ≡ false
chain_far low rs over = go (chained low rs) refl
  where
    go : (c : Bool) → chained low rs ≡ c → (c && leb (chain_low low rs) (suc window_limit)) ≡ false
    go true up = lt-leb (chain_low low rs) (suc window_limit) (omega (arith, chain_reaches low rs up))
    go false up = refl

-- a record in front of others of which this is known where it ends where addresses do
module _ (low : ℕ) (r : Record) (rs : List Record)
    (behind : past r ≤ window_limit → ascending (suc (past r)) rs ≡ (chained (suc (past r)) rs && leb (chain_low (suc (past r)) rs) (suc window_limit))) where
  abbrev first : Bool
  first = leb low r.start && ltb 0 r.len

  abbrev rest : Bool
  rest = chained (suc (past r)) rs

  abbrev ends : Bool
  ends = leb (chain_low (suc (past r)) rs) (suc window_limit)

  regroup : (x c e : Bool) → (x && true && (c && e)) ≡ (x && c && e)
  regroup true c e = refl
  regroup false c e = refl

  cut_off : (x z c e : Bool) → (c && e) ≡ false → (x && false && z) ≡ (x && c && e)
  cut_off true z c e h = sym h
  cut_off false z c e h = refl

  in_front_lem : (b : Bool) → leb (past r) window_limit ≡ b → (first && b && ascending (suc (past r)) rs) ≡ (first && rest && ends)
  in_front_lem true e = rw (behind (leb-true (past r) window_limit e)) (regroup first rest ends)
  in_front_lem false e =
      cut_off first (ascending (suc (past r)) rs) rest ends (chain_far (suc (past r)) rs (omega (arith, leb-false (past r) window_limit e)))

pub ascending_chained : (low : ℕ) (rs : List Record) → low ≤ suc window_limit → ascending low rs ≡ (chained low rs && leb (chain_low low rs) (suc window_limit))
unfolding ascending chained chain_low
ascending_chained low [] h = sym (le-leb low (suc window_limit) h)
ascending_chained low (r ∷ rs) h =
    in_front_lem low r rs (λ fits. ascending_chained (suc (past r)) rs (omega arith)) (leb (past r) window_limit) refl

-- so records are told by their faults, the lowest address that is left behind them, and their total
pub kept_by : (rs : List Record) (faultless : Bool) (low sum : ℕ) → faultless ≡ chained 0 rs → low ≡ chain_low 0 rs → sum ≡ total rs
    → (faultless && leb low (suc window_limit) && leb sum held_limit) ≡ (ascending 0 rs && leb (total rs) held_limit)
kept_by rs faultless low sum f l t = rw (f, l, t, ascending_chained 0 rs (omega arith))
