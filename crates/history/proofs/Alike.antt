-- Two calls of which the equal-runs rule speaks: the same but for the bytes of windows, of host writes and of destinations.
use Prim.Native.Nat.{ℕ}
use native.Mathlib.Omega.{arith}
use mathlib.Core.Path.{◌≡◌, sym, ap, ◌∙◌}
use mathlib.Core.List.{List, [], ◌∷◌, map}
use mathlib.Core.Bool.{Bool, true, false}
use lib.ListN.{length, length-replicate}
use Rattle.octets.proofs.Lists.{cons_head, cons_tail}
use Rattle.cache.specs.Runs.{Call, begin, fetch, end, host_write, own_write, show, Machine, says, state_after}
use Rattle.history.specs.Journal.{Deed, fetched, deed_of}
use Rattle.history.specs.Claims.{common, common_lengths}

pub data Alike : Call → Call → Type 0 where
  begins : {c : ℕ} → Alike (begin c) (begin c)
  fetches : {c a n : ℕ} {t u w v : List ℕ} → length t ≡ length u → length w ≡ length v → Alike (fetch c a n t w) (fetch c a n u v)
  ends : {c : ℕ} → Alike (end c) (end c)
  host_writes : {a : ℕ} {b d w v : List ℕ} → length b ≡ length d → length w ≡ length v → Alike (host_write a b w) (host_write a d v)
  own_writes : {c a : ℕ} {bytes w v : List ℕ} → length w ≡ length v → Alike (own_write c a bytes w) (own_write c a bytes v)
  shows : {c i : ℕ} → Alike (show c i) (show c i)

common_alike : (p : Call) → Alike (common_lengths p) p
unfolding common
common_alike (begin c) = begins
common_alike (fetch c a n dest window) = fetches (length-replicate _ _) (length-replicate _ _)
common_alike (end c) = ends
common_alike (host_write a bytes window) = host_writes (length-replicate _ _) (length-replicate _ _)
common_alike (own_write c a bytes window) = own_writes (length-replicate _ _)
common_alike (show c i) = shows

through : {k p q : Call} → Alike k p → Alike k q → Alike p q
through begins begins = begins
through (fetches d e) (fetches t f) = fetches (sym d ∙ t) (sym e ∙ f)
through ends ends = ends
through (host_writes b e) (host_writes d f) = host_writes (sym b ∙ d) (sym e ∙ f)
through (own_writes e) (own_writes f) = own_writes (sym e ∙ f)
through shows shows = shows

pub alike : (p q : Call) → common_lengths p ≡ common_lengths q → Alike p q
alike p q e = through (common_alike p) (rw e (common_alike q))

pub data Alikes : List Call → List Call → Type 0 where
  nil : Alikes [] []
  next : {p q : Call} {ps qs : List Call} → Alike p q → Alikes ps qs → Alikes (p ∷ ps) (q ∷ qs)

pub alikes : (ps qs : List Call) → map common_lengths ps ≡ map common_lengths qs → Alikes ps qs
alikes [] [] e = nil
alikes [] (q ∷ qs) e = absurd (omega (arith, ap length e))
alikes (p ∷ ps) [] e = absurd (omega (arith, ap length e))
alikes (p ∷ ps) (q ∷ qs) e = next (alike p q (cons_head e)) (alikes ps qs (cons_tail e))

-- Two machines whose answers and states go on alike
pub record Twin (m k : Machine) : Type 0 where
  pub state : m.state ≡ k.state
  pub size : length m.store ≡ length k.store

pub says_alike : {m k : Machine} {p q : Call} → Twin m k → Alike p q → says m p ≡ says k q
says_alike T begins = cc
says_alike T (fetches d e) = cc
says_alike T ends = cc
says_alike T (host_writes b e) = cc
says_alike T (own_writes e) = cc
says_alike T shows = cc

pub state_alike : {m k : Machine} {p q : Call} → Twin m k → Alike p q → state_after m p ≡ state_after k q
state_alike T begins = cc
state_alike T (fetches d e) = cc
state_alike T ends = cc
state_alike T (host_writes b e) = cc
state_alike T (own_writes e) = cc
state_alike T shows = cc

-- They did the same, but where both are accepted fetches, whose windows may differ.
pub data View : Deed → Deed → Type 0 where
  same : {d : Deed} → View d d
  fetching : {c a n : ℕ} {w v : List ℕ} → View (fetched c a n w) (fetched c a n v)

pub view : {p q : Call} (b : Bool) → Alike p q → View (deed_of b p) (deed_of b q)
view false A = same
view true begins = same
view true (fetches d e) = fetching
view true ends = same
view true (host_writes b e) = same
view true (own_writes e) = same
view true shows = same
