-- From a command's part to the whole store.
use Prim.Native.Nat.{ℕ, ◌+◌, ◌-◌, ◌≤◌, ◌<◌}
use native.Mathlib.Omega.{arith}
use native.Mathlib.Nat.{zero-add}
use mathlib.Core.Path.{◌≡◌, refl, ap, fun_ext, ◌∙◌}
use mathlib.Core.List.{List, ◌∷◌, ◌++◌, map}
use mathlib.Core.Bool.{Bool, true, false, cond}
use lib.ListN.{length, take, drop, get_or, length-take, length-drop, length-map, take-append-drop}
use lib.Seq.{get_or-take, get_or-drop}
use Rattle.octets.specs.Lists.{overwrite, part}
use Rattle.octets.proofs.Overwrite.{overwrite_lent, overwrite_same}
use Rattle.state.specs.declared.Record.{Record}
use Rattle.state.specs.declared.Meeting.{Meeting}
use Rattle.state.specs.Limits.{held_limit}
use Rattle.state.specs.Records.{held, place, addresses, total}
use Rattle.state.specs.State.{State, ascending}
use Rattle.state.specs.Cut.{Cut}
use Rattle.state.specs.Join.{replaced}
use Rattle.state.proofs.Places.{map_read}
use Rattle.state.proofs.Laws.{place_below, length_addresses, total_append, map_held, packed_back}
use Rattle.store.specs.Store.{part_start, packed, packed_bytes, byte_at, from, sees}
use Rattle.store.specs.Hold.{sees_in, repacked}

-- a command sees its bytes in its part as in the store
module _ (rs : List Record) (c : ℕ) (store : List ℕ) (source : ℕ → ℕ) (up : ascending 0 rs ≡ true) (small : total rs ≤ held_limit) where
  sees_part : sees rs (λ k. k) (part store (part_start c) held_limit) source ≡ sees rs (λ k. part_start c + k) store source
  sees_part = fun_ext λ x. go x (held rs x) refl
    where
      go : (x : ℕ) (b : Bool) → held rs x ≡ b
          → cond b (get_or (part store (part_start c) held_limit) (place rs x) 0) (source x) ≡ cond b (get_or store (part_start c + place rs x) 0) (source x)
      go x true e =
          let near : place rs x < held_limit = omega (arith, place_below 0 rs x up e) in
          get_or-take held_limit (drop (part_start c) store) (place rs x) 0 near ∙ get_or-drop (part_start c) store (place rs x) 0
      go x false e = refl

-- and what is packed in its part is packed in the store
module _ (rs : List Record) (m : Meeting) (fresh c : ℕ) (store : List ℕ) (base : ℕ) (source : List ℕ)
    (C : Cut rs m fresh base (base + length source)) (room : total rs + fresh ≤ held_limit) (inside : part_start c + held_limit ≤ length store) where
  total_replaced : total (replaced rs m) ≡ total rs + fresh
  unfolding total
  total_replaced =
      total_append (take m.first rs) (record { start = m.low; len = m.high - m.low } ∷ drop m.last rs)
      ∙ omega (arith, C.below, C.bytes, C.counts, ap total (take-append-drop m.last rs), total_append (take m.last rs) (drop m.last rs))

  abbrev own : List ℕ
  own = part store (part_start c) held_limit

  abbrev bytes : List ℕ
  bytes = map (sees_in rs own base source) (addresses (replaced rs m))

  pub repacked_store :
      take (part_start c) store ++ (repacked rs m own base source ++ drop held_limit (drop (part_start c) store))
      ≡ packed store c (replaced rs m) (sees rs (λ k. part_start c + k) store (from base source))
  repacked_store =
      let size : length bytes ≡ total rs + fresh
      = length-map (addresses (replaced rs m)) (sees_in rs own base source) ∙ length_addresses (replaced rs m) ∙ total_replaced in
      let room' : length own ≡ held_limit = simp (length-take, length-drop) (omega arith) in
      overwrite_lent store bytes (part_start c) held_limit (omega arith)
      ∙ ap (packed store c (replaced rs m)) (sees_part rs c store (from base source) C.up (omega arith))

-- the bytes that a command's records hold stand there already
pub own_bytes :
    (rs : List Record) (c : ℕ) (store : List ℕ) (source : ℕ → ℕ) → ascending 0 rs ≡ true → part_start c + total rs ≤ length store
    → packed store c rs (sees rs (λ k. part_start c + k) store source) ≡ store
own_bytes rs c store source up fits =
    let read = map_held (sees rs (λ k. part_start c + k) store source) (λ x. get_or store (part_start c + place rs x) 0) rs (λ x h. rw h) in
    ap (overwrite store (part_start c)) (read ∙ packed_back store (part_start c) 0 rs up fits) ∙ overwrite_same store (part_start c) (total rs) fits

-- a window's first byte has the address 0
pub from_zero : (window : List ℕ) → from 0 window ≡ byte_at window
from_zero window = fun_ext λ x. ap (λ (k : ℕ). get_or window k 0) (omega arith)

-- the packed bytes stand side by side
pub packed_part : (s : State) (store : List ℕ) (c n : ℕ) → part_start c + n ≤ length store → packed_bytes s store c n ≡ part store (part_start c) n
packed_part s store c n fits =
    map_read (λ k. get_or store (part_start c + k) 0) store (part_start c) 0 n fits (λ i h. ap (λ (k : ℕ). get_or store (part_start c + k) 0) (zero-add i))
