-- The packed bytes around the joined record: those before it stay in their place, and those behind it move up. For the code that
-- moves them; `at k` a command's part begins.
use Prim.Native.Nat.{ℕ, ◌+◌, ◌-◌, ◌≤◌}
use native.Mathlib.Omega.{arith}
use mathlib.Core.Path.{◌≡◌, ap, sym, ◌∙◌}
use mathlib.Core.List.{List, ◌∷◌, ◌++◌, map, map-append}
use mathlib.Core.Bool.{true}
use lib.ListN.{length, take, drop, get_or, length-map, length-drop, take-append-drop}
use lib.Seq.{take_at, drop_at, take-add, length-take-le}
use Rattle.state.specs.declared.Record.{Record}
use Rattle.state.specs.Records.{held, span, addresses, total, place}
use Rattle.state.specs.State.{ascending}
use Rattle.state.specs.Join.{PackedReplaced, PackedFront, PackedBackFrom}
use Rattle.state.proofs.Laws.{length_addresses, map_held, packed_back, addresses_append, total_append}

-- the bytes of the joined records: before the union, within it, and behind it
pub packed_replaced : PackedReplaced
unfolding addresses
packed_replaced f rs m =
    let front = addresses (take m.first rs) in
    let middle = span m.low (m.high - m.low) in
    let back = addresses (drop m.last rs) in
    ap (map f) (addresses_append (take m.first rs) (record { start = m.low; len = m.high - m.low } ∷ drop m.last rs))
    ∙ map-append f front (middle ++ back) ∙ ap (λ (l : List ℕ). map f front ++ l) (map-append f middle back)

module _ (f : ℕ → ℕ) (l : List ℕ) (k : ℕ) (rs : List Record) (up : ascending 0 rs ≡ true) (fits : k + total rs ≤ length l)
    (same : (x : ℕ) → held rs x ≡ true → f x ≡ get_or l (k + place rs x) 0) where
  all_packed : map f (addresses rs) ≡ take (total rs) (drop k l)
  all_packed = map_held f (λ x. get_or l (k + place rs x) 0) rs same ∙ packed_back l k 0 rs up fits

  module _ (i : ℕ) where
    abbrev front : List Record
    front = take i rs

    abbrev back : List Record
    back = drop i rs

    totals : total rs ≡ total front + total back
    totals = ap total (sym (take-append-drop i rs)) ∙ total_append front back

    front_size : length (map f (addresses front)) ≡ total front
    front_size = length-map (addresses front) f ∙ length_addresses front

    halves : map f (addresses front) ++ map f (addresses back) ≡ take (total front) (drop k l) ++ take (total back) (drop (total front) (drop k l))
    halves =
        sym (map-append f (addresses front) (addresses back)) ∙ ap (map f) (sym (addresses_append front back))
        ∙ ap (λ (t : List Record). map f (addresses t)) (take-append-drop i rs)
        ∙ all_packed ∙ ap (λ (t : ℕ). take t (drop k l)) totals ∙ take-add (total front) (total back) (drop k l)

    part_size : length (take (total front) (drop k l)) ≡ total front
    part_size = length-take-le (total front) (drop k l) (simp length-drop (omega (arith, totals)))

    -- those of the first i records
    front_packed : map f (addresses front) ≡ take (total front) (drop k l)
    front_packed =
        sym (take_at (map f (addresses front)) (map f (addresses back)) (total front) front_size)
        ∙ ap (take (total front)) halves ∙ take_at (take (total front) (drop k l)) _ (total front) part_size

    -- those of the others
    back_packed : map f (addresses back) ≡ take (total back) (drop (total front) (drop k l))
    back_packed =
        sym (drop_at (map f (addresses front)) (map f (addresses back)) (total front) front_size)
        ∙ ap (drop (total front)) halves ∙ drop_at (take (total front) (drop k l)) _ (total front) part_size

pub packed_front : PackedFront
packed_front f l k rs up fits same i = front_packed f l k rs up fits same i

pub packed_back_from : PackedBackFrom
packed_back_from f l k rs up fits same i = back_packed f l k rs up fits same i
