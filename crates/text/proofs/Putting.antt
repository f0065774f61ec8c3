-- Laws of Puts: the buffer keeps its length, nothing and one byte are put, and text put behind other text is both of them put at once.
use Prim.Native.Nat.{ℕ, ◌+◌, ◌-◌, ◌≤◌, ◌<◌, min}
use native.Mathlib.Omega.{arith}
use mathlib.Core.Path.{◌≡◌, refl, ap, subst, sym, ◌∙◌}
use mathlib.Core.List.{List, [], ◌∷◌, ◌++◌}
use mathlib.Core.Bool.{Bool, true, false}
use lib.Dec.{leb}
use lib.ListN.{length, take, set, length-append, length-take}
use lib.Seq.{sets-eq, take-nil, take_all, take-append-le, take-append-add}
use borrow.Author.Tests.{leb-true, leb-false}
use Rattle.octets.specs.Lists.{overwrite}
use Rattle.octets.proofs.Overwrite.{overwrite_none, overwrite_then, length_overwrite}
use Rattle.octets.specs.Text.{Puts}

-- as much as there is room for keeps the length, whatever the place
kept : (buffer text : List ℕ) (at : ℕ) → length (overwrite buffer at (take (length buffer - at) text)) ≡ length buffer
kept buffer text at = go (leb at (length buffer)) refl
  where
    go : (t : Bool) → leb at (length buffer) ≡ t → length (overwrite buffer at (take (length buffer - at) text)) ≡ length buffer
    go true h =
        let inside = leb-true at (length buffer) h in
        length_overwrite buffer (take (length buffer - at) text) at (omega (arith, length-take (length buffer - at) text))
    go false h =
        let past = leb-false at (length buffer) h in
        let none : length buffer - at ≡ 0 = omega arith in
        rw none (ap length (overwrite_none buffer at))

module _ {out out' text : List ℕ} {at r : ℕ} (p : Puts out at text r out') where
  pub puts_length : length out' ≡ length out
  puts_length = ap length p.bytes ∙ kept out text at

  pub puts_is : {other : List ℕ} → text ≡ other → Puts out at other r out'
  puts_is e = subst (λ (t : List ℕ). Puts out at t r out') e p

  -- what stands behind text that fills the buffer is not put
  pub puts_cut : (rest : List ℕ) → length out ≤ at + length text → Puts out at (text ++ rest) r out'
  puts_cut rest full =
      record {
        bytes = p.bytes ∙ ap (overwrite out at) (sym (take-append-le (length out - at) text rest (omega arith)));
        next = omega (arith, length-append text rest, p.next);
      }

-- no text, any text at a place past the end, and one byte
module _ (out : List ℕ) (at : ℕ) where
  pub puts_none : (r : ℕ) → r ≡ min at (length out) → Puts out at [] r out
  puts_none r e = record { bytes = rw take-nil (sym (overwrite_none out at)); next = omega arith }

  pub puts_past : (text : List ℕ) → length out ≤ at → Puts out at text (length out) out
  puts_past text past = let none : length out - at ≡ 0 = omega arith in record { bytes = rw none (sym (overwrite_none out at)); next = omega arith }

  pub puts_one : (byte : ℕ) → at < length out → Puts out at (byte ∷ []) (at + 1) (set out at byte)
  puts_one byte inside =
      record {
        bytes = rw (take_all (length out - at) (byte ∷ []) (omega arith)) (sets-eq (byte ∷ []) out at (omega arith));
        next = omega arith;
      }

module _ {out out' out'' p q : List ℕ} {at k k' : ℕ} (first : Puts out at p k out') (second : Puts out' k q k' out'') where
  same : length out' ≡ length out
  same = puts_length first

  pub puts_both : Puts out at (p ++ q) k' out''
  puts_both = record { bytes = go (leb (at + length p) (length out)) refl; next = omega (arith, length-append p q, first.next, second.next, same) }
    where
      go : (t : Bool) → leb (at + length p) (length out) ≡ t → out'' ≡ overwrite out at (take (length out - at) (p ++ q))
      go true h =
          let fits = leb-true (at + length p) (length out) h in
          let place : k ≡ at + length p = omega (arith, first.next) in
          let whole : take (length out - at) p ≡ p = take_all (length out - at) p (omega arith) in
          let room : length out - at ≡ length p + (length out' - k) = omega (arith, same) in
          second.bytes
          ∙ ap (λ (o : List ℕ). overwrite o k (take (length out' - k) q)) (first.bytes ∙ ap (overwrite out at) whole)
          ∙ ap (λ (j : ℕ). overwrite (overwrite out at p) j (take (length out' - k) q)) place
          ∙ overwrite_then out p (take (length out' - k) q) at (omega arith)
          ∙ ap (overwrite out at) (sym (ap (λ (j : ℕ). take j (p ++ q)) room ∙ take-append-add p q (length out' - k)))
      go false h =
          let past = leb-false (at + length p) (length out) h in
          let none : length out' - k ≡ 0 = omega (arith, first.next, same) in
          second.bytes
          ∙ ap (λ (j : ℕ). overwrite out' k (take j q)) none
          ∙ overwrite_none out' k
          ∙ first.bytes
          ∙ ap (overwrite out at) (sym (take-append-le (length out - at) p q (omega arith)))
