-- The bytes that fit are put, and then the one that is cut short, behind which there is no room.
use Prim.Native.Nat.{ℕ, suc, ◌+◌, ◌-◌, ◌*◌, ◌/◌, ◌≤◌, ◌<◌, min}
use native.Mathlib.Omega.{arith}
use mathlib.Core.Path.{◌≡◌, ap, sym, ◌∙◌}
use mathlib.Core.List.{List, ◌++◌}
use lib.ListN.{length, take, drop, get_or, length-take, length-drop, take-append-drop}
use lib.Seq.{take_all, length-take-le}
use Rattle.octets.specs.Lists.{overwrite, part}
use Rattle.octets.proofs.Overwrite.{overwrite_lent}
use Rattle.octets.specs.Text.{Puts}
use Rattle.text.specs.Hexadecimal.{hex_pair, hexadecimal}
use Rattle.text.proofs.Putting.{puts_is, puts_past, puts_both, puts_cut}
use Rattle.text.proofs.Pairs.{hex_append, hex_more, length_hex}
use Rattle.text.proofs.hexadecimal.put_hex.Goals as goal

-- the buffer, once the part that was lent is back
module _ (out bytes : List ℕ) (at whole : ℕ) (inside : at < length out) (is : whole ≡ min (length bytes) ((length out - at) / 2)) where
  abbrev pairs : List ℕ
  pairs = hexadecimal (take whole bytes)

  abbrev back : List ℕ → List ℕ
  back lent = take at out ++ (lent ++ drop (length out - at) (drop at out))

  count : length pairs ≡ 2 * whole
  count = length_hex (take whole bytes) ∙ ap (λ (n : ℕ). 2 * n) (length-take-le whole bytes (omega arith))

  paired : (lent : List ℕ) → lent ≡ overwrite (part out at (length out - at)) 0 pairs → Puts out at pairs (at + 2 * whole) (back lent)
  paired lent e =
      let size : length (part out at (length out - at)) ≡ length out - at = simp (length-take, length-drop) (omega arith) in
      record {
        bytes =
            ap back e ∙ overwrite_lent out pairs at (length out - at) (omega (arith, count))
            ∙ ap (overwrite out at) (sym (take_all (length out - at) pairs (omega (arith, count))));
        next = omega (arith, count);
      }

  -- all of them fit
  all_put : {r : ℕ} {out' : List ℕ} → length bytes ≤ whole → Puts out at pairs r out' → Puts out at (hexadecimal bytes) r out'
  all_put h p = puts_is p (ap hexadecimal (take_all whole bytes h))

  -- the next one is put as far as it fits, and fills the buffer
  one_cut :
      {k r : ℕ} {out' out'' : List ℕ} → whole < length bytes → Puts out at pairs k out' → Puts out' k (hex_pair (get_or bytes whole 0)) r out''
      → Puts out at (hexadecimal bytes) r out''
  one_cut h p q =
      let more : pairs ++ hex_pair (get_or bytes whole 0) ≡ hexadecimal (take (suc whole) bytes) = sym (hex_more bytes whole h) in
      let size : length (hexadecimal (take (suc whole) bytes)) ≡ 2 * suc whole =
      length_hex (take (suc whole) bytes) ∙ ap (λ (n : ℕ). 2 * n) (length-take-le (suc whole) bytes h) in
      puts_is (puts_cut (puts_is (puts_both p q) more) (hexadecimal (drop (suc whole) bytes)) (omega arith))
      (sym (hex_append (take (suc whole) bytes) (drop (suc whole) bytes)) ∙ ap hexadecimal (take-append-drop (suc whole) bytes))

pub returns-then-out-at : goal.returns-then-out-at
returns-then-out-at c = let args = c.args in puts_past args.out.now args.at (hexadecimal args.bytes.now) (omega arith)

pub slice_bounds-put_pairs-end-2 : goal.slice_bounds-put_pairs-end-2
slice_bounds-put_pairs-end-2 c = simp length-take (omega arith)

pub put_pairs-requires : goal.put_pairs-requires
put_pairs-requires c = simp (length-take, length-drop) (omega arith)

pub returns-in-Some : goal.returns-in-Some
returns-in-Some c =
    let out = c.args.out.now in
    let bytes = c.args.bytes.now in
    let at = c.args.at in
    let whole = c.min-whole.result in
    let inside = c.if-out-at.false in
    let is = c.min-whole.ensures in
    let pairs_put = paired out bytes at whole inside is c.put_pairs.new.out c.put_pairs.ensures in
    let there = c.in-Some.ensures.lookup.3 in
    one_cut out bytes at whole inside is there.0 pairs_put (puts_is c.put_pair.ensures (ap hex_pair (there.1 0)))

pub returns-in-None : goal.returns-in-None
returns-in-None c =
    let out = c.args.out.now in
    let bytes = c.args.bytes.now in
    let at = c.args.at in
    let whole = c.min-whole.result in
    let inside = c.if-out-at.false in
    let is = c.min-whole.ensures in
    let pairs_put = paired out bytes at whole inside is c.put_pairs.new.out c.put_pairs.ensures in
    all_put out bytes at whole inside is c.in-None.ensures.lookup.3 pairs_put
