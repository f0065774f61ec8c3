-- From an accepted fetch or own write of an address on, until an end or an own write there is accepted, the map holds the byte that was delivered
-- or written there, and each fetch of the address delivers it.
use Prim.Native.Nat.{ℕ, ◌+◌, ◌-◌, ◌≤◌, ◌<◌}
use native.Mathlib.Omega.{arith}
use mathlib.Core.Path.{◌≡◌, refl, sym, ◌∙◌}
use mathlib.Core.List.{List, [], ◌∷◌}
use mathlib.Core.Bool.{Bool, true, false, false≢true, not, cond, ◌&&◌, or-true}
use lib.Dec.{leb, ltb}
use lib.ListN.{length, get_or}
use borrow.Author.Tests.{le-leb, ltb-true, lt-ltb, ltb-false, not-true, not-false}
use Rattle.octets.specs.Lists.{all}
use Rattle.octets.proofs.Lists.{both, and_left, and_right}
use Rattle.octets.proofs.Overwrite.{overwrite_front, length_overwrite}
use Rattle.state.specs.Records.{in_span}
use Rattle.state.specs.Verdict.{accepted}
use Rattle.state.proofs.Verdict.{none_applies}
use Rattle.bits.specs.Bits.{map_limit}
use Rattle.bits.proofs.Words.{words_set}
use Rattle.bytemap.specs.Map.{Map, is_open, is_held}
use Rattle.bytemap.specs.Begin.{begin_says}
use Rattle.bytemap.specs.Fetch.{held_then, holding, sees, seen, fetch_says, fetch_map, fetch_dest}
use Rattle.bytemap.specs.OwnWrite.{own_says, own_map}
use Rattle.bytemap.specs.Runs.{Call, begin, fetch, end, own_write, says, after, delivers, along, ran}
use Rattle.bytemap.specs.Claims.{renews_here, Kept, MapSameByte, MapWrittenByte}
use Rattle.bytemap.proofs.Claims.{map_unchanged}
use Rattle.bytemap.proofs.Spans.{length_bytes, byte_in, overwritten}

-- What an accepted fetch and an accepted own write of a span tell

record Taken (m : Map) (a n : ℕ) : Type 0 where
  fits : a + n ≤ map_limit
  opened : is_open m ≡ true

fetch_taken : (m : Map) (a n : ℕ) (dest window : List ℕ) → accepted (says m (fetch a n dest window)) ≡ true → Taken m a n
unfolding fetch_says
fetch_taken m a n dest window e =
    let f = none_applies _ _ e in
    record {
      fits = omega (arith, ltb-false map_limit (length window) f.1.0, ltb-false (length window) (a + n) f.1.1.0);
      opened = not-false (is_open m) f.1.1.1.1.1.0;
    }

own_taken_lem : (m : Map) (a : ℕ) (bytes window : List ℕ) → accepted (says m (own_write a bytes window)) ≡ true → Taken m a (length bytes)
unfolding own_says
own_taken_lem m a bytes window e =
    let f = none_applies _ _ e in
    record {
      fits = omega (arith, ltb-false map_limit (length window) f.1.0, ltb-false (length window) (a + length bytes) f.1.1.0);
      opened = not-false (is_open m) f.1.1.1.1.0;
    }

-- The map holds this byte at an address, for an open command.
record Keeps (m : Map) (x byte : ℕ) : Type 0 where
  size : length m.values ≡ map_limit
  opened : is_open m ≡ true
  held : is_held m x ≡ true
  value : get_or m.values x 0 ≡ byte

-- so the command sees it, whatever the window has
sees_kept : {m : Map} {x byte : ℕ} → Keeps m x byte → (window : List ℕ) → sees m window x ≡ byte
sees_kept K window = rw K.held K.value

-- and an accepted fetch delivers each byte of its span as the command sees it
delivered :
    (m : Map) (a n : ℕ) (dest window : List ℕ) (x : ℕ) → accepted (says m (fetch a n dest window)) ≡ true → in_span a n x ≡ true
    → get_or (delivers m (fetch a n dest window)) (x - a) 0 ≡ sees m window x
unfolding fetch_dest
delivered m a n dest window x e inside =
    rw (e, overwrite_front dest (seen m window a n) n (length_bytes (sees m window) a n)) (byte_in (sees m window) a n x inside)

-- Bytes held from an address on, by a fetch or by an own write: at each of their addresses the map holds its byte, and elsewhere what it held.

module _ (m : Map) (a n : ℕ) (bytes : List ℕ) (x : ℕ) (T : Taken m a n) (given : length bytes ≡ n) (size : length m.values ≡ map_limit) where
  hold_keeps : x < map_limit → held_then m a n x ≡ true
      → Keeps (holding m a n bytes) x (cond (in_span a n x) (get_or bytes (x - a) 0) (get_or m.values x 0))
  hold_keeps low now =
      let room : a + length bytes ≤ length m.values = omega (arith, size, given, T.fits) in
      record {
        size = length_overwrite m.values bytes a room ∙ size;
        opened = T.opened;
        held = words_set (held_then m a n) x low ∙ now;
        value = overwritten m.values bytes a room x ∙ rw given;
      }

  inside_keeps : in_span a n x ≡ true → Keeps (holding m a n bytes) x (get_or bytes (x - a) 0)
  inside_keeps inside =
      let low : x < map_limit = omega (arith, T.fits, ltb-true x (a + n) (and_right (leb a x) (ltb x (a + n)) inside)) in
      rw inside at (hold_keeps low (rw inside (or-true (is_held m x))))

  outside_keeps : {byte : ℕ} → Keeps m x byte → x < map_limit → in_span a n x ≡ false → Keeps (holding m a n bytes) x byte
  outside_keeps K low outside = rw (outside, K.value) at (hold_keeps low (rw K.held))

-- the byte is the one that the command saw, or that it wrote
fetch_keeps :
    (m : Map) (a n : ℕ) (dest window : List ℕ) (x : ℕ) → accepted (says m (fetch a n dest window)) ≡ true → length m.values ≡ map_limit
    → in_span a n x ≡ true → Keeps (after m (fetch a n dest window)) x (sees m window x)
unfolding fetch_map
fetch_keeps m a n dest window x e size inside =
    rw (e, ← byte_in (sees m window) a n x inside)
    (inside_keeps m a n (seen m window a n) x (fetch_taken m a n dest window e) (length_bytes (sees m window) a n) size inside)

own_keeps_lem :
    (m : Map) (a : ℕ) (bytes window : List ℕ) (x : ℕ) → accepted (says m (own_write a bytes window)) ≡ true → length m.values ≡ map_limit
    → in_span a (length bytes) x ≡ true → Keeps (after m (own_write a bytes window)) x (get_or bytes (x - a) 0)
unfolding own_map
own_keeps_lem m a bytes window x e size inside = rw e (inside_keeps m a (length bytes) bytes x (own_taken_lem m a bytes window e) refl size inside)

-- and a call that neither ends the command nor writes at the address leaves it
keeps_on : {m : Map} {x byte : ℕ} → Keeps m x byte → x < map_limit → (p : Call) → renews_here x m p ≡ false → Keeps (after m p) x byte
unfolding begin_says fetch_map own_map
keeps_on {m} {x} {byte} K low p on = go p on (accepted (says m p)) refl
  where
    go_fetch : (a n : ℕ) (dest window : List ℕ) → accepted (says m (fetch a n dest window)) ≡ true → (b : Bool) → in_span a n x ≡ b
        → Keeps (after m (fetch a n dest window)) x byte
    go_fetch a n dest window e true inside = rw (sees_kept K window) at (fetch_keeps m a n dest window x e K.size inside)
    go_fetch a n dest window e false outside =
        rw e
        (outside_keeps m a n (seen m window a n) x (fetch_taken m a n dest window e) (length_bytes (sees m window) a n) K.size K low outside)

    not_there : (inside taken : Bool) → (inside && taken) ≡ false → taken ≡ true → inside ≡ false
    not_there true taken on e = absurd (false≢true (sym on ∙ e))
    not_there false taken on e = refl

    go : (p : Call) → renews_here x m p ≡ false → (b : Bool) → accepted (says m p) ≡ b → Keeps (after m p) x byte
    go p on false e = rw (map_unchanged m p e).map K
    go begin on true e = absurd (false≢true (sym (none_applies _ _ e).1.0 ∙ K.opened))
    go (fetch a n dest window) on true e = go_fetch a n dest window e (in_span a n x) refl
    go end on true e = absurd (false≢true (sym on ∙ e))
    go (own_write a bytes window) on true e =
        let outside = not_there (in_span a (length bytes) x) (accepted (says m (own_write a bytes window))) on e in
        rw e (outside_keeps m a (length bytes) bytes x (own_taken_lem m a bytes window e) refl K.size K low outside)

keeps_ran : {m : Map} {x byte : ℕ} → Keeps m x byte → x < map_limit → (ps : List Call) → Kept x m ps → Keeps (ran m ps) x byte
unfolding along ran all
keeps_ran {m} {x} K low [] on = K
keeps_ran {m} {x} K low (p ∷ ps) on =
    let rest = all not (along (renews_here x) (after m p) ps) in
    keeps_ran {m = after m p} (keeps_on K low p (not-true _ (and_left (not (renews_here x m p)) rest on))) low ps (and_right (not (renews_here x m p)) rest on)

-- The one law of both claims: what the map holds at an address is delivered by a fetch of it, after any calls that leave it.
delivered_then :
    {m : Map} {x byte : ℕ} → Keeps m x byte → (between : List Call) → Kept x m between → (a n : ℕ) (dest window : List ℕ)
    → accepted (says (ran m between) (fetch a n dest window)) ≡ true → in_span a n x ≡ true
    → get_or (delivers (ran m between) (fetch a n dest window)) (x - a) 0 ≡ byte
delivered_then {m} {x} K between on a n dest window e inside =
    let low : x < map_limit =
    omega (arith, (fetch_taken (ran m between) a n dest window e).fits, ltb-true x (a + n) (and_right (leb a x) (ltb x (a + n)) inside)) in
    delivered (ran m between) a n dest window x e inside ∙ sees_kept (keeps_ran K low between on) window

pub map_same_byte : MapSameByte
map_same_byte m a n dest window between a' n' dest' window' x size inside inside' e on e' =
    delivered m a n dest window x e inside
    ∙ sym (delivered_then (fetch_keeps m a n dest window x e size inside) between on a' n' dest' window' e' inside')

pub map_written_byte : MapWrittenByte
map_written_byte m a bytes window between a' n' dest' window' x size inside inside' e on e' =
    delivered_then (own_keeps_lem m a bytes window x e size inside) between on a' n' dest' window' e' inside'

-- The claims at work

begins : (a k : ℕ) → 0 < k → in_span a k a ≡ true
begins a k h = both (le-leb a a (omega arith)) (lt-ltb a (a + k) (omega arith))

-- a count, one byte, is fetched to be checked, and then the bytes that begin with it are fetched to be used
count_used :
    (m : Map) (a n : ℕ) (dest window dest' window' : List ℕ) →
    let check = fetch a 1 dest window in
    let action = fetch a n dest' window' in
    length m.values ≡ map_limit → 0 < n → accepted (says m check) ≡ true → accepted (says (after m check) action) ≡ true
    → get_or (delivers m check) 0 0 ≡ get_or (delivers (after m check) action) 0 0
unfolding along ran all
count_used m a n dest window dest' window' size some e e' =
    let first : a - a ≡ 0 = omega arith in
    rw first at (map_same_byte m a 1 dest window [] a n dest' window' a size (begins a 1 (omega arith)) (begins a n some) e refl e')

-- the command lowers a count, and whatever the host makes of it, and whatever the command held there, it reads what it wrote
lowered_count_read :
    (m : Map) (a count n : ℕ) (window dest' window' : List ℕ) →
    let lowers = own_write a (count ∷ []) window in
    let action = fetch a n dest' window' in
    length m.values ≡ map_limit → 0 < n → accepted (says m lowers) ≡ true → accepted (says (after m lowers) action) ≡ true
    → get_or (delivers (after m lowers) action) 0 0 ≡ count
unfolding along ran all
lowered_count_read m a count n window dest' window' size some e e' =
    let first : a - a ≡ 0 = omega arith in
    rw first at (map_written_byte m a (count ∷ []) window [] a n dest' window' a size (begins a 1 (omega arith)) (begins a n some) e refl e')
