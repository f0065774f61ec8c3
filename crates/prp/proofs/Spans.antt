-- The spans of an accepted walk: one a page, in their pages, as long together as the transfer, and nothing changed behind them in the two lists.
use Prim.Native.Nat.{ℕ, zero, suc, ◌+◌, ◌*◌, ◌%◌, ◌<◌, ◌≤◌}
use native.Mathlib.Omega.{arith}
use native.Mathlib.Nat.{zero-add}
use mathlib.Core.Path.{◌≡◌, ap, sym, ◌∙◌}
use mathlib.Core.List.{List, [], ◌∷◌, append-nil, map}
use mathlib.Core.Bool.{true}
use lib.ListN.{length, take, drop, get_or, length-map, get_or-append}
use Rattle.octets.specs.Lists.{overwrite}
use Rattle.octets.proofs.Overwrite.{overwrite_front, overwrite_rest}
use Rattle.state.specs.Records.{span}
use Rattle.state.specs.Verdict.{accepted}
use Rattle.state.proofs.Places.{length_span, span_at}
use Rattle.cache.specs.Runs.{Machine}
use Rattle.prp.specs.Pages.{Walk, page_size, offset, reach, touched, length_in, span_lengths}
use Rattle.prp.specs.Walk.{page_entries, asks_of, walk_says, walk_addresses, walk_lengths}
use Rattle.prp.specs.Claims.{sum, address_at, length_at, Spans, WalkSpans}
use Rattle.prp.proofs.Pages.{count_some, count_room, page_touched, page_full, page_behind, first_inside, first_ends, later_inside, later_ends, sum_all}
use Rattle.prp.proofs.Entries.{aligned_at}
use Rattle.prp.proofs.Accepted.{Walked, walked}

-- what stands at the front of a list that was written over
front_at : (buffer front : List ℕ) (i : ℕ) → i < length front → get_or (overwrite buffer 0 front) i 0 ≡ get_or front i 0
front_at buffer front i h = get_or-append front _ 0 i h

-- the lengths, one a page that is touched
module _ (w : Walk) where
  length_lengths : length (span_lengths w) ≡ touched w
  unfolding span_lengths
  length_lengths = length-map (span 0 (touched w)) (length_in w) ∙ length_span 0 (touched w)

  lengths_at : (i : ℕ) → i < touched w → get_or (span_lengths w) i 0 ≡ length_in w i
  unfolding span_lengths
  lengths_at i h =
      ap (λ (l : List ℕ). get_or (map (length_in w) l) i 0) (sym (append-nil (span 0 (touched w))))
      ∙ span_at (length_in w) 0 0 (touched w) [] i h ∙ ap (length_in w) (zero-add i)

module _ (m : Machine) (w : Walk) (e : accepted (walk_says m w) ≡ true) where
  is : Walked m w
  is = walked m w e

  -- the addresses that it found
  abbrev found : List ℕ
  found = w.prp1 ∷ page_entries (asks_of m) w

  -- it touches a page, and as many as it found
  inside_page : offset w < page_size
  inside_page = omega arith

  some : offset w < reach w
  some = omega (arith, is.admits)

  touches : 0 < touched w
  touches = count_some (offset w) (reach w) inside_page some

  length_found : length found ≡ touched w
  length_found = omega (arith, is.entries.many, touches)

  -- they stand at the front of the two lists
  addresses_are : walk_addresses m w ≡ overwrite w.address_list 0 found
  unfolding walk_addresses
  addresses_are = rw e

  lengths_are : walk_lengths m w ≡ overwrite w.length_list 0 (span_lengths w)
  unfolding walk_lengths
  lengths_are = rw e

  pub addresses_front : take (touched w) (walk_addresses m w) ≡ found
  addresses_front = ap (take (touched w)) addresses_are ∙ overwrite_front w.address_list found (touched w) length_found

  pub lengths_front : take (touched w) (walk_lengths m w) ≡ span_lengths w
  lengths_front = ap (take (touched w)) lengths_are ∙ overwrite_front w.length_list (span_lengths w) (touched w) (length_lengths w)

  address_at_lem : (i : ℕ) → i < touched w → address_at m w i ≡ get_or found i 0
  address_at_lem i h = ap (λ (l : List ℕ). get_or l i 0) addresses_are ∙ front_at w.address_list found i (omega (arith, length_found))

  length_at_lem : (i : ℕ) → i < touched w → length_at m w i ≡ length_in w i
  length_at_lem i h =
      ap (λ (l : List ℕ). get_or l i 0) lengths_are ∙ front_at w.length_list (span_lengths w) i (omega (arith, length_lengths w)) ∙ lengths_at w i h

  first_there : address_at m w 0 ≡ w.prp1
  first_there = address_at_lem 0 touches

  -- the others start with their pages
  later_there : (i : ℕ) → 0 < i → i < touched w → address_at m w i % page_size ≡ 0
  later_there zero h k = absurd (omega arith)
  later_there (suc i) h k = ap (λ (x : ℕ). x % page_size) (address_at_lem (suc i) k) ∙ aligned_at _ i is.entries.whole

  -- and the geometry of the pages is that of the spans
  reaches : (i : ℕ) → i < touched w → page_size * i < reach w
  reaches i h = (page_touched (offset w) (reach w) inside_page some i).0 h

  in_page : (i : ℕ) → i < touched w → address_at m w i % page_size + length_at m w i ≤ page_size
  in_page zero h = rw (first_there, length_at_lem 0 h) (first_inside (offset w) (reach w) inside_page some)
  in_page (suc i) h =
      rw (later_there (suc i) (omega arith) h, length_at_lem (suc i) h, zero-add) (later_inside (offset w) (reach w) inside_page some (suc i))

  at_end : (i : ℕ) → suc i < touched w → address_at m w i % page_size + length_at m w i ≡ page_size
  at_end zero h = rw (first_there, length_at_lem 0 touches) (first_ends (offset w) (reach w) inside_page some (reaches 1 h))
  at_end (suc i) h =
      let here : suc i < touched w = omega arith in
      rw (later_there (suc i) (omega arith) here, length_at_lem (suc i) here, zero-add)
      (later_ends (offset w) (reach w) inside_page some (suc i) (omega arith) (reaches (suc (suc i)) h))

  pub spans : Spans m w
  unfolding span_lengths
  spans = record {
    reply = is.reply;
    some = touches;
    room = count_room (offset w) (reach w) inside_page some (omega (arith, is.admits));
    pages = λ i. (
      λ h. page_full (offset w) (reach w) inside_page some i (reaches i h),
      λ h. (page_touched (offset w) (reach w) inside_page some i).1 (page_behind (offset w) (reach w) inside_page some i h),
    );
    first = first_there;
    first_multiple = is.first;
    starts = later_there;
    full = λ i h. rw (length_at_lem i h) (page_full (offset w) (reach w) inside_page some i (reaches i h));
    inside = in_page;
    ends = at_end;
    sums = ap sum lengths_front ∙ omega (arith, sum_all (offset w) (reach w) inside_page some);
    addresses_behind = ap (drop (touched w)) addresses_are ∙ overwrite_rest w.address_list found (touched w) length_found;
    lengths_behind = ap (drop (touched w)) lengths_are ∙ overwrite_rest w.length_list (span_lengths w) (touched w) (length_lengths w);
  }

pub walk_spans : WalkSpans
walk_spans m w e = spans m w e
