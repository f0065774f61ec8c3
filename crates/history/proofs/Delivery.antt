-- Demand 2 (docs/EVIDENCE.md lists the demands), the delivery rule, over every list of calls.
use Prim.Native.Nat.{ℕ, ◌+◌}
use mathlib.Core.Path.{◌≡◌, refl, ap, ap₂, sym, fun_ext, ◌∙◌}
use mathlib.Core.List.{List, [], ◌∷◌, map}
use mathlib.Core.Bool.{Bool, true, false, cond}
use lib.ListN.{length, take, get_or, length-map}
use Rattle.octets.proofs.Overwrite.{overwrite_front}
use Rattle.state.specs.Records.{held, place, span}
use Rattle.state.specs.Verdict.{accepted}
use Rattle.state.proofs.Places.{length_span}
use Rattle.store.specs.Store.{part_start, location, byte_at, sees}
use Rattle.cache.specs.Fetch.{fetch_dest}
use Rattle.cache.proofs.Accepted.{fetched}
use Rattle.cache.specs.Runs.{Call, begin, fetch, end, host_write, own_write, show, Machine, start, along, says, after, dest_after, delivers}
use Rattle.history.specs.Journal.{deed_of}
use Rattle.history.specs.Firsts.{none, some, or_else, Memory, remember, memory, recall, owed_by}
use Rattle.history.specs.Claims.{DeliveryRule}
use Rattle.history.proofs.Effects.{old}
use Rattle.history.proofs.Sound.{Sound, sound_start, sound_after}
use Rattle.history.proofs.Memories.{along_memory, told_memory}

-- the front of the destination is the span as the command sees it
dest_front :
    (m : Machine) (c a n : ℕ) (dest window : List ℕ) → accepted (says m (fetch c a n dest window)) ≡ true
    → take n (dest_after m (fetch c a n dest window)) ≡ map (sees (old m c) (location m.state c) m.store (byte_at window)) (span a n)
unfolding fetch_dest
dest_front m c a n dest window e =
    let bytes = map (sees (old m c) (location m.state c) m.store (byte_at window)) (span a n) in
    rw e (overwrite_front dest bytes n (length-map (span a n) (sees (old m c) (location m.state c) m.store (byte_at window)) ∙ length_span a n))

seen : (h : Bool) (u w : ℕ) → cond h u w ≡ recall (or_else (cond h (some u) none) w)
seen true u w = refl
seen false u w = refl

pub delivers_owed : (m : Machine) (mem : Memory) (p : Call) (b : Bool) → accepted (says m p) ≡ b → Sound m mem → delivers m p ≡ owed_by mem (deed_of b p)
unfolding owed_by
delivers_owed m mem p false e S = rw e
delivers_owed m mem (fetch c a n dest window) true e S =
    let F = fetched m.state (length m.store) (length window) (length dest) c a n e in
    rw e
    (dest_front m c a n dest window e
    ∙ ap (λ (f : ℕ → ℕ). map f (span a n))
    (fun_ext λ x. rw (S.known c x F.opened) (seen (held (old m c) x) (get_or m.store (part_start c + place (old m c) x) 0) (get_or window x 0))))
delivers_owed m mem (begin c) true e S = rw e
delivers_owed m mem (end c) true e S = rw e
delivers_owed m mem (host_write a bytes window) true e S = rw e
delivers_owed m mem (own_write c a bytes window) true e S = rw e
delivers_owed m mem (show c i) true e S = rw e

pub delivery : (m : Machine) (mem : Memory) (ps : List Call) → Sound m mem → along delivers m ps ≡ along_memory owed_by mem m ps
unfolding along along_memory
delivery m mem [] S = refl
delivery m mem (p ∷ ps) S =
    let ok = accepted (says m p) in
    ap₂ ◌∷◌ (delivers_owed m mem p ok refl S) (delivery (after m p) (remember mem (deed_of ok p)) ps (sound_after m mem p ok refl S))

pub delivery_rule : DeliveryRule
delivery_rule store ps = delivery (start store) (memory []) ps (sound_start store) ∙ sym (told_memory owed_by [] (start store) ps)
