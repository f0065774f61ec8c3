-- The byte map's calls as C makes them: each answers what `says` says of its call, in C's form, and leaves the map, the destination and the window
-- that lists of calls have after it; a fetch's window is lent to be read, and stays (requests F-2 and F-3 of 02, the agreed changes;
-- docs/RULES.md has their rules).
use Rattle.std.specs.Prelude.{ℕ, ◌≡◌, List}
use Rattle.bytemap.specs.Map.{Map}
use Rattle.bytemap.specs.Runs.{begin, fetch, end, own_write, says, after, dest_after, window_after}
use Rattle.replies.specs.declared.calls.Begun.{Begun}
use Rattle.replies.specs.declared.calls.Ended.{Ended}
use Rattle.replies.specs.declared.calls.Fetched.{Fetched}
use Rattle.replies.specs.declared.calls.Written.{Written}
use Rattle.replies.specs.Replies.{begun_of, ended_of, fetched_of, written_of}

pub record MapBegins (m : Map) (r : Begun) (m' : Map) : Type 0 where
  pub answer : r ≡ begun_of (says m begin)
  pub map : m' ≡ after m begin

pub record MapFetches (m : Map) (window dest : List ℕ) (a n : ℕ) (r : Fetched) (m' : Map) (dest' : List ℕ) : Type 0 where
  pub answer : r ≡ fetched_of (says m (fetch a n dest window))
  pub map : m' ≡ after m (fetch a n dest window)
  pub delivered : dest' ≡ dest_after m (fetch a n dest window)

pub record MapEnds (m : Map) (r : Ended) (m' : Map) : Type 0 where
  pub answer : r ≡ ended_of (says m end)
  pub map : m' ≡ after m end

pub record MapOwnWrites (m : Map) (window : List ℕ) (a : ℕ) (bytes : List ℕ) (r : Written) (m' : Map) (window' : List ℕ) : Type 0 where
  pub answer : r ≡ written_of (says m (own_write a bytes window))
  pub map : m' ≡ after m (own_write a bytes window)
  pub host : window' ≡ window_after m (own_write a bytes window)
