-- A refused call leaves everything as it was given.
use mathlib.Core.Path.{◌≡◌, refl}
use mathlib.Core.Bool.{false}
use Rattle.state.specs.Verdict.{accepted}
use Rattle.cache.specs.Begin.{begin_state, begin_store}
use Rattle.cache.specs.Fetch.{fetch_state, fetch_store, fetch_dest}
use Rattle.cache.specs.End.{end_state, end_store}
use Rattle.cache.specs.HostWrite.{host_window}
use Rattle.cache.specs.OwnWrite.{own_state, own_store, own_window}
use Rattle.cache.specs.Runs.{Call, begin, fetch, end, host_write, own_write, show, Machine, says, after, dest_given, dest_after, window_given, window_after}
use Rattle.cache.specs.Claims.{RefusedUnchanged}

pub refused_same : (m : Machine) (p : Call) → accepted (says m p) ≡ false → after m p ≡ m
unfolding begin_state begin_store fetch_state fetch_store end_state end_store own_state own_store
refused_same m (begin c) e = rw e
refused_same m (fetch c a n dest window) e = rw e
refused_same m (end c) e = rw e
refused_same m (host_write a bytes window) e = refl
refused_same m (own_write c a bytes window) e = rw e
refused_same m (show c i) e = refl

dest_refused : (m : Machine) (p : Call) → accepted (says m p) ≡ false → dest_after m p ≡ dest_given p
unfolding fetch_dest
dest_refused m (begin c) e = refl
dest_refused m (fetch c a n dest window) e = rw e
dest_refused m (end c) e = refl
dest_refused m (host_write a bytes window) e = refl
dest_refused m (own_write c a bytes window) e = refl
dest_refused m (show c i) e = refl

window_refused : (m : Machine) (p : Call) → accepted (says m p) ≡ false → window_after m p ≡ window_given p
unfolding host_window own_window
window_refused m (begin c) e = refl
window_refused m (fetch c a n dest window) e = refl
window_refused m (end c) e = refl
window_refused m (host_write a bytes window) e = rw e
window_refused m (own_write c a bytes window) e = rw e
window_refused m (show c i) e = refl

pub refused_unchanged : RefusedUnchanged
refused_unchanged m p e = record { machine = refused_same m p e; dest = dest_refused m p e; window = window_refused m p e }
