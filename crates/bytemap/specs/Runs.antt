-- A list of calls of the byte map's one command, run one after the other.
use Rattle.std.specs.Prelude.{ℕ, List, [], ◌∷◌, cond, length, take}
use Rattle.state.specs.Verdict.{Reply, accepted}
use Rattle.bytemap.specs.Map.{Map}
use Rattle.bytemap.specs.Begin.{begin_says, begin_map}
use Rattle.bytemap.specs.Fetch.{fetch_says, fetch_map, fetch_dest}
use Rattle.bytemap.specs.End.{end_says, end_map}
use Rattle.bytemap.specs.OwnWrite.{own_says, own_map, own_window}

-- a call with all that it is given; each may have a window of its own
pub data Call : Type 0 where
  begin : Call
  fetch : (a n : ℕ) (dest window : List ℕ) → Call
  end : Call
  own_write : (a : ℕ) (bytes window : List ℕ) → Call

-- the answer of a call
abbrev pub says : Map → Call → Reply
says m begin = begin_says m
says m (fetch a n dest window) = fetch_says m (length window) (length dest) a n
says m end = end_says m
says m (own_write a bytes window) = own_says m (length window) a (length bytes)

-- what a call leaves
abbrev pub after : Map → Call → Map
after m begin = begin_map m
after m (fetch a n dest window) = fetch_map m window dest a n
after m end = end_map m
after m (own_write a bytes window) = own_map m window a bytes

-- the destination and the window lent to a call, and each after it; where none is lent, no bytes
abbrev pub dest_given : Call → List ℕ
dest_given begin = []
dest_given (fetch a n dest window) = dest
dest_given end = []
dest_given (own_write a bytes window) = []

abbrev pub dest_after : Map → Call → List ℕ
dest_after m begin = []
dest_after m (fetch a n dest window) = fetch_dest m window dest a n
dest_after m end = []
dest_after m (own_write a bytes window) = []

abbrev pub window_given : Call → List ℕ
window_given begin = []
window_given (fetch a n dest window) = window
window_given end = []
window_given (own_write a bytes window) = window

abbrev pub window_after : Map → Call → List ℕ
window_after m begin = []
window_after m (fetch a n dest window) = window
window_after m end = []
window_after m (own_write a bytes window) = own_window m window a bytes

-- how many bytes a call asks to be delivered
abbrev pub wanted : Call → ℕ
wanted begin = 0
wanted (fetch a n dest window) = n
wanted end = 0
wanted (own_write a bytes window) = 0

-- the delivered bytes: the front of the destination after an accepted fetch, as much of it as was asked for
abbrev pub delivers : Map → Call → List ℕ
delivers m p = cond (accepted (says m p)) (take (wanted p) (dest_after m p)) []

-- what f gives at each place of a list
unfoldable pub along : {A : Type 0} → (Map → Call → A) → Map → List Call → List A
along f m [] = []
along f m (p ∷ ps) = f m p ∷ along f (after m p) ps

-- the map after a whole list
unfoldable pub ran : Map → List Call → Map
ran m [] = m
ran m (p ∷ ps) = ran (after m p) ps
