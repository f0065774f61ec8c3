-- The claims about lists of calls and page walks, refused ones included, from the fresh state and a store of any bytes and any length; and at the
-- end those about one walk, whatever state and store it is given. (01 is the agreed scope and 02 the agreed changes; docs/RULES.md has their rules.)
use Rattle.std.specs.Prelude.{ℕ, ◌≡◌, List, [], ◌∷◌, map, Bool, true, false, not, ◌&&◌, ◌||◌, ◌≢◌, eqb, length, take}
use Rattle.octets.specs.Lists.{all}
use Rattle.state.specs.Records.{in_span}
use Rattle.state.specs.Runs.{runs}
use Rattle.state.specs.State.{holds, has_shape, command_of, records_of, is_open}
use Rattle.state.specs.Verdict.{refused, accepted, keeps_to}
use Rattle.cache.specs.Runs.{Call, begin, fetch, end, host_write, own_write, show, Machine, start, says, delivers, along, ran}
use Rattle.history.specs.Journal.{Event, journal, told, backwards, deed}
use Rattle.history.specs.Firsts.{First, firsts, held_since, owed}
use Rattle.history.specs.Counts.{counts_replied, counts_owed, bytes_replied, sum_owed}
use Rattle.history.specs.Stores.{store_owed}
use Rattle.history.specs.Answers.{open_since, answers_owed, Meets}
use Rattle.history.specs.Claims.{renews, blank, common_lengths, part_in, Holding}
use Rattle.prp.specs.Pages.{Walk, touched}
use Rattle.prp.specs.Entries.{judged}
use Rattle.prp.specs.Walk.{walk_checks, walk_says, walk_fetches, walk_after, walk_addresses, walk_lengths}
use Rattle.walks.specs.Places.{Place, plain, walk, place_says, place_after, place_events, place_delivers, place_lists, throughout, gathered, went}
use Rattle.walks.specs.Places.{expanded, places_journal}

-- A list with walks is a list of calls: its events, what is delivered and the machine at its end are those of the list fetches among the calls.
pub record IsExpanded (store : List ℕ) (ps : List Place) : Type 0 where
  pub events : places_journal store ps ≡ journal store (expanded (start store) ps)
  pub delivered : gathered (throughout place_delivers (start store) ps) ≡ along delivers (start store) (expanded (start store) ps)
  pub leaves : went (start store) ps ≡ ran (start store) (expanded (start store) ps)

abbrev pub WalksAreFetches : Type 0
WalksAreFetches = (store : List ℕ) (ps : List Place) → IsExpanded store ps

-- List fetches that were accepted are fetches, rule by rule: what is claimed of what a list of calls delivers, answers and leaves holds of a list
-- with walks, with the list fetches among the fetches. (That values stay the same between two calls is said of walks by `SameSpans`.)
module _ (store : List ℕ) (ps : List Place) where
  abbrev pub events_of : List Event
  events_of = places_journal store ps

  abbrev pub machine : Machine
  machine = went (start store) ps

  pub record Counted : Type 0 where
    -- the delivery rule
    pub delivered : gathered (throughout place_delivers (start store) ps) ≡ told owed [] events_of
    -- fresh, replayed and the records looked at, and the two numbers of an own write
    pub counts : told counts_replied [] events_of ≡ told counts_owed [] events_of
    -- end's byte number
    pub sums : told bytes_replied [] events_of ≡ told sum_owed [] events_of
    -- every answer, those that the list fetches get among them
    pub answers : map (λ e. e.answer) events_of ≡ told (answers_owed (length store)) [] events_of
    -- whether a command is open, its records, and how the counts of what is held and spare meet
    pub opened : (c : ℕ) → is_open machine.state c ≡ open_since (backwards [] events_of) c
    pub records : (c : ℕ) → is_open machine.state c ≡ true → records_of machine.state c ≡ runs (held_since (backwards [] events_of) c)
    pub meet : (c : ℕ) → is_open machine.state c ≡ true → Meets store (expanded (start store) ps) c
    -- the held bytes, and the whole store
    pub held : (c : ℕ) → is_open machine.state c ≡ true → Holding store (expanded (start store) ps) c
    pub stored : machine.store ≡ store_owed store (backwards [] events_of)
    -- the state holds together, in the shape that words give it
    pub whole : (holds machine.state ≡ true) × (has_shape machine.state ≡ true)

abbrev pub WalksCount : Type 0
WalksCount = (store : List ℕ) (ps : List Place) → Counted store ps

-- and so no place of a list is answered with 20
abbrev pub PlacesNeverBroken : Type 0
PlacesNeverBroken = (store : List ℕ) (ps : List Place) (p : Place) → place_says (went (start store) ps) p ≢ refused 20

-- Check, then use. Is the address in the span of a call, if that is a fetch? Is it one that the walk's list fetches read?
abbrev pub fetches_at : ℕ → Call → Bool
fetches_at x (begin c) = false
fetches_at x (fetch c a n dest window) = in_span a n x
fetches_at x (end c) = false
fetches_at x (host_write a bytes window) = false
fetches_at x (own_write c a bytes window) = false
fetches_at x (show c i) = false

abbrev pub listed : Machine → Walk → ℕ → Bool
listed m w x = not (all (λ p. not (fetches_at x p)) (walk_fetches m w))

-- two walks of one command with the same PRPs and the same transfer
pub record SameRequest (w w' : Walk) : Type 0 where
  pub command : w.command ≡ w'.command
  pub prp1 : w.prp1 ≡ w'.prp1
  pub prp2 : w.prp2 ≡ w'.prp2
  pub transfer : w.transfer ≡ w'.transfer

-- the spans that they give
pub record SameSpansAt (m k : Machine) (w w' : Walk) : Type 0 where
  pub addresses : take (touched w) (walk_addresses m w) ≡ take (touched w') (walk_addresses k w')
  pub lengths : take (touched w) (walk_lengths m w) ≡ take (touched w') (walk_lengths k w')

-- Where both are accepted, and between them no begin of the command is and no own write of it at a listed byte, they give the same spans, whatever
-- the host has written.
module _ (store : List ℕ) (before : List Place) (w : Walk) (between : List Place) (w' : Walk) where
  abbrev pub at_one : Machine
  at_one = went (start store) before

  abbrev pub behind_one : Machine
  behind_one = place_after at_one (walk w)

  abbrev pub at_other : Machine
  at_other = went behind_one between

  abbrev pub unrenewed : Type 0
  unrenewed =
      (x : ℕ) → listed at_one w x ≡ true
      → all (λ e. not (renews w.command x (deed e))) (gathered (throughout place_events behind_one between)) ≡ true

  abbrev pub SpansKept : Type 0
  SpansKept =
      SameRequest w w' → accepted (walk_says at_one w) ≡ true → accepted (walk_says at_other w') ≡ true → unrenewed → SameSpansAt at_one at_other w w'

abbrev pub SameSpans : Type 0
SameSpans = (store : List ℕ) (before : List Place) (w : Walk) (between : List Place) (w' : Walk) → SpansKept store before w between w'

-- The equal-runs rule for lists with walks, in the one direction that 02 asks for. What two runs have in common is all that is given but the bytes of
-- windows, of host writes, of destinations and of scratches; of these it is the length.
unfoldable pub common_at : Place → Place
common_at (plain p) = plain (common_lengths p)
common_at (walk w) = walk (record {
  command = w.command;
  prp1 = w.prp1;
  prp2 = w.prp2;
  transfer = w.transfer;
  least = w.least;
  scratch = blank w.scratch;
  address_list = w.address_list;
  length_list = w.length_list;
  window = blank w.window;
})

-- the first fetches at each place, told from the events before it
unfoldable pub firsts_at : List Event → Machine → List Place → List (List First)
firsts_at past m [] = []
firsts_at past m (p ∷ ps) =
    let es = place_events m p in gathered (told firsts past es) ∷ firsts_at (backwards past es) (place_after m p) ps

-- Do the first fetches of two places agree: has an address that both fetch first one value in both? (That both fetch the same addresses is not
-- asked: of walks it is not known beforehand.)
abbrev pub agree : List First → List First → Bool
agree fs gs = all (λ f. all (λ g. not (eqb f.address g.address) || eqb f.value g.value) gs) fs

unfoldable pub agreeing : List (List First) → List (List First) → Bool
agreeing [] gss = true
agreeing (fs ∷ fss) [] = true
agreeing (fs ∷ fss) (gs ∷ gss) = agree fs gs && agreeing fss gss

-- equal answers, delivered bytes (what list fetches deliver among them), span lists, and after every place equal states and stores
pub record EqualWalks (store : List ℕ) (ps qs : List Place) : Type 0 where
  pub answers : throughout place_says (start store) ps ≡ throughout place_says (start store) qs
  pub events : map (map (λ e. e.answer)) (throughout place_events (start store) ps) ≡ map (map (λ e. e.answer)) (throughout place_events (start store) qs)
  pub delivered : throughout place_delivers (start store) ps ≡ throughout place_delivers (start store) qs
  pub lists : throughout place_lists (start store) ps ≡ throughout place_lists (start store) qs
  pub machines : throughout place_after (start store) ps ≡ throughout place_after (start store) qs

abbrev pub EqualWalksRule : Type 0
EqualWalksRule =
    (store : List ℕ) (ps qs : List Place) → map common_at ps ≡ map common_at qs
    → agreeing (firsts_at [] (start store) ps) (firsts_at [] (start store) qs) ≡ true → EqualWalks store ps qs

-- A list without walks is the list of its calls, so that the equal-runs rule holds of it whole, as before.
pub record PlainOnly (m : Machine) (ps : List Call) : Type 0 where
  pub calls : expanded m (map plain ps) ≡ ps
  pub answers : throughout place_says m (map plain ps) ≡ along says m ps
  pub delivered : gathered (throughout place_delivers m (map plain ps)) ≡ along delivers m ps
  pub leaves : went m (map plain ps) ≡ ran m ps

abbrev pub WithoutWalks : Type 0
WithoutWalks = (m : Machine) (ps : List Call) → PlainOnly m ps

-- One walk, whatever machine it is given: it leaves the other commands alone, their records and their parts of the store.
pub record LeftAlone (m k : Machine) (d : ℕ) : Type 0 where
  pub command : command_of k.state d ≡ command_of m.state d
  pub bytes : part_in k d ≡ part_in m d

abbrev pub WalkAlone : Type 0
WalkAlone = (m : Machine) (w : Walk) (d : ℕ) → w.command ≢ d → LeftAlone m (walk_after m w) d

-- Once PRP1 is judged a walk is refused with 32, 9, 23 or 24 alone, if the state has the shape that words give it.
abbrev pub NumbersBehind : Type 0
NumbersBehind =
    (m : Machine) (w : Walk) → has_shape m.state ≡ true → accepted (judged (walk_checks m w)) ≡ true
    → keeps_to (32 ∷ 9 ∷ 23 ∷ 24 ∷ []) (walk_says m w) ≡ true
