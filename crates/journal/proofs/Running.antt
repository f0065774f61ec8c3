-- A journal run: what one frame more leaves to be told, and what is told when none is left.
use Prim.Native.Nat.{ℕ, zero, suc, ◌+◌, ◌-◌, ◌≤◌, ◌<◌}
use native.Mathlib.Omega.{arith}
use native.Mathlib.Numerals.{add-one}
use native.Mathlib.Nat.{sub-zero, not-suc-le-zero}
use mathlib.Core.Path.{◌≡◌, refl, ap, sym, subst, ◌∙◌}
use mathlib.Core.List.{List, [], ◌∷◌, ◌++◌, append-nil, append_assoc}
use mathlib.Core.Bool.{Bool, true, false, false≢true, not, cond}
use mathlib.Core.Logic.{◌≢◌}
use lib.ListN.{length, drop, get_or, length-drop}
use Rattle.std.specs.Int.{from_bool}
use Rattle.state.specs.Verdict.{Reply, refused, replied, accepted, numbers_of}
use Rattle.frames.specs.Read.{read_says}
use Rattle.frames.specs.Layout.{fields_of}
use Rattle.frames.proofs.Accepted.{readable, reads}
use Rattle.octets.specs.Lists.{count}
use Rattle.octets.specs.Text.{Puts}
use Rattle.loglines.specs.Line.{line_of}
use Rattle.text.proofs.Putting.{puts_is, puts_none, puts_both}
use Rattle.device.specs.Step.{Device, device_of}
use Rattle.device.specs.Frame.{is_readable, taken_up, letter_of, frame_says, frame_leaves, frame_delivers}
use Rattle.journal.specs.Run.{Entry, entry_of, entries_in, left_in, entries, journal_leaves, log_from, was_carried, was_refused, ends_early, Replays}

-- How many bytes a frame takes up

pub record Taken (frame : List ℕ) : Type 0 where
  pub some : 0 < taken_up frame
  pub there : taken_up frame ≤ length frame

pub taken_read : (frame : List ℕ) → is_readable frame ≡ true → Taken frame
unfolding read_says
taken_read frame e =
    let f = fields_of frame in
    let R = readable (length frame) (get_or f 0 0) (get_or f 1 0) (get_or f 2 0) (get_or f 3 0) (get_or f 4 0) e in
    let size = ap (λ (r : Reply). get_or (numbers_of r) 0 0) (reads (length frame) (get_or f 0 0) (get_or f 1 0) (get_or f 2 0) (get_or f 3 0) (get_or f 4 0) R) in
    record { some = omega (arith, size); there = omega (arith, size, R.there) }

pub taken_unread : (frame : List ℕ) → is_readable frame ≡ false → taken_up frame ≡ 0
unfolding accepted
taken_unread frame e = go (read_says frame) e
  where
    go : (r : Reply) → accepted r ≡ false → get_or (numbers_of r) 0 0 ≡ 0
    go (refused n) e = refl
    go (replied ns) e = absurd (false≢true (sym e))

-- so a frame that took up bytes was read, and one that took up none was not
pub some_read : (frame : List ℕ) {taken : ℕ} → taken ≡ taken_up frame → taken ≢ 0 → is_readable frame ≡ true
some_read frame e some = go (is_readable frame) refl
  where
    go : (b : Bool) → is_readable frame ≡ b → b ≡ true
    go true u = refl
    go false u = absurd (some (e ∙ taken_unread frame u))

pub none_unread : (frame : List ℕ) {taken : ℕ} → taken ≡ taken_up frame → taken ≡ 0 → is_readable frame ≡ false
none_unread frame e none = go (is_readable frame) refl
  where
    go : (b : Bool) → is_readable frame ≡ b → b ≡ false
    go true r = absurd (omega (arith, (taken_read frame r).some, e, none))
    go false r = refl

-- no more than there are
pub taken_most : (frame : List ℕ) → taken_up frame ≤ length frame
taken_most frame = go (is_readable frame) refl
  where
    go : (b : Bool) → is_readable frame ≡ b → taken_up frame ≤ length frame
    go true e = (taken_read frame e).there
    go false e = omega (arith, taken_unread frame e)

-- One frame of a journal

module _ (k : ℕ) (d : Device) where
  entries_none : (k : ℕ) → entries_in k d [] ≡ []
  unfolding entries_in
  entries_none zero = refl
  entries_none (suc k) = refl

  left_none : (k : ℕ) → left_in k d [] ≡ d
  unfolding left_in
  left_none zero = refl
  left_none (suc k) = refl

  pub entries_read :
      (frame : List ℕ) → 0 < length frame → is_readable frame ≡ true
      → entries_in (suc k) d frame ≡ entry_of d frame ∷ entries_in k (frame_leaves d frame) (drop (taken_up frame) frame)
  unfolding entries_in
  entries_read [] h e = absurd (not-suc-le-zero h)
  entries_read (x ∷ xs) h e = rw e

  pub entries_unread : (frame : List ℕ) → 0 < length frame → is_readable frame ≡ false → entries_in (suc k) d frame ≡ entry_of d frame ∷ []
  unfolding entries_in
  entries_unread [] h e = absurd (not-suc-le-zero h)
  entries_unread (x ∷ xs) h e = rw e

  pub left_read :
      (frame : List ℕ) → 0 < length frame → is_readable frame ≡ true
      → left_in (suc k) d frame ≡ left_in k (frame_leaves d frame) (drop (taken_up frame) frame)
  unfolding left_in
  left_read [] h e = absurd (not-suc-le-zero h)
  left_read (x ∷ xs) h e = rw (left_in, e)

  pub left_unread : (frame : List ℕ) → 0 < length frame → is_readable frame ≡ false → left_in (suc k) d frame ≡ d
  unfolding left_in
  left_unread [] h e = absurd (not-suc-le-zero h)
  left_unread (x ∷ xs) h e = rw (left_in, e)

-- The loop of `replay`: `number` frames are done, `rest` is left of the input behind them, and the log of those is put

module _ (d₀ : Device) (input out₀ : List ℕ) where
  abbrev left_of : (number : ℕ) → Device → (rest : List ℕ) → List Entry
  left_of number d rest = entries_in (length input - number) d rest

  pub record Running (number written carried : ℕ) (d : Device) (rest out : List ℕ) : Type 0 where
    pub few : number + length rest ≤ length input
    pub some : carried ≤ number
    pub told : List ℕ
    pub put : Puts out₀ 0 told written out
    pub text : told ++ log_from (suc number) (left_of number d rest) ≡ log_from 1 (entries d₀ input)
    pub left : left_in (length input - number) d rest ≡ journal_leaves d₀ input
    pub goods : carried + count was_carried (left_of number d rest) ≡ count was_carried (entries d₀ input)
    pub bads : number - carried + count was_refused (left_of number d rest) ≡ count was_refused (entries d₀ input)
    pub early : ends_early (left_of number d rest) ≡ ends_early (entries d₀ input)

  full : left_of 0 d₀ input ≡ entries d₀ input
  full = ap (λ (k : ℕ). entries_in k d₀ input) (sub-zero (length input))

  pub running_start : Running 0 0 0 d₀ input out₀
  running_start = record {
    few = omega arith;
    some = omega arith;
    told = [];
    put = puts_none out₀ 0 0 (omega arith);
    text = ap (log_from 1) full;
    left = ap (λ (k : ℕ). left_in k d₀ input) (sub-zero (length input));
    goods = omega (arith, ap (count was_carried) full);
    bads = omega (arith, ap (count was_refused) full);
    early = ap ends_early full;
  }

  module _ (number written carried : ℕ) (d : Device) (frame out : List ℕ) (R : Running number written carried d frame out) where
    -- a frame more
    module _ (some_bytes : 0 < length frame) (next : ℕ) (out' : List ℕ)
        (line : Puts out written (line_of (number + 1) (letter_of frame) (frame_says d frame) (frame_delivers d frame)) next out') where
      steps : length input - number ≡ suc (length input - (number + 1))
      steps = omega (arith, R.few)

      abbrev text : List ℕ
      text = line_of (number + 1) (letter_of frame) (frame_says d frame) (frame_delivers d frame)

      module _ (e : is_readable frame ≡ true) where
        abbrev rest : List Entry
        rest = left_of (number + 1) (frame_leaves d frame) (drop (taken_up frame) frame)

        rest_is : left_of number d frame ≡ entry_of d frame ∷ rest
        rest_is = ap (λ (k : ℕ). entries_in k d frame) steps ∙ entries_read (length input - (number + 1)) d frame some_bytes e

        left_is : left_in (length input - number) d frame ≡ left_in (length input - (number + 1)) (frame_leaves d frame) (drop (taken_up frame) frame)
        left_is = ap (λ (k : ℕ). left_in k d frame) steps ∙ left_read (length input - (number + 1)) d frame some_bytes e

        goods_are : count was_carried (entry_of d frame ∷ rest) ≡ cond (accepted (frame_says d frame)) 1 0 + count was_carried rest
        unfolding count
        goods_are = rw e

        bads_are : count was_refused (entry_of d frame ∷ rest) + cond (accepted (frame_says d frame)) 1 0 ≡ 1 + count was_refused rest
        unfolding count
        bads_are = rw e (go (accepted (frame_says d frame)))
          where
            go : (b : Bool) → cond (not b) 1 0 + count was_refused rest + cond b 1 0 ≡ 1 + count was_refused rest
            go true = omega arith
            go false = omega arith

        early_is : ends_early (entry_of d frame ∷ rest) ≡ ends_early rest
        unfolding ends_early
        early_is = rw e

        text_is : log_from (suc number) (entry_of d frame ∷ rest) ≡ text ++ log_from (suc (number + 1)) rest
        unfolding log_from
        text_is = ap (λ (n : ℕ). line_of n (letter_of frame) (frame_says d frame) (frame_delivers d frame) ++ log_from (suc n) rest) (sym (add-one number))

        one_most : (b : Bool) → ◌≤◌ (cond b 1 0) 1
        one_most true = omega arith
        one_most false = omega arith

        as_number : (b : Bool) → from_bool b ≡ cond b 1 0
        as_number true = refl
        as_number false = refl

        turned : (carried' : ℕ) → carried' ≡ carried + cond (accepted (frame_says d frame)) 1 0
            → Running (number + 1) next carried' (frame_leaves d frame) (drop (taken_up frame) frame) out'
        turned carried' is =
            let T = taken_read frame e in
            let ok : ℕ = cond (accepted (frame_says d frame)) 1 0 in
            record {
              few = omega (arith, length-drop (taken_up frame) frame, T.some, T.there, R.few);
              some = omega (arith, R.some, one_most (accepted (frame_says d frame)));
              told = R.told ++ text;
              put = puts_both R.put line;
              text =
                  append_assoc R.told text (log_from (suc (number + 1)) rest) ∙ ap (λ (l : List ℕ). R.told ++ l) (sym text_is)
                  ∙ ap (λ (l : List Entry). R.told ++ log_from (suc number) l) (sym rest_is) ∙ R.text;
              left = sym left_is ∙ R.left;
              goods = omega (arith, R.goods, ap (count was_carried) rest_is, goods_are);
              bads = omega (arith, R.bads, ap (count was_refused) rest_is, bads_are, R.some, one_most (accepted (frame_says d frame)));
              early = sym early_is ∙ ap ends_early (sym rest_is) ∙ R.early;
            }

        -- in the words of the code
        pub running_turn :
            {taken one : ℕ} {ok : Bool} {d' : Device} {behind : List ℕ} → taken ≡ taken_up frame → ok ≡ accepted (frame_says d frame)
            → one ≡ from_bool ok → d' ≡ frame_leaves d frame → behind ≡ drop taken frame → Running (number + 1) next (carried + one) d' behind out'
        running_turn {taken} {one} {ok} {d'} {behind} is ok_is counts leaves behind_is =
            let count = counts ∙ ap from_bool ok_is ∙ as_number (accepted (frame_says d frame)) in
            let where_left = behind_is ∙ ap (λ (k : ℕ). drop k frame) is in
            subst (λ (l : List ℕ). Running (number + 1) next (carried + one) d' l out') (sym where_left)
            (subst (λ (x : Device). Running (number + 1) next (carried + one) x (drop (taken_up frame) frame) out') (sym leaves)
            (turned (carried + one) (ap (λ (n : ℕ). carried + n) count)))

      -- an unreadable one, which ends the run
      module _ (e : is_readable frame ≡ false) where
        last_is : left_of number d frame ≡ entry_of d frame ∷ []
        last_is = ap (λ (k : ℕ). entries_in k d frame) steps ∙ entries_unread (length input - (number + 1)) d frame some_bytes e

        last_text : log_from (suc number) (entry_of d frame ∷ []) ≡ text
        unfolding log_from
        last_text =
            append-nil (line_of (suc number) (letter_of frame) (frame_says d frame) (frame_delivers d frame))
            ∙ ap (λ (n : ℕ). line_of n (letter_of frame) (frame_says d frame) (frame_delivers d frame)) (sym (add-one number))

        ended_log : Puts out₀ 0 (log_from 1 (entries d₀ input)) next out'
        ended_log =
            puts_is (puts_both R.put line)
            (ap (λ (l : List ℕ). R.told ++ l) (sym last_text) ∙ ap (λ (l : List Entry). R.told ++ log_from (suc number) l) (sym last_is) ∙ R.text)

        ended_leaves : frame_leaves d frame ≡ journal_leaves d₀ input
        unfolding frame_leaves
        ended_leaves =
            rw e (sym (left_unread (length input - (number + 1)) d frame some_bytes e))
            ∙ ap (λ (k : ℕ). left_in k d frame) (sym steps) ∙ R.left

        no_good : count was_carried (entry_of d frame ∷ []) ≡ 0
        unfolding count
        no_good = rw e

        no_bad : count was_refused (entry_of d frame ∷ []) ≡ 0
        unfolding count
        no_bad = rw e

        ended_carried : carried ≡ count was_carried (entries d₀ input)
        ended_carried = omega (arith, R.goods, ap (count was_carried) last_is, no_good)

        ended_refused : number - carried ≡ count was_refused (entries d₀ input)
        ended_refused = omega (arith, R.bads, ap (count was_refused) last_is, no_bad)

        stops : ends_early (entry_of d frame ∷ []) ≡ true
        unfolding ends_early
        stops = rw e

        ended_early : true ≡ ends_early (entries d₀ input)
        ended_early = sym stops ∙ ap ends_early (sym last_is) ∙ R.early

        pub replays_unreadable :
            {words' store' window' dest' : List ℕ} → device_of words' store' window' dest' ≡ frame_leaves d frame
            → Replays d₀ input out₀ (record { carried = carried; refused = number - carried; early = true; written = next })
            words' store' window' dest' out'
        replays_unreadable left = record {
          log = ended_log;
          leaves = left ∙ ended_leaves;
          carried = ended_carried;
          refused = ended_refused;
          early = ended_early;
        }

    -- no byte is left
    module _ (past : frame ≡ []) where
      none : left_of number d frame ≡ []
      none = ap (entries_in (length input - number) d) past ∙ entries_none 0 d (length input - number)

      all_log : Puts out₀ 0 (log_from 1 (entries d₀ input)) written out
      unfolding log_from
      all_log = puts_is R.put (sym (append-nil R.told) ∙ ap (λ (l : List Entry). R.told ++ log_from (suc number) l) (sym none) ∙ R.text)

      all_leaves : d ≡ journal_leaves d₀ input
      all_leaves = sym (ap (left_in (length input - number) d) past ∙ left_none 0 d (length input - number)) ∙ R.left

      no_count : (test : Entry → Bool) → count test [] ≡ 0
      unfolding count
      no_count test = refl

      all_carried : carried ≡ count was_carried (entries d₀ input)
      all_carried = omega (arith, R.goods, ap (count was_carried) none, no_count was_carried)

      all_refused : number - carried ≡ count was_refused (entries d₀ input)
      all_refused = omega (arith, R.bads, ap (count was_refused) none, no_count was_refused)

      all_early : false ≡ ends_early (entries d₀ input)
      unfolding ends_early
      all_early = ap ends_early (sym none) ∙ R.early

      pub replays_all :
          {words' store' window' dest' : List ℕ} → device_of words' store' window' dest' ≡ d
          → Replays d₀ input out₀ (record { carried = carried; refused = number - carried; early = false; written = written })
          words' store' window' dest' out
      replays_all left = record { log = all_log; leaves = left ∙ all_leaves; carried = all_carried; refused = all_refused; early = all_early }
