-- The log of a journal that is run: what was printed of the frames so far, and what is printed of those left, is all of it.
use Prim.Native.Nat.{ℕ, zero, suc, ◌+◌, ◌-◌, ◌≤◌, ◌<◌}
use native.Mathlib.Omega.{arith}
use native.Mathlib.Numerals.{add-one}
use native.Mathlib.Nat.{sub-zero}
use mathlib.Core.Path.{◌≡◌, refl, ap, sym, ◌∙◌}
use mathlib.Core.List.{List, [], ◌∷◌, ◌++◌, append-nil, append_assoc}
use mathlib.Core.Bool.{Bool, true, false}
use Rattle.std.specs.Prelude.{IsTrue}
use Rattle.std.specs.Int.{from_bool}
use lib.ListN.{length, drop}
use Rattle.loglines.specs.Line.{line_of}
use Rattle.device.specs.Step.{Device}
use Rattle.device.specs.Frame.{is_readable, taken_up, letter_of, frame_says, frame_leaves, frame_delivers}
use Rattle.journal.specs.Run.{Entry, entry_of, entries_in, entries, log_from}
use Rattle.journal.proofs.Running.{entries_read, entries_unread}

-- the entries of what is left of the input behind so many frames
abbrev left : (input : List ℕ) (number : ℕ) → Device → (rest : List ℕ) → List Entry
left input number d rest = entries_in (length input - number) d rest

abbrev pub Said : Device → (input : List ℕ) (number : ℕ) → Device → (rest said : List ℕ) → Type 0
Said d₀ input number d rest said = said ++ log_from (suc number) (left input number d rest) ≡ log_from 1 (entries d₀ input)

pub said_start : (d : Device) (input : List ℕ) → Said d input 0 d input []
said_start d input = ap (λ (k : ℕ). log_from 1 (entries_in k d input)) (sub-zero (length input))

module _ (d₀ : Device) (input : List ℕ) (number : ℕ) (d : Device) (frame said : List ℕ) (so_far : Said d₀ input number d frame said) where
  abbrev line : List ℕ
  line = line_of (number + 1) (letter_of frame) (frame_says d frame) (frame_delivers d frame)

  module _ (some_bytes : 0 < length frame) (few : number + length frame ≤ length input) where
    steps : length input - number ≡ suc (length input - (number + 1))
    steps = omega arith

    -- a frame more
    module _ (e : is_readable frame ≡ true) where
      abbrev rest : List Entry
      rest = left input (number + 1) (frame_leaves d frame) (drop (taken_up frame) frame)

      rest_is : left input number d frame ≡ entry_of d frame ∷ rest
      rest_is = ap (λ (k : ℕ). entries_in k d frame) steps ∙ entries_read (length input - (number + 1)) d frame some_bytes e

      line_is : log_from (suc number) (entry_of d frame ∷ rest) ≡ line ++ log_from (suc (number + 1)) rest
      unfolding log_from
      line_is = ap (λ (n : ℕ). line_of n (letter_of frame) (frame_says d frame) (frame_delivers d frame) ++ log_from (suc n) rest) (sym (add-one number))

      said_turned : Said d₀ input (number + 1) (frame_leaves d frame) (drop (taken_up frame) frame) (said ++ line)
      said_turned =
          append_assoc said line (log_from (suc (number + 1)) rest)
          ∙ ap (λ (l : List ℕ). said ++ l) (sym line_is)
          ∙ ap (λ (l : List Entry). said ++ log_from (suc number) l) (sym rest_is)
          ∙ so_far

      -- in the words of the code
      pub said_turn :
          {taken : ℕ} {d' : Device} {behind : List ℕ} → taken ≡ taken_up frame → d' ≡ frame_leaves d frame → behind ≡ drop taken frame
          → Said d₀ input (number + 1) d' behind (said ++ line)
      said_turn {taken} {d'} {behind} is leaves behind_is = rw (behind_is, is, leaves) said_turned

    -- an unreadable one, which is the last
    pub said_last : is_readable frame ≡ false → said ++ line ≡ log_from 1 (entries d₀ input)
    unfolding log_from
    said_last e =
        ap (λ (l : List ℕ). said ++ l) (sym last_is)
        ∙ ap (λ (l : List Entry). said ++ log_from (suc number) l) (sym (ap (λ (k : ℕ). entries_in k d frame) steps ∙ entries_unread (length input - (number + 1)) d frame some_bytes e))
        ∙ so_far
      where
        last_is : log_from (suc number) (entry_of d frame ∷ []) ≡ line
        last_is =
            append-nil (line_of (suc number) (letter_of frame) (frame_says d frame) (frame_delivers d frame))
            ∙ ap (λ (n : ℕ). line_of n (letter_of frame) (frame_says d frame) (frame_delivers d frame)) (sym (add-one number))

  -- no byte is left
  pub said_all : frame ≡ [] → said ≡ log_from 1 (entries d₀ input)
  unfolding log_from entries_in
  said_all past =
      sym (append-nil said)
      ∙ ap (λ (l : List Entry). said ++ log_from (suc number) l) (sym (ap (entries_in (length input - number) d) past ∙ none (length input - number)))
      ∙ so_far
    where
      none : (k : ℕ) → entries_in k d [] ≡ []
      none zero = refl
      none (suc k) = refl

-- Where as many lines were written as there are frames, the last was written, and all before it

pub most_one : (b : Bool) → from_bool b ≤ 1
most_one true = omega arith
most_one false = omega arith

pub all_kept : (b : Bool) {one kept number : ℕ} → one ≡ from_bool b → kept ≤ number → kept + one ≡ number + 1 → (kept ≡ number) × IsTrue b
all_kept true e few all = (omega (arith, e), refl)
all_kept false e few all = absurd (omega (arith, e))
