-- Begin and end, from what both are judged by and from whether the command is open. Refused, everything is as it was; accepted, the command holds
-- nothing and its part is zeroed.
use Prim.Native.Nat.{ℕ}
use mathlib.Core.Path.{◌≡◌, refl, ap, ap₂, sym, ◌∙◌}
use mathlib.Core.List.{List, [], ◌∷◌}
use mathlib.Core.Bool.{true, false, not, false≢true}
use lib.ListN.{length}
use borrow.Author.Tests.{leb-false, eqb-true, not-false}
use Rattle.std.specs.Prelude.{Result, Ok, Err}
use Rattle.state.specs.declared.answer.EndCounts.{EndCounts}
use Rattle.state.specs.declared.refusal.Refusal.{Refusal}
use Rattle.state.specs.declared.refusal.Refusal.TheVariants.{CommandNotOpen, CommandAlreadyOpen}
use Rattle.state.specs.Answers.{begin_reply, end_reply}
use Rattle.state.specs.Checks.{command_too_high, store_wrong_size, state_broken, command_not_open, command_already_open}
use Rattle.state.specs.Limits.{command_words, state_words}
use Rattle.state.specs.Records.{total}
use Rattle.state.specs.Refusals.{number}
use Rattle.state.specs.State.{State, CommandState, empty, records_of, is_open, with_command}
use Rattle.state.specs.Verdict.{Reply, refused, replied, accepted, Check, verdict}
use Rattle.state.specs.Words.{command_in, state_of}
use Rattle.state.proofs.Verdict.{none_applies, verdict_bars, verdict_passes, verdict_stops, verdict_goes_on, verdict_gives}
use Rattle.words.proofs.StateWords.{returned, returned_state}
use Rattle.store.specs.Store.{zeroed}
use Rattle.cache.specs.Begin.{Begins, begin_says, begin_state, begin_store}
use Rattle.cache.specs.End.{Ends, end_says, end_state, end_store}
use Rattle.cache.proofs.Accepted.{Ready}

module _ (words store : List ℕ) (c : ℕ) where
  abbrev s : State
  s = state_of words

  abbrev alike : List Check
  alike = command_too_high c ∷ store_wrong_size (length store) ∷ state_broken s ∷ []

  -- what remains to be judged of a begin and of an end, and what an end tells
  abbrev opening : List Check
  opening = command_already_open s c ∷ []

  abbrev closing : List Check
  closing = command_not_open s c ∷ []

  abbrev told : Reply
  told = replied (length (records_of s c) ∷ total (records_of s c) ∷ [])

  begin_away : (n : ℕ) (r : Result Unit Refusal) → refused n ≡ begin_says s (length store) c → begin_reply r ≡ refused n → Begins words store c r words store
  unfolding accepted begin_state begin_store
  begin_away n r says answer = record { answer = answer ∙ says; state = rw (sym says); kept = λ e. refl; bytes = rw (sym says) }

  end_away : (n : ℕ) (r : Result EndCounts Refusal) → refused n ≡ end_says s (length store) c → end_reply r ≡ refused n → Ends words store c r words store
  unfolding accepted end_state end_store
  end_away n r says answer = record { answer = answer ∙ says; state = rw (sym says); kept = λ e. refl; bytes = rw (sym says) }

  module _ (why : Refusal) (e : refused (number why) ≡ verdict alike (replied [])) where
    pub begin_barred : Begins words store c (Err why) words store
    unfolding begin_says
    begin_barred = begin_away (number why) (Err why) (sym (verdict_bars alike opening [] (replied []) _ (sym e))) refl

    pub end_barred : Ends words store c (Err why) words store
    unfolding end_says
    end_barred = end_away (number why) (Err why) (sym (verdict_bars alike closing [] _ _ (sym e))) refl

  module _ (e : replied [] ≡ verdict alike (replied [])) where
    passed : accepted (verdict alike (replied [])) ≡ true
    unfolding accepted
    passed = ap accepted (sym e)

    pub ready : Ready s (length store) c
    ready =
        let h = none_applies alike (replied []) passed in
        record { command = leb-false _ _ h.0; size = eqb-true _ _ (not-false _ h.1.0); whole = not-false _ h.1.1.0 }

    pub begin_open : is_open s c ≡ true → Begins words store c (Err CommandAlreadyOpen) words store
    unfolding begin_says
    begin_open opened =
        begin_away 22 (Err CommandAlreadyOpen)
        (verdict_stops _ 22 [] (replied []) opened ∙ sym (verdict_passes opening (replied []) (replied []) alike passed)) refl

    pub end_closed : is_open s c ≡ false → Ends words store c (Err CommandNotOpen) words store
    unfolding end_says
    end_closed closed =
        end_away 21 (Err CommandNotOpen)
        (verdict_stops (not (is_open s c)) 21 [] told (ap not closed) ∙ sym (verdict_passes closing (replied []) told alike passed)) refl

    -- the command's own words come back
    module _ (whole : length words ≡ state_words) (own : List ℕ) (sized : length own ≡ command_words) where
      left : (p : CommandState) → command_in own ≡ p → state_of (returned words c own) ≡ with_command s c p
      left p is = returned_state words c whole ready.command own sized ∙ ap (with_command s c) is

      pub begin_done : is_open s c ≡ false → command_in own ≡ empty true → Begins words store c (Ok tt) (returned words c own) (zeroed store c)
      unfolding begin_says begin_state begin_store accepted
      begin_done closed is =
          let says : begin_says s (length store) c ≡ replied [] =
          verdict_passes opening (replied []) (replied []) alike passed ∙ sym (verdict_goes_on _ 22 [] _ closed (verdict_gives refl)) in
          record {
            answer = sym says;
            state = left (empty true) is ∙ rw says;
            kept = λ no. absurd (false≢true (sym no ∙ ap accepted says));
            bytes = rw says;
          }

      pub end_done :
          is_open s c ≡ true → (records bytes : ℕ) → records ≡ length (records_of s c) → bytes ≡ total (records_of s c) → command_in own ≡ empty false
          → Ends words store c (Ok (record { records = records; bytes = bytes })) (returned words c own) (zeroed store c)
      unfolding end_says end_state end_store accepted
      end_done opened records bytes many held is =
          let says : end_says s (length store) c ≡ told =
          verdict_passes closing (replied []) told alike passed ∙ sym (verdict_goes_on _ 21 [] told (ap not opened) (verdict_gives refl)) in
          record {
            answer = ap₂ (λ (a b : ℕ). replied (a ∷ b ∷ [])) many held ∙ sym says;
            state = left (empty false) is ∙ rw says;
            kept = λ no. absurd (false≢true (sym no ∙ ap accepted says));
            bytes = rw says;
          }
