-- What an accepted frame tells, to the reader and to the writer: none of its checks applies.
use Prim.Native.Nat.{ℕ, ◌-◌, ◌≤◌, ◌<◌}
use Rattle.std.specs.Prelude.{Result, Ok}
use native.Mathlib.Omega.{arith}
use mathlib.Core.Path.{◌≡◌, ap, sym, ◌∙◌}
use mathlib.Core.List.{[], ◌∷◌}
use mathlib.Core.Bool.{true, false}
use borrow.Author.Tests.{le-ltb, lt-ltb, ltb-true, ltb-false, lt-leb, leb-false, eq-eqb, eqb-true, not-false}
use Rattle.state.specs.Limits.{command_limit, transfer_limit, window_limit}
use Rattle.state.specs.Verdict.{replied, accepted, verdict}
use Rattle.state.proofs.Verdict.{none_applies}
use Rattle.state.specs.declared.refusal.Refusal.{Refusal}
use Rattle.frames.specs.Bits.{fit}
use Rattle.frames.specs.Layout.{field_widths, head_size}
use Rattle.frames.specs.Kinds.{data_size, frame_size}
use Rattle.frames.specs.Checks.{zero_broken}
use Rattle.frames.specs.Read.{fields_say}
use Rattle.frames.specs.Write.{write_reply, write_says}
use Rattle.frames.proofs.Heads.{below_fields}

module _ (given kind command address size spare : ℕ) where
  pub record Readable : Type 0 where
    pub long : head_size ≤ given
    pub known : kind < 5
    pub zero : zero_broken kind command address size spare ≡ false
    pub short : size ≤ transfer_limit
    pub there : frame_size kind size ≤ given

  pub readable : accepted (fields_say given kind command address size spare) ≡ true → Readable
  unfolding fields_say
  readable e =
      let h = none_applies _ _ e in
      let long = ltb-false given head_size h.0 in
      let there = ltb-false (given - head_size) (data_size kind size) h.1.1.1.1.0 in
      record {
        long = long;
        known = ltb-true kind 5 (not-false _ h.1.0);
        zero = h.1.1.0;
        short = ltb-false _ _ h.1.1.1.0;
        there = omega arith;
      }

  pub reads : Readable → fields_say given kind command address size spare ≡ replied (frame_size kind size ∷ kind ∷ command ∷ address ∷ size ∷ [])
  unfolding fields_say verdict
  reads r =
      rw (le-ltb given head_size r.long, lt-ltb kind 5 r.known, r.zero, le-ltb transfer_limit size r.short, le-ltb (given - head_size) (data_size kind size) (omega arith))

module _ (kind command address size given room : ℕ) where
  pub record Writable : Type 0 where
    pub known : kind < 5
    pub zero : zero_broken kind command address size 0 ≡ false
    pub short : size ≤ transfer_limit
    pub same : given ≡ data_size kind size
    pub commands : command < command_limit
    pub fits : frame_size kind size ≤ room
    pub low : address < window_limit

  pub writable : accepted (write_says kind command address size given room) ≡ true → Writable
  unfolding write_says
  writable e =
      let h = none_applies _ _ e in
      record {
        known = ltb-true kind 5 (not-false _ h.0);
        zero = h.1.0;
        short = ltb-false _ _ h.1.1.0;
        same = eqb-true _ _ (not-false _ h.1.1.1.0);
        commands = leb-false _ _ h.1.1.1.1.0;
        fits = ltb-false _ _ h.1.1.1.1.1.0;
        low = leb-false _ _ h.1.1.1.1.1.1.0;
      }

  pub writes : Writable → write_says kind command address size given room ≡ replied (frame_size kind size ∷ [])
  unfolding write_says verdict
  writes w =
      rw (lt-ltb kind 5 w.known, w.zero, le-ltb transfer_limit size w.short, eq-eqb given (data_size kind size) w.same, lt-leb command_limit command w.commands, le-ltb room _ w.fits, lt-leb window_limit address w.low)

  -- the fields of a step that the writer accepts fit their widths
  pub writable_fit : Writable → fit field_widths (kind ∷ command ∷ address ∷ size ∷ 0 ∷ []) ≡ true
  writable_fit w = below_fields kind command address size 0 (omega arith)

  -- the same where the writer's answer is a size
  module _ (answer : Result ℕ Refusal) (n : ℕ) (says : write_reply answer ≡ write_says kind command address size given room) (ok : answer ≡ Ok n) where
    pub written : accepted (write_says kind command address size given room) ≡ true
    unfolding accepted
    written = ap accepted (sym says ∙ ap write_reply ok)

    pub written_fit : fit field_widths (kind ∷ command ∷ address ∷ size ∷ 0 ∷ []) ≡ true
    written_fit = writable_fit (writable written)
