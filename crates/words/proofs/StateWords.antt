-- Laws of the words of a state: the words of each command, and what a command's words put back make of the state.
use Prim.Native.Nat.{ℕ, ◌+◌, ◌*◌, ◌-◌, ◌<◌}
use native.Mathlib.Omega.{arith}
use native.Mathlib.Nat.{zero-add, add-zero}
use mathlib.Core.Path.{◌≡◌, refl, ap, sym, ◌∙◌}
use mathlib.Core.Logic.{◌≢◌}
use mathlib.Core.List.{List, [], ◌∷◌, ◌++◌, map, append-nil, append_assoc}
use mathlib.Core.Bool.{Bool, true, false}
use lib.Dec.{eqb, ltb}
use lib.ListN.{length, take, drop, get_or, set, length-map, length-take, length-drop, length-set}
use lib.Seq.{get_or-take, get_or-drop, get_or-set_same, get_or-set_other, ext_get_or, take_at, drop_at, length-take-le}
use borrow.Author.Tests.{eq-eqb, eqb-true, eqb-false, ltb-true, ltb-false}
use Rattle.octets.specs.Lists.{overwrite, all}
use Rattle.octets.proofs.Lists.{both}
use Rattle.octets.proofs.Overwrite.{overwrite_below, overwrite_above, overwrite_mid, part_beside}
use Rattle.state.specs.State.{CommandState, closed, command_of, with_command, has_shape}
use Rattle.state.specs.Limits.{command_limit, record_limit, command_words, state_words}
use Rattle.state.specs.Records.{span}
use Rattle.state.proofs.Places.{span_at, length_span}
use Rattle.words.proofs.EntryWords.{entries_size}
use Rattle.state.specs.Words.{command_in, words_of, state_of}

abbrev pub commands_in : List ℕ → List CommandState
commands_in words = map (λ c. command_in (words_of words c)) (span 0 command_limit)

pub commands_size : (words : List ℕ) → length (commands_in words) ≡ command_limit
commands_size words = length-map (span 0 command_limit) (λ c. command_in (words_of words c)) ∙ length_span 0 command_limit

pub command_at : (words : List ℕ) (c : ℕ) (d : CommandState) → c < command_limit → get_or (commands_in words) c d ≡ command_in (words_of words c)
command_at words c d h =
    ap (λ (xs : List ℕ). get_or (map (λ c. command_in (words_of words c)) xs) c d) (sym (append-nil (span 0 command_limit)))
    ∙ span_at (λ c. command_in (words_of words c)) d 0 command_limit [] c h ∙ ap (λ (k : ℕ). command_in (words_of words k)) (zero-add c)

pub command_of_lem : (words : List ℕ) (c : ℕ) → c < command_limit → command_of (state_of words) c ≡ command_in (words_of words c)
unfolding state_of
command_of_lem words c h = command_at words c closed h

module _ (words ws : List ℕ) (c : ℕ) (whole : length words ≡ state_words) (size : length ws ≡ command_words) (h : c < command_limit) where
  abbrev next : List ℕ
  next = overwrite words (129 * c) ws

  -- the same command's words, and another's
  words_same : words_of next c ≡ ws
  words_same =
      let front : length (take (129 * c) words) ≡ 129 * c = length-take-le (129 * c) words (omega arith) in
      let rest = drop (129 * c + length ws) words in
      let behind : drop (129 * c) next ≡ ws ++ rest = rw append_assoc (drop_at (take (129 * c) words) (ws ++ rest) (129 * c) front) in
      rw behind (take_at ws rest 129 size)

  words_other : (d : ℕ) → d < command_limit → d ≢ c → words_of next d ≡ words_of words d
  words_other d k ne = part_beside words ws (129 * c) (omega arith) (129 * d) 129 same
    where
      same : (i : ℕ) → i < 129 → get_or next (129 * d + i) 0 ≡ get_or words (129 * d + i) 0
      same i near = go (ltb d c) refl
        where
          go : (b : Bool) → ltb d c ≡ b → get_or next (129 * d + i) 0 ≡ get_or words (129 * d + i) 0
          go true e = let lt = ltb-true d c e in overwrite_below words ws (129 * c) (omega arith) (129 * d + i) 0 (omega arith)
          go false e = let ge = ltb-false d c e in overwrite_above words ws (129 * c) (omega arith) (129 * d + i) 0 (omega arith)

  -- the state with this command
  state_with : state_of next ≡ with_command (state_of words) c (command_in ws)
  unfolding state_of
  state_with = λ i. record { commands = all i }
    where
      alike : (d : ℕ) → d < length (commands_in next) → get_or (commands_in next) d closed ≡ get_or (set (commands_in words) c (command_in ws)) d closed
      alike d k = go (eqb d c) refl
        where
          few : d < command_limit
          few = omega (arith, commands_size next)

          go : (b : Bool) → eqb d c ≡ b → get_or (commands_in next) d closed ≡ get_or (set (commands_in words) c (command_in ws)) d closed
          go true e =
              let same : d ≡ c = eqb-true d c e in
              let put = get_or-set_same (commands_in words) c (command_in ws) closed (omega (arith, commands_size words)) in
              rw same (command_at next c closed h ∙ ap command_in words_same ∙ sym put)
          go false e =
              let other : d ≢ c = eqb-false d c e in
              command_at next d closed few ∙ ap command_in (words_other d few other)
              ∙ sym (get_or-set_other (commands_in words) c d (command_in ws) closed other ∙ command_at words d closed few)

      all : commands_in next ≡ set (commands_in words) c (command_in ws)
      all = ext_get_or closed (commands_in next) (set (commands_in words) c (command_in ws)) (commands_size next ∙ sym (simp length-set (commands_size words))) alike

-- the first word of a command
pub words_head : (words : List ℕ) (c : ℕ) → get_or (words_of words c) 0 0 ≡ get_or words (129 * c) 0
words_head words c = get_or-take 129 (drop (129 * c) words) 0 0 (omega arith) ∙ get_or-drop (129 * c) words 0 0 ∙ rw add-zero

-- The words give every state its shape.
all_map : {A : Type 0} (f : ℕ → A) (test : A → Bool) (xs : List ℕ) → ((x : ℕ) → test (f x) ≡ true) → all test (map f xs) ≡ true
unfolding all
all_map f test [] h = refl
all_map f test (x ∷ xs) h = both (h x) (all_map f test xs h)

pub shape_of : (words : List ℕ) → has_shape (state_of words) ≡ true
unfolding state_of
shape_of words =
    both (eq-eqb (length (commands_in words)) command_limit (commands_size words))
    (all_map (λ c. command_in (words_of words c)) (λ p. eqb (length p.records) record_limit) (span 0 command_limit)
    (λ c. eq-eqb _ _ (entries_size (words_of words c))))

-- A command's words as code lends them, and the state's words when others come back in their place.
abbrev pub lent : List ℕ → ℕ → List ℕ
lent words c = take (129 * c + 129 - 129 * c) (drop (129 * c) words)

abbrev pub returned : List ℕ → ℕ → List ℕ → List ℕ
returned words c ws = take (129 * c) words ++ (ws ++ drop (129 * c + 129 - 129 * c) (drop (129 * c) words))

module _ (words : List ℕ) (c : ℕ) (whole : length words ≡ state_words) (h : c < command_limit) where
  width : 129 * c + 129 - 129 * c ≡ 129
  width = omega arith

  pub lent_size : length (lent words c) ≡ command_words
  lent_size = simp (length-take, length-drop) (omega arith)

  pub lent_command_lem : command_in (lent words c) ≡ command_of (state_of words) c
  lent_command_lem = ap (λ (n : ℕ). command_in (take n (drop (129 * c) words))) width ∙ sym (command_of_lem words c h)

  module _ (ws : List ℕ) (size : length ws ≡ command_words) where
    returned_is : returned words c ws ≡ overwrite words (129 * c) ws
    returned_is = ap (λ (n : ℕ). take (129 * c) words ++ (ws ++ drop n (drop (129 * c) words))) width ∙ overwrite_mid words ws (129 * c) 129 size

    pub returned_state : state_of (returned words c ws) ≡ with_command (state_of words) c (command_in ws)
    returned_state = ap state_of returned_is ∙ state_with words ws c whole size h
