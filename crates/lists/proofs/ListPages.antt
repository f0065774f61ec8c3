-- The lists behind PRP2, from what is known of their pages: PRP2 is wrong, there is one page, the first of two is refused, or both are fetched.
use Prim.Native.Nat.{ℕ, ◌+◌, ◌-◌, ◌*◌, ◌%◌, ◌≤◌, ◌<◌}
use native.Mathlib.Omega.{arith}
use mathlib.Core.Path.{◌≡◌, refl, ap, ap₂, sym, ◌∙◌}
use mathlib.Core.List.{List, [], ◌∷◌, ◌++◌}
use mathlib.Core.Bool.{Bool, true, false, false≢true, ◌&&◌}
use Rattle.std.specs.Prelude.{Result, Ok, Err}
use lib.ListN.{length, take, drop, get_or, length-drop}
use lib.Seq.{take-append-le, drop-append-le, length-take-le}
use borrow.Author.Tests.{ltb-true, ltb-false, eq-eqb, lt-ltb}
use Rattle.state.specs.declared.refusal.Refusal.{Refusal}
use Rattle.state.specs.declared.refusal.Refusal.TheVariants.{EntryMisaligned}
use Rattle.state.specs.Refusals.{number}
use Rattle.state.specs.Verdict.{Reply, refused, replied, accepted, looked_in, verdict}
use Rattle.octets.specs.Lists.{part}
use Rattle.endian.specs.LittleEndian.{least_first}
use Rattle.cache.specs.Runs.{Machine, given, says, delivers, after, ran}
use Rattle.prp.specs.Pages.{Walk, needed, with_list, fit, chained, first_count, second_count}
use Rattle.prp.specs.Entries.{Got, entries_in, is_multiple, ◌then◌, page_says}
use Rattle.prp.specs.Walk.{Asks, list_one, got_one, entries_one, onward, list_two, got_two, entries_two, lists_say, looked_in_lists, asks_of}
use Rattle.prp.proofs.Reading.{entry_at, entries_first, entries_beside, entries_front, entries_taken}
use Rattle.prp.proofs.Answers.{then_first}
use Rattle.prp.proofs.Entries.{page_nothing}
use Rattle.prp.proofs.Pages.{fit_some}
use Rattle.prp.proofs.Listed.{entries_one_lem, entries_two_lem, lists_one, lists_two}
use Rattle.listing.specs.Page.{gathered_reply, looked_by, ListsPage}
use Rattle.lists.specs.Lists.{lists_make, Lists}

-- a part that lies in the first of two lists
part_of_first : (at n : ℕ) (xs ys : List ℕ) → at + n ≤ length xs → part (xs ++ ys) at n ≡ part xs at n
part_of_first at n xs ys h =
    let low : at ≤ length xs = omega arith in
    let left : n ≤ length (drop at xs) = simp length-drop (omega arith) in
    ap (take n) (drop-append-le at xs ys low) ∙ take-append-le n (drop at xs) ys left

-- the records that both pages' fetches looked at
abbrev pub with_first : (look : ℕ) → Result ℕ Refusal → Result ℕ Refusal
with_first look (Ok more) = Ok (look + more)
with_first look (Err why) = Err why

module _ (words store : List ℕ) (w : Walk) where
  abbrev m : Machine
  m = given words store

  abbrev asks : Asks
  asks = asks_of m

  pub wrong_second : (scratch : List ℕ) → is_multiple 8 w.prp2 ≡ false → Lists words store w (Err EntryMisaligned) words store scratch
  unfolding verdict accepted lists_make ran
  wrong_second scratch wrong = record {
    answer = rw wrong;
    machine = rw wrong;
    entries = λ e. absurd (false≢true e);
    looked = λ e. absurd (false≢true e);
  }

  module _ (right : is_multiple 8 w.prp2 ≡ true) where
    -- what is said of the pages, with another or without
    abbrev pages_say : Bool → Reply
    pages_say more = page_says (first_count w) (got_one asks w) then elim more [ true ↦ page_says (second_count w) (got_two asks w) | false ↦ replied [] ]

    first_said : lists_say asks w ≡ pages_say (chained w)
    unfolding verdict
    first_said = rw right

    makes : lists_make asks w
        ≡ list_one asks w ∷ elim (chained w && accepted (page_says (first_count w) (got_one asks w))) [ true ↦ list_two asks w ∷ [] | false ↦ [] ]
    unfolding verdict accepted lists_make
    makes = rw right

    -- the first page
    module _ (r : Result ℕ Refusal) (words' store' entries' : List ℕ)
        (P : ListsPage words store w.window w.command w.prp2 (first_count w) r words' store' entries') where
      said_one : gathered_reply r ≡ page_says (first_count w) (got_one asks w)
      unfolding ran
      said_one = P.answer

      left_one : given words' store' ≡ ran m (list_one asks w ∷ [])
      unfolding ran
      left_one = P.machine

      fetched_one : accepted (gathered_reply r) ≡ true → entries' ≡ (got_one asks w).bytes
      unfolding ran
      fetched_one e = P.bytes (then_first _ (got_one asks w).answer (ap accepted (sym said_one) ∙ e))

      looked_one : accepted (gathered_reply r) ≡ true → looked_by r ≡ looked_in (got_one asks w).answer
      unfolding ran
      looked_one = P.looked

      -- there is no other
      module _ (alone : chained w ≡ false) (listed : with_list w ≡ true) where
        said_alone : lists_say asks w ≡ page_says (first_count w) (got_one asks w)
        said_alone = first_said ∙ ap pages_say alone ∙ page_nothing (first_count w) (got_one asks w).answer (got_one asks w).bytes

        makes_one_lem : lists_make asks w ≡ list_one asks w ∷ []
        makes_one_lem = makes ∙ rw alone

        pub one_page_lem : (rest : List ℕ) → Lists words store w r words' store' (entries' ++ rest)
        one_page_lem rest =
            let few : needed w ≡ first_count w = omega (arith, ltb-false (fit w) (needed w) alone) in
            record {
              answer = said_one ∙ sym said_alone;
              machine = left_one ∙ ap (ran m) (sym makes_one_lem);
              entries = λ e.
                  entries_front (needed w) entries' rest (P.sized ∙ ap (λ (k : ℕ). 8 * k) (sym few)) ∙ ap (entries_in (needed w)) (fetched_one e)
                  ∙ ap (λ (k : ℕ). entries_in k (got_one asks w).bytes) few ∙ sym (entries_one_lem asks w listed alone);
              looked = λ e. looked_one e ∙ sym (lists_one asks w alone);
            }

      -- there is another
      module _ (linked : chained w ≡ true) (listed : with_list w ≡ true) where
        goes_on : lists_say asks w ≡ (page_says (first_count w) (got_one asks w) then page_says (second_count w) (got_two asks w))
        goes_on = first_said ∙ ap pages_say linked

        makes_by : (b : Bool) → accepted (gathered_reply r) ≡ b → lists_make asks w ≡ list_one asks w ∷ elim b [ true ↦ list_two asks w ∷ [] | false ↦ [] ]
        makes_by b e = makes ∙ rw (linked, ← said_one, e)

        pub first_refused : (why : Refusal) → r ≡ Err why → (scratch : List ℕ) → Lists words store w r words' store' scratch
        unfolding accepted
        first_refused why is scratch =
            let said : refused (number why) ≡ page_says (first_count w) (got_one asks w) = sym (ap gathered_reply is) ∙ said_one in
            let no : accepted (gathered_reply r) ≡ false = ap (λ (v : Result ℕ Refusal). accepted (gathered_reply v)) is in
            record {
              answer = ap gathered_reply is ∙ sym (goes_on ∙ ap (λ (q : Reply). q then page_says (second_count w) (got_two asks w)) (sym said));
              machine = left_one ∙ ap (ran m) (sym (makes_by false no));
              entries = λ e. absurd (false≢true (sym no ∙ e));
              looked = λ e. absurd (false≢true (sym no ∙ e));
            }

        -- the first page is as it should be
        module _ (look : ℕ) (is : r ≡ Ok look) (some : 0 < fit w) where
          taken : accepted (gathered_reply r) ≡ true
          unfolding accepted
          taken = ap (λ (v : Result ℕ Refusal). accepted (gathered_reply v)) is

          all_fit : first_count w ≡ fit w
          all_fit = omega (arith, ltb-true (fit w) (needed w) linked)

          many : length entries' ≡ 8 * fit w
          many = P.sized ∙ ap (λ (k : ℕ). 8 * k) all_fit

          entries_held : entries_in (fit w) entries' ≡ entries_one asks w
          entries_held = ap (entries_in (fit w)) (fetched_one taken) ∙ ap (λ (k : ℕ). entries_in k (got_one asks w).bytes) (sym all_fit)

          -- the last entry that fits is read where it stands
          pub onward_read : (rest : List ℕ) → least_first (part (entries' ++ rest) (8 * (fit w - 1)) 8) ≡ onward asks w
          onward_read rest =
              ap least_first (part_of_first (8 * (fit w - 1)) 8 entries' rest (omega (arith, many)))
              ∙ sym (entry_at (fit w) entries' (fit w - 1) (omega arith)) ∙ ap (λ (es : List ℕ). get_or es (fit w - 1) 0) entries_held

          -- the second page, fetched from where the first one left the machine, over the onward entry
          module _ (q : Result ℕ Refusal) (words'' store'' entries'' : List ℕ)
              (Q : ListsPage words' store' w.window w.command (onward asks w) (second_count w) q words'' store'' entries'') where
            abbrev got : Machine → Got
            got k = record { answer = says k (list_two asks w); bytes = delivers k (list_two asks w) }

            said_two : gathered_reply q ≡ page_says (second_count w) (got_two asks w)
            said_two = Q.answer ∙ ap (λ (k : Machine). page_says (second_count w) (got k)) left_one

            said_both : lists_say asks w ≡ page_says (second_count w) (got_two asks w)
            said_both = goes_on ∙ ap (λ (v : Reply). v then page_says (second_count w) (got_two asks w)) (sym said_one ∙ ap gathered_reply is)

            left_two : given words'' store'' ≡ ran m (list_one asks w ∷ list_two asks w ∷ [])
            unfolding ran
            left_two = Q.machine ∙ ap (λ (k : Machine). after k (list_two asks w)) left_one

            fetched_two : accepted (gathered_reply q) ≡ true → entries'' ≡ (got_two asks w).bytes
            fetched_two e =
                let fetched = then_first _ (got_two asks w).answer (ap accepted (sym said_two) ∙ e) in
                Q.bytes (ap (λ (k : Machine). accepted (says k (list_two asks w))) left_one ∙ fetched)
                ∙ ap (λ (k : Machine). delivers k (list_two asks w)) left_one

            -- the entries of both pages side by side
            side_by_side : (rest rest'' : List ℕ) → entries'' ≡ (got_two asks w).bytes
                → entries_in (needed w) (take (8 * (fit w - 1)) (entries' ++ rest) ++ (entries'' ++ rest''))
                ≡ take (fit w - 1) (entries_one asks w) ++ entries_two asks w
            side_by_side rest rest'' bytes =
                let less : 8 * (fit w - 1) ≤ length entries' = omega (arith, many) in
                let sum : needed w ≡ (fit w - 1) + second_count w = omega (arith, ltb-true (fit w) (needed w) linked) in
                let front : take (8 * (fit w - 1)) (entries' ++ rest) ≡ take (8 * (fit w - 1)) entries' = take-append-le (8 * (fit w - 1)) entries' rest less in
                ap₂ entries_in sum (ap (λ (l : List ℕ). l ++ (entries'' ++ rest'')) front)
                ∙ entries_beside (fit w - 1) (second_count w) (take (8 * (fit w - 1)) entries') (entries'' ++ rest'')
                (length-take-le (8 * (fit w - 1)) entries' less)
                ∙ ap₂ ◌++◌
                (entries_taken (fit w - 1) entries' less ∙ sym (entries_first (fit w - 1) (fit w) entries' (omega arith))
                ∙ ap (take (fit w - 1)) entries_held)
                (entries_front (second_count w) entries'' rest'' Q.sized ∙ ap (entries_in (second_count w)) bytes)

            looked_two : accepted (gathered_reply q) ≡ true → looked_by q ≡ looked_in (got_two asks w).answer
            looked_two e = Q.looked e ∙ ap (λ (k : Machine). looked_in (says k (list_two asks w))) left_one

            -- what both fetches looked at
            looked_sum : accepted (gathered_reply q) ≡ true → look + looked_by q ≡ looked_in_lists asks w
            looked_sum e =
                ap₂ ◌+◌ (ap looked_by (sym is) ∙ looked_one taken) (looked_two e) ∙ sym (lists_two asks w linked)

            -- nothing is added to a refusal
            same : gathered_reply (with_first look q) ≡ gathered_reply q
            same = elim q as (λ v. gathered_reply (with_first look v) ≡ gathered_reply v) [ Ok more ↦ refl | Err why ↦ refl ]

            looked_both : accepted (gathered_reply q) ≡ true → looked_by (with_first look q) ≡ looked_in_lists asks w
            unfolding accepted
            looked_both =
                elim q as (λ v. (accepted (gathered_reply v) ≡ true → look + looked_by v ≡ looked_in_lists asks w) →
                accepted (gathered_reply v) ≡ true → looked_by (with_first look v) ≡ looked_in_lists asks w)
                [ Ok more ↦ (λ sum e. sum e) | Err why ↦ (λ sum e. absurd (false≢true e)) ] looked_sum

            pub two_pages_lem : (low : ℕ) → low ≡ 8 * (fit w - 1) → (rest rest'' : List ℕ)
                → Lists words store w (with_first look q) words'' store'' (take low (entries' ++ rest) ++ (entries'' ++ rest''))
            two_pages_lem low here rest rest'' =
                let taken_two : accepted (gathered_reply (with_first look q)) ≡ true → accepted (gathered_reply q) ≡ true = λ e. ap accepted (sym same) ∙ e in
                record {
                  answer = same ∙ said_two ∙ sym said_both;
                  machine = left_two ∙ ap (ran m) (sym (makes_by true taken));
                  entries = λ e. rw here (side_by_side rest rest'' (fetched_two (taken_two e)) ∙ sym (entries_two_lem asks w listed linked));
                  looked = λ e. looked_both (taken_two e);
                }

-- Both pages, by the counts of the code: how many entries are needed, and how many fit.
pub both_pages :
    (words store : List ℕ) (w : Walk) (n f look next : ℕ) (q : Result ℕ Refusal) (words' store' entries' rest words'' store'' entries'' rest'' : List ℕ)
    → n ≡ needed w → f ≡ fit w → f < n → 1 < needed w → w.prp2 % 8 ≡ 0
    → ListsPage words store w.window w.command w.prp2 f (Ok look) words' store' entries'
    → next ≡ least_first (part (entries' ++ rest) (8 * (f - 1)) 8)
    → ListsPage words' store' w.window w.command next (n - (f - 1)) q words'' store'' entries''
    → Lists words store w (with_first look q) words'' store'' (take (8 * (f - 1)) (entries' ++ rest) ++ (entries'' ++ rest''))
both_pages words store w n f look next q words' store' entries' rest words'' store'' entries'' rest'' count fits more lists multiple P leads Q =
    let right : is_multiple 8 w.prp2 ≡ true = eq-eqb (w.prp2 % 8) 0 multiple in
    let listed : with_list w ≡ true = lt-ltb 1 (needed w) lists in
    let linked : chained w ≡ true = lt-ltb (fit w) (needed w) (omega arith) in
    let all : f ≡ first_count w = omega arith in
    let page = rw all at P in
    let some : 0 < fit w = fit_some w.prp2 multiple in
    -- the entry that leads on
    let next_is : next ≡ onward (asks_of (given words store)) w =
    leads ∙ ap (λ (k : ℕ). least_first (part (entries' ++ rest) (8 * (k - 1)) 8)) fits
    ∙ onward_read words store w right (Ok look) words' store' entries' page linked listed look refl some rest in
    let left : n - (f - 1) ≡ second_count w = omega arith in
    let second = rw (next_is, left) at Q in
    two_pages_lem words store w right (Ok look) words' store' entries' page linked listed look refl some q words'' store'' entries'' second
    (8 * (f - 1)) (ap (λ (k : ℕ). 8 * (k - 1)) fits) rest rest''
