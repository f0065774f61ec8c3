-- PRP2 is wrong, or the laws of list pages say what its lists come to. The needs are facts of the two counts: how many entries are needed, and how
-- many fit.
use Prim.Native.Nat.{◌%◌}
use native.Mathlib.Omega.{arith}
use mathlib.Core.Path.{◌≡◌, refl, sym}
use mathlib.Core.Bool.{true, false}
use lib.Seq.{length-take-le}
use borrow.Author.Tests.{eq-eqb, ne_eqb, lt-ltb, le-ltb}
use Rattle.prp.specs.Pages.{Walk, needed, with_list, fit, chained, first_count}
use Rattle.prp.specs.Entries.{is_multiple}
use Rattle.std.specs.Prelude.{Ok, Err}
use Rattle.std.proofs.lemmas.Result.{err_from_is_err_and}
use Rattle.lists.specs.Lists.{asked}
use Rattle.lists.proofs.ListPages.{wrong_second, one_page_lem, first_refused, both_pages}
use Rattle.lists.proofs.gather_lists.Goals as goal

pub returns-then-prp2-ne0 : goal.returns-then-prp2-ne0
returns-then-prp2-ne0 c =
    let v : Walk = asked c.args.command c.args.prp1 c.args.prp2 c.args.transfer c.args.window.now in
    wrong_second c.args.state.now c.args.store.now v c.args.scratch.now (ne_eqb (c.args.prp2 % 8) 0 (omega arith))

pub slice_bounds-list_page-end-then-count-fit : goal.slice_bounds-list_page-end-then-count-fit
slice_bounds-list_page-end-then-count-fit c = sym (length-take-le _ _ (omega arith))

pub list_page-requires : goal.list_page-requires
list_page-requires c = (length-take-le _ _ (omega arith), omega arith)

-- all entries are in one page
pub returns-then-count-fit : goal.returns-then-count-fit
returns-then-count-fit c =
    let v : Walk = asked c.args.command c.args.prp1 c.args.prp2 c.args.transfer c.args.window.now in
    let count_is : c.behind_first-count.result ≡ needed v = c.behind_first-count.ensures.0 in
    let fit_is : c.room_in_page-fit.result ≡ fit v = c.room_in_page-fit.ensures in
    let right : is_multiple 8 c.args.prp2 ≡ true = eq-eqb (c.args.prp2 % 8) 0 (omega arith) in
    let listed : with_list v ≡ true = lt-ltb 1 (needed v) c.requires.1 in
    let alone : chained v ≡ false = le-ltb (fit v) (needed v) (omega (arith, count_is, fit_is)) in
    let all : c.behind_first-count.result ≡ first_count v = omega (arith, count_is, fit_is) in
    let page = rw all at c.list_page.ensures in
    one_page_lem c.args.state.now c.args.store.now v right _ _ _ c.list_page.new.entries page alone listed _

pub slice_bounds-list_page-end-3 : goal.slice_bounds-list_page-end-3
slice_bounds-list_page-end-3 c = sym (length-take-le _ _ (omega arith))

pub list_page-requires-2 : goal.list_page-requires-2
list_page-requires-2 c = (length-take-le _ _ (omega arith), omega arith)

-- the first page of two is refused
pub returns-in_err-looked : goal.returns-in_err-looked
returns-in_err-looked c =
    let v : Walk = asked c.args.command c.args.prp1 c.args.prp2 c.args.transfer c.args.window.now in
    let count_is : c.behind_first-count.result ≡ needed v = c.behind_first-count.ensures.0 in
    let fit_is : c.room_in_page-fit.result ≡ fit v = c.room_in_page-fit.ensures in
    let right : is_multiple 8 c.args.prp2 ≡ true = eq-eqb (c.args.prp2 % 8) 0 (omega arith) in
    let listed : with_list v ≡ true = lt-ltb 1 (needed v) c.requires.1 in
    let linked : chained v ≡ true = lt-ltb (fit v) (needed v) (omega (arith, count_is, fit_is)) in
    let all : c.room_in_page-fit.result ≡ first_count v = omega (arith, count_is, fit_is) in
    let page = rw all at c.in_err-looked.ensures in
    let p = err_from_is_err_and c.from_residual.result c.from_residual.ensures.1 in
    rw (p.1, p.2)
    (first_refused c.args.state.now c.args.store.now v right _ _ _ c.list_page-2.new.entries page linked listed _ refl _)

-- the second page of two is refused
pub returns-in_err-more : goal.returns-in_err-more
returns-in_err-more c =
    let p = err_from_is_err_and c.from_residual-in_err-more.result c.from_residual-in_err-more.ensures.1 in
    rw (p.1, p.2)
    (both_pages c.args.state.now c.args.store.now (asked c.args.command c.args.prp1 c.args.prp2 c.args.transfer c.args.window.now) _ _ _ _ (Err c.in_err-more.field-0.0)
    _ _ c.list_page-2.new.entries _ _ _ c.list_page-3.new.entries _ c.behind_first-count.ensures.0 c.room_in_page-fit.ensures (omega arith) c.requires.1
    (omega arith) c.in_ok-looked.ensures c.entry-onward.ensures c.in_err-more.ensures)

-- both pages
pub returns : goal.returns
returns c =
    both_pages c.args.state.now c.args.store.now (asked c.args.command c.args.prp1 c.args.prp2 c.args.transfer c.args.window.now) _ _ _ _ (Ok c.in_ok-more.more)
    _ _ c.list_page-2.new.entries _ _ _ c.list_page-3.new.entries _ c.behind_first-count.ensures.0 c.room_in_page-fit.ensures (omega arith) c.requires.1
    (omega arith) c.in_ok-looked.ensures c.entry-onward.ensures c.in_ok-more.ensures
