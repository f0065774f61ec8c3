-- The fetch is refused, or its bytes are judged: what the entries say, they say together.
use Rattle.std.proofs.Common.{◌≡◌, ℕ, refl, sym, ◌∙◌, List, [], map, Bool, true, false, cond, Ok, Err}
use Rattle.std.proofs.lemmas.Result.{err_from_is_err_and}
use mathlib.Core.Bool.{false≢true}
use Rattle.octets.specs.Lists.{all}
use Rattle.state.specs.declared.refusal.Refusal.TheVariants.{EntryMisaligned}
use Rattle.state.specs.Verdict.{refused, replied, accepted}
use Rattle.prp.specs.Pages.{page_size}
use Rattle.prp.specs.Entries.{entries_in, is_multiple, wrong_multiple, judged}
use Rattle.prp.proofs.Entries.{judged_all}
use Rattle.listing.proofs.Listing.{refused_page, judged_page}
use Rattle.listing.proofs.list_page.Goals as goal

-- what is said, if the entries say this
told : (es : List ℕ) (b : Bool) → all (is_multiple page_size) es ≡ b → cond b (replied []) (refused 32) ≡ judged (map (wrong_multiple page_size) es)
told es b e = rw (← e) (sym (judged_all page_size es))

pub returns-in_err-counts : goal.returns-in_err-counts
returns-in_err-counts c =
    let a = c.args in
    let p = err_from_is_err_and c.from_residual.result c.from_residual.ensures.1 in
    rw (p.1, p.2)
    (refused_page a.state.now a.store.now a.window.now a.entries.now _ _ _ c.requires.0 _ _ _ _ c.in_err-counts.ensures _ refl)

pub returns-then-not-all_pages : goal.returns-then-not-all_pages
unfolding accepted
returns-then-not-all_pages c =
    let a = c.args in
    judged_page a.state.now a.store.now a.window.now a.entries.now _ _ _ c.requires.0 _ _ _ _ c.in_ok-counts.ensures c.in_ok-counts.counts
    (Err EntryMisaligned) refl (told (entries_in a.count c.fetch.new.destination) false (sym c.all_pages.ensures ∙ c.if-not-all_pages.true))
    (λ e. absurd (false≢true e))

pub returns : goal.returns
returns c =
    let a = c.args in
    judged_page a.state.now a.store.now a.window.now a.entries.now _ _ _ c.requires.0 _ _ _ _ c.in_ok-counts.ensures c.in_ok-counts.counts
    (Ok c.in_ok-counts.counts.looked) refl (told (entries_in a.count c.fetch.new.destination) true (sym c.all_pages.ensures ∙ c.if-not-all_pages.false))
    (λ e. refl)
