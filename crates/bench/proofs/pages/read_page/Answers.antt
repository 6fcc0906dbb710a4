use mathlib.Core.Path.{◌≡◌, ap, ◌∙◌}
use native.Mathlib.Numerals.{add-one}
use native.Mathlib.Omega.{arith}
use lib.ListN.{length}
use Rattle.framing.specs.Paging.{outcome_at}
use Rattle.framing.specs.declared.page.Request.{Request}
use Rattle.framing.proofs.Pages.{mix, mix_next, page_all, page_many, page_few}
use Rattle.bench.proofs.pages.read_page.Goals as goal

-- what is past the end of a list
abbrev none : Request
none = record { parameter = 0; sample = 0 }

pub returns-then-requests-gt-REQUESTS : goal.returns-then-requests-gt-REQUESTS
returns-then-requests-gt-REQUESTS c =
    let a = c.args in
    let p = page_many a.table.now a.words.now a.requests.now a.results.now c.if-requests-gt-REQUESTS.true in
    (p.answered, p.results)

pub returns-then-results-requests : goal.returns-then-results-requests
returns-then-results-requests c =
    let a = c.args in
    let p = page_few a.table.now a.words.now a.requests.now a.results.now c.if-requests-gt-REQUESTS.false c.if-results-requests.true in
    (p.answered, p.results)

pub loop-i-preserved : goal.loop-i-preserved
loop-i-preserved c =
    let a = c.args in
    let i = c.loop-i.i in
    let f = outcome_at a.table.now a.words.now in
    let e = c.loop-i.invariant.answered in
    let m = mix_next f a.requests.now a.results.now i none c.loop-i-test.true (omega (arith, c.loop-i-test.true, c.if-results-requests.false)) in
    record {
      within = omega arith;
      answered = rw (add-one, e, c.outcome_by.ensures _ _ c.page_of-page.ensures) m;
    }

pub returns : goal.returns
returns c =
    let a = c.args in
    let p = page_all a.table.now a.words.now a.requests.now a.results.now c.if-requests-gt-REQUESTS.false c.if-results-requests.false in
    let full : c.loop-i.i ≡ length a.requests.now = omega arith in
    (p.answered, c.loop-i.invariant.answered ∙ ap (mix (outcome_at a.table.now a.words.now) a.requests.now a.results.now) full ∙ p.results)
