-- 18, 27, 26, 38, then the search.
use mathlib.Core.Path.{◌≡◌, sym, ◌∙◌}
use Rattle.model.specs.Content.{parameters}
use Rattle.model.specs.View.{view}
use mathlib.Core.List.{List}
use Prim.Native.Nat.{ℕ}
use mathlib.Core.Path.{ap}
use Rattle.std.specs.Borrow.{Bor}
use Rattle.carding.specs.Answer.{searched, handed_for}
use Rattle.table.proofs.Accepting.{opened_accepted, opened_not}
use Rattle.carding.proofs.CardCases.{refused_18, refused_27, refused_26, refused_38, answered}
use Rattle.framing.proofs.Exits.{none_out}
use Rattle.card.proofs.Opened.{opened_count, opened_told}
use borrow.Author.Rules.{rules}
use Rattle.card.proofs.card.card_from.Goals.{Else-r-eq0}
use Rattle.card.proofs.card.card_from.Goals as goal

-- some parameter is there
some : (c : Else-r-eq0) → parameters (view c.args.t.now) ≡ 0 → ⊥
some c x = c.if-r-eq0.false (sym (opened_count c.opening.ensures c.in_ok-r.ensures.ok_part) ∙ x)

pub returns-in_err-r : goal.returns-in_err-r
returns-in_err-r c =
    rw (none_out c.opening.result c.from_residual.result c.from_residual.ensures.1 c.in_err-r.ensures.value)
    (refused_18 _ _ _ _ (opened_not c.opening.ensures c.in_err-r.ensures.ok_part))

pub returns-then-r-eq0 : goal.returns-then-r-eq0
returns-then-r-eq0 c =
    let e = c.in_ok-r.ensures.ok_part in
    refused_27 _ _ _ _ (opened_accepted c.opening.ensures e) (opened_count c.opening.ensures e ∙ c.if-r-eq0.true)

pub returns-then-not-margins_told : goal.returns-then-not-margins_told
returns-then-not-margins_told c =
    let e = c.in_ok-r.ensures.ok_part in
    refused_26 _ _ _ _ (opened_accepted c.opening.ensures e) (some (goal.at.returns-then-not-margins_told c).Else-r-eq0) (opened_told c.opening.ensures e c.margins_told.ensures c.if-not-margins_told.true)

pub returns-then-stream-gt-LONGEST_STREAM : goal.returns-then-stream-gt-LONGEST_STREAM
returns-then-stream-gt-LONGEST_STREAM c =
    let e = c.in_ok-r.ensures.ok_part in
    refused_38 _ _ _ _ (opened_accepted c.opening.ensures e) (some (goal.at.returns-then-stream-gt-LONGEST_STREAM c).Else-r-eq0) (opened_told c.opening.ensures e c.margins_told.ensures c.if-not-margins_told.false) c.if-stream-gt-LONGEST_STREAM.true

pub search-requires : goal.search-requires
search-requires c =
    record { told = sym c.margins_told.ensures ∙ c.if-not-margins_told.false; stream_len_bound = (c.if-stream-gt-LONGEST_STREAM.false, search rules) }

pub returns : goal.returns
returns c =
    let e = c.in_ok-r.ensures.ok_part in
    let told = opened_told c.opening.ensures e c.margins_told.ensures c.if-not-margins_told.false in
    let b = c.opening.ensures.of _ e in
    answered _ _ _ _ (opened_accepted c.opening.ensures e) (some (goal.at.returns c).Else-r-eq0) told c.if-stream-gt-LONGEST_STREAM.false
    (c.search.ensures.0 ∙ ap (λ (x : Bor (List ℕ)). searched (view x.now) c.args.stream.now c.args.from c.args.words.now) b)
    (c.search.ensures.1 ∙ ap (λ (x : Bor (List ℕ)). handed_for (view x.now) c.args.stream.now c.args.words.now c.search.result) b)
