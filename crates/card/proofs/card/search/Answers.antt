-- 25, 28, or the frame.
use mathlib.Core.Path.{◌≡◌, refl, sym, ap, ◌∙◌}
use Prim.Native.Nat.{ℕ}
use Rattle.model.specs.Frame.{frame_words}
use Rattle.model.specs.View.{view}
use Rattle.rules.specs.declared.ruled.RuledTable.{RuledTable}
use Rattle.rules.specs.declared.based.BasedTable.{BasedTable}
use Rattle.carding.proofs.CardCases.{refused_25, refused_28, handed_out}
use Rattle.framing.proofs.Exits.{none_out}
use Rattle.card.proofs.Searching.{FoundAt, none_found, found_there}
use Rattle.card.proofs.card.search.Goals.{In_ok-position}
use Rattle.card.proofs.card.search.Goals as goal

pub returns-in_err-position : goal.returns-in_err-position
returns-in_err-position c =
    rw (none_out c.position_from.result c.from_residual.result c.from_residual.ensures.1 c.in_err-position.ensures.value)
    (refused_25 _ _ _ _ refl (none_found _ _ _ (sym c.in_err-position.ensures.ok_part ∙ c.position_from.ensures)))

-- the bases change nothing of the table
counted : {r : RuledTable} (b : BasedTable) {n : ℕ} → b.ruled ≡ r → n ≡ frame_words (view b.ruled.declared.table.bytes.now) → n ≡ frame_words (view r.declared.table.bytes.now)
counted b h e = e ∙ ap (λ (x : RuledTable). frame_words (view x.declared.table.bytes.now)) h

found : (c : In_ok-position) → FoundAt (view c.args.r.now.declared.table.bytes.now) c.args.stream.now c.args.from c.in_ok-position.position
found c = found_there _ _ _ (sym c.in_ok-position.ensures.ok_part ∙ c.position_from.ensures)

pub returns-then-words-count : goal.returns-then-words-count
returns-then-words-count c =
    let f = found (goal.at.returns-then-words-count c).In_ok-position in
    refused_28 _ _ _ _ f.is f.inside (counted c.based.result c.based.ensures c.frame_words-count.ensures) c.if-words-count.true

pub returns : goal.returns
returns c =
    let f = found (goal.at.returns c).In_ok-position in
    handed_out _ _ _ _ f.is f.inside (counted c.based.result c.based.ensures c.frame_words-count.ensures) c.if-words-count.false c.hand_out.ensures
