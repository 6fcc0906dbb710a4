-- Each test is one that the rule names.
use mathlib.Core.Path.{refl, sym, ◌∙◌}
use Prim.Native.Nat.{◌-◌}
use native.Mathlib.Omega.{arith}
use borrow.Author.Rules.{rules}
use borrow.Author.Tests.{tests, eqb-true, eq-eqb}
use lib.ListN.{length}
use Rattle.std.proofs.lemmas.Iterator.{YieldsList-from_slice}
use Rattle.std.proofs.lemmas.Iterator.Search.{all_from_yields_List}
use Rattle.lay.proofs.Tests.{refuse, differ, same_tests}
use Rattle.stored.specs.Shapes.{limits_by}
use Rattle.model.specs.Rules.{byte_ok}
use Rattle.model.proofs.Meanings.{byte_law, byte_made, text_law, text_made}
use Rattle.rules.proofs.ByteTests.{each_byte, all_bytes, space_at}
use Rattle.rules.proofs.texts.text_ok.Goals as goal

pub returns-then-most-text : goal.returns-then-most-text
returns-then-most-text c = refuse _ (λ h. let r = text_law (limits_by _) _ h in omega arith)

pub returns-then-eq : goal.returns-then-eq
returns-then-eq c =
    let s = space_at _ _ c.args.text.now 0 c.first.ensures.value refl in
    refuse _ (λ h. (text_law (limits_by _) _ h).begins (eqb-true _ _ (sym s ∙ sym c.eq.ensures ∙ c.if-eq.true)))

pub returns-then-eq-2 : goal.returns-then-eq-2
returns-then-eq-2 c =
    let s = space_at _ _ c.args.text.now (length c.args.text.now - 1) c.last.ensures.value refl in
    refuse _ (λ h. (text_law (limits_by _) _ h).ends (eqb-true _ _ (sym s ∙ sym c.eq-2.ensures ∙ c.if-eq-2.true)))

pub returns : goal.returns
returns c =
    let s = space_at _ _ c.args.text.now 0 c.first.ensures.value refl in
    let z = space_at _ _ c.args.text.now (length c.args.text.now - 1) c.last.ensures.value refl in
    all_from_yields_List byte_ok _ _ _ c.all.ensures.ran (YieldsList-from_slice c.args.text.now cc) (λ x b q k. search (rules, tests))
    ∙ same_tests _ _
    (λ h.
    text_made (limits_by _) _
    (record {
      short = c.if-most-text.false;
      each = λ i l. byte_law _ (each_byte _ h i l);
      begins = λ e. differ (sym s ∙ sym c.eq.ensures ∙ c.if-eq.false) (eq-eqb _ _ e);
      ends = λ e. differ (sym z ∙ sym c.eq-2.ensures ∙ c.if-eq-2.false) (eq-eqb _ _ e);
    }))
    (λ h. all_bytes _ (λ i l. byte_made _ ((text_law (limits_by _) _ h).each i l)))
