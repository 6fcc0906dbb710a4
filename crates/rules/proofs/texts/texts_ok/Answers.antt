-- Each test is one that the rule names, of the parameter's own texts.
use mathlib.Core.Path.{◌≡◌, sym, ap, ◌∙◌, ap₂}
use mathlib.Core.Bool.{Bool, true, false, not}
use mathlib.Core.List.{List}
use Prim.Native.Nat.{ℕ, ◌≤◌}
use native.Mathlib.Omega.{arith}
use borrow.Author.Tests.{leb-true, le-leb, not-true, not-false}
use lib.ListN.{length}
use Rattle.lay.proofs.Tests.{rule, none, both, refuse, differ}
use Rattle.model.specs.Limits.{Limits}
use Rattle.model.specs.Forms.{limits_in}
use Rattle.stored.proofs.Reading.{known_here, bounds_are}
use Rattle.model.specs.Rules.{text_ok}
use Rattle.model.specs.Stored.{name_in, mnemonic_in, identification_in}
use Rattle.rules.specs.Ruled.{texts_ok}
use mathlib.Core.Bool.{not}
use Rattle.rules.proofs.texts.texts_ok.Goals as goal

named : (b : List ℕ) (i : ℕ) → texts_ok b i ≡ true → 1 ≤ length (name_in b i)
unfolding texts_ok
named b i h = leb-true _ _ (rule _ h 0)

joined : (b : List ℕ) (i : ℕ) → 1 ≤ length (name_in b i) → text_ok (limits_in b) (name_in b i) ≡ true → text_ok (limits_in b) (mnemonic_in b i) ≡ true → text_ok (limits_in b) (identification_in b i) ≡ true → texts_ok b i ≡ true
unfolding texts_ok
joined b i l n m d = both _ (le-leb _ _ l) (both _ n (both _ m (both _ d none)))

-- a text that is refused, and one that passes
bad : {l m : Limits} {x u : List ℕ} {r : Bool} → m ≡ l → x ≡ u → r ≡ text_ok m x → not r ≡ true → text_ok l u ≡ false
bad q p e h = ap₂ text_ok (sym q) (sym p) ∙ sym e ∙ not-true _ h

good : {l m : Limits} {x u : List ℕ} {r : Bool} → m ≡ l → x ≡ u → r ≡ text_ok m x → not r ≡ false → text_ok l u ≡ true
good q p e h = ap₂ text_ok (sym q) (sym p) ∙ sym e ∙ not-false _ h

pub bounds_of-most-requires : goal.bounds_of-most-requires
bounds_of-most-requires c = known_here c.args.t.now.opened_of.sized.formed c.args.t.now.opened_of.form_is

pub returns-then-name-lt1 : goal.returns-then-name-lt1
returns-then-name-lt1 c = refuse _ (λ h. let some = named _ _ h in omega (arith, ap length c.name_in-name.ensures.0))

pub returns-then-not-text_ok : goal.returns-then-not-text_ok
unfolding texts_ok
returns-then-not-text_ok c = refuse _ (λ h. differ (bad (bounds_are _ c.args.t.now.opened_of.form_is c.bounds_of-most.ensures) c.name_in-name.ensures.0 c.text_ok.ensures (ap not c.if-not-text_ok.true)) (rule _ h 1))

pub returns-then-not-text_ok-2 : goal.returns-then-not-text_ok-2
unfolding texts_ok
returns-then-not-text_ok-2 c = refuse _ (λ h. differ (bad (bounds_are _ c.args.t.now.opened_of.form_is c.bounds_of-most.ensures) c.mnemonic_in.ensures c.text_ok-2.ensures (ap not c.if-not-text_ok-2.true)) (rule _ h 2))

pub returns-then-not-text_ok-3 : goal.returns-then-not-text_ok-3
unfolding texts_ok
returns-then-not-text_ok-3 c = refuse _ (λ h. differ (bad (bounds_are _ c.args.t.now.opened_of.form_is c.bounds_of-most.ensures) c.identification_in.ensures c.text_ok-3.ensures (ap not c.if-not-text_ok-3.true)) (rule _ h 3))

pub returns : goal.returns
returns c =
    let name = c.name_in-name.ensures.0 in
    let some = c.if-name-lt1.false in
    sym
    (joined _ _ (omega (arith, ap length name, some)) (good (bounds_are _ c.args.t.now.opened_of.form_is c.bounds_of-most.ensures) name c.text_ok.ensures (ap not c.if-not-text_ok.false))
    (good (bounds_are _ c.args.t.now.opened_of.form_is c.bounds_of-most.ensures) c.mnemonic_in.ensures c.text_ok-2.ensures (ap not c.if-not-text_ok-2.false))
    (good (bounds_are _ c.args.t.now.opened_of.form_is c.bounds_of-most.ensures) c.identification_in.ensures c.text_ok-3.ensures (ap not c.if-not-text_ok-3.false)))
