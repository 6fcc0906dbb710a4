-- The walks show every rule; what one shows the next may ask.
use mathlib.Core.Path.{◌≡◌, sym, subst, ◌∙◌}
use mathlib.Core.Bool.{Bool, true}
use native.Mathlib.Omega.{arith}
use borrow.Author.Tests.{ne_eqb}
use lib.Dec.{eqb}
use Rattle.lay.specs.Below.{all}
use Rattle.lay.proofs.Tests.{refuse, differ}
use Rattle.model.specs.Stored.{subframes_in, parameters_in}
use Rattle.model.specs.Facts.{Laid}
use Rattle.model.proofs.Meanings.{or_then, or_made}
use Rattle.stored.specs.declared.table.Table.{Table}
use Rattle.rules.specs.Ruled.{Ruled}
use Rattle.table.proofs.Lawfully.{lawful_subframe, lawful_parameter, subframes_law, parameters_law, lawful_walked, walked_lawful, no_parameters_lem}
use Rattle.table.proofs.check.lawful_ok.Goals as goal

module _ {d t : Table} (e : d ≡ t) where
  -- the walk over the parameters is one over the lent bytes
  walked : {r : Bool} → r ≡ all (parameters_in d.bytes.now) (lawful_parameter d.bytes.now) → r ≡ all (parameters_in t.bytes.now) (lawful_parameter t.bytes.now)
  walked {r} h = subst (λ (x : Table). r ≡ all (parameters_in x.bytes.now) (lawful_parameter x.bytes.now)) e h

  ruled : Laid t.bytes.now → all (subframes_in t.bytes.now) (lawful_subframe t.bytes.now) ≡ true → all (parameters_in d.bytes.now) (lawful_parameter d.bytes.now) ≡ true → Ruled d.bytes.now
  ruled l s p =
      let b = t.bytes.now in
      let q : Ruled b = record { laid = l; subframes = subframes_law b l.head.sized.formed s; parameters = parameters_law b (sym (walked (sym p))) } in
      subst (λ (x : Table). Ruled x.bytes.now) (sym e) q

pub returns-then-not-subframes_ok : goal.returns-then-not-subframes_ok
returns-then-not-subframes_ok c =
    let b = c.args.t.now.bytes.now in
    refuse _ (λ h. differ (sym c.subframes_ok.ensures ∙ c.if-not-subframes_ok.true) (lawful_walked b h).subframes)

pub declared-d-requires : goal.declared-d-requires
declared-d-requires c =
    record { subframes_law = subframes_law c.args.t.now.bytes.now c.args.t.now.opened_of.sized.formed (sym c.subframes_ok.ensures ∙ c.if-not-subframes_ok.false) }

pub parameters_ok-requires : goal.parameters_ok-requires
parameters_ok-requires c =
    let l = subst (λ (x : Table). Laid x.bytes.now) (sym c.declared-d.ensures) c.requires.laid in
    record { entries = l.entries; rows = l.rows }

pub returns-then-not-parameters_ok : goal.returns-then-not-parameters_ok
returns-then-not-parameters_ok c =
    let b = c.args.t.now.bytes.now in
    refuse _ (λ h. differ (sym (walked c.declared-d.ensures c.parameters_ok.ensures) ∙ c.if-not-parameters_ok.true) (lawful_walked b h).parameters)

pub returns-then-not-names_ok : goal.returns-then-not-names_ok
returns-then-not-names_ok c =
    let b = c.args.t.now.bytes.now in
    refuse _ (λ h. differ (sym c.names_ok.ensures ∙ c.if-not-names_ok.true) (lawful_walked b h).names)

pub invariant_of-r : goal.invariant_of-r
invariant_of-r c =
    record { ruled = ruled c.declared-d.ensures c.requires.laid (sym c.subframes_ok.ensures ∙ c.if-not-subframes_ok.false) (sym c.parameters_ok.ensures ∙ c.if-not-parameters_ok.false) }

pub returns-then-t-eq0 : goal.returns-then-t-eq0
returns-then-t-eq0 c =
    let b = c.args.t.now.bytes.now in
    let z : parameters_in b ≡ 0 = omega (arith, c.args.t.now.opened_of.counts, c.if-t-eq0.true) in
    sym
    (walked_lawful b c.requires.laid
    (record {
      subframes = (sym c.subframes_ok.ensures ∙ c.if-not-subframes_ok.false);
      parameters = sym (walked c.declared-d.ensures c.parameters_ok.ensures) ∙ c.if-not-parameters_ok.false;
      names = (sym c.names_ok.ensures ∙ c.if-not-names_ok.false);
      identifiers = no_parameters_lem b z;
    }))

pub returns-then-not-identifiers_ok : goal.returns-then-not-identifiers_ok
returns-then-not-identifiers_ok c =
    let b = c.args.t.now.bytes.now in
    let z : parameters_in b ≡ 0 → ⊥ = λ e. c.if-t-eq0.false (c.args.t.now.opened_of.counts.parameters_is ∙ e) in
    let k = rw c.declared-d.ensures at c.identifiers_ok.ensures in
    refuse _ (λ h. differ (sym k ∙ c.if-not-identifiers_ok.true) (or_then _ _ (lawful_walked b h).identifiers (ne_eqb _ _ z)))

pub returns : goal.returns
returns c =
    let b = c.args.t.now.bytes.now in
    let k = rw c.declared-d.ensures at c.identifiers_ok.ensures in
    sym
    (walked_lawful b c.requires.laid
    (record {
      subframes = (sym c.subframes_ok.ensures ∙ c.if-not-subframes_ok.false);
      parameters = sym (walked c.declared-d.ensures c.parameters_ok.ensures) ∙ c.if-not-parameters_ok.false;
      names = (sym c.names_ok.ensures ∙ c.if-not-names_ok.false);
      identifiers = or_made (eqb (parameters_in b) 0) _ (λ e. (sym k ∙ c.if-not-identifiers_ok.false));
    }))
