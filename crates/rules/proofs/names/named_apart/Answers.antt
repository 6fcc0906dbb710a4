-- The names are compared, and the mnemonics and identifications where the later one has one: two that are the same are refused.
use mathlib.Core.Path.{◌≡◌, sym, ap, ◌∙◌}
use mathlib.Core.Bool.{Bool, true, false}
use mathlib.Core.List.{List}
use Prim.Native.Nat.{ℕ}
use native.Mathlib.Omega.{arith}
use lib.ListN.{length}
use Rattle.lay.specs.Bytes.{same}
use Rattle.lay.proofs.Tests.{refuse, differ}
use Rattle.lay.proofs.Bytes.{same_eq, same_made}
use Rattle.model.specs.View.{parameter_at}
use Rattle.model.proofs.Meanings.{apart_law, apart_made}
use Rattle.rules.proofs.names.named_apart.Goals.{then-mnemonic-gt0+else-same_text-2, else-mnemonic-gt0}
use Rattle.rules.proofs.names.named_apart.Goals as goal

-- two texts that are found to be the same, and two that are not
met : {x y u v : List ℕ} {r : Bool} → x ≡ u → y ≡ v → r ≡ same x y → r ≡ true → u ≡ v
met p q e h = sym p ∙ same_eq _ _ (sym e ∙ h) ∙ q

apart : {x y u v : List ℕ} {r : Bool} → x ≡ u → y ≡ v → r ≡ same x y → r ≡ false → u ≡ v → ⊥
apart p q e h s = differ (sym e ∙ h) (same_made _ _ (p ∙ s ∙ sym q))

pub returns-then-same_text : goal.returns-then-same_text
unfolding parameter_at
returns-then-same_text c =
    refuse _
    (λ h.
    (apart_law _ _ h).name
    (met c.name_in.ensures.0 c.name_in-2.ensures.0 c.same_text.ensures c.if-same_text.true))

pub returns-then-same_text-2 : goal.returns-then-same_text-2
unfolding parameter_at
returns-then-same_text-2 c =
    let m = c.mnemonic_in-mnemonic.ensures in
    refuse _
    (λ h.
    (apart_law _ _ h).mnemonic (omega (arith, ap length m))
    (met c.mnemonic_in.ensures m c.same_text-then-mnemonic-gt0.ensures c.if-same_text-2.true))

pub returns-then-same_text-3 : goal.returns-then-same_text-3
unfolding parameter_at
returns-then-same_text-3 c =
    let d = c.identification_in-identification.ensures in
    refuse _
    (λ h.
    (apart_law _ _ h).identification (omega (arith, ap length d))
    (met c.identification_in.ensures d c.same_text-then-identification-gt0.ensures c.if-same_text-3.true))

pub returns-else-same_text-3 : goal.returns-else-same_text-3
unfolding parameter_at
returns-else-same_text-3 c =
    let m = c.mnemonic_in-mnemonic.ensures in
    let d = c.identification_in-identification.ensures in
    sym
    (apart_made _ _
    (record {
      name = apart c.name_in.ensures.0 c.name_in-2.ensures.0 c.same_text.ensures c.if-same_text.false;
      mnemonic =
          elim c.if-mnemonic-gt0.branch [
            | then-mnemonic-gt0+else-same_text-2 w ↦ λ l. apart w.mnemonic_in.ensures m w.same_text-then-mnemonic-gt0.ensures w.if-same_text-2.false
            | else-mnemonic-gt0 w ↦ λ l. absurd (omega (arith, w.if-mnemonic-gt0.false, ap length m))
          ];
      identification = λ l. apart c.identification_in.ensures d c.same_text-then-identification-gt0.ensures c.if-same_text-3.false;
    }))

pub returns-else-identification-gt0 : goal.returns-else-identification-gt0
unfolding parameter_at
returns-else-identification-gt0 c =
    let m = c.mnemonic_in-mnemonic.ensures in
    let d = c.identification_in-identification.ensures in
    sym
    (apart_made _ _
    (record {
      name = apart c.name_in.ensures.0 c.name_in-2.ensures.0 c.same_text.ensures c.if-same_text.false;
      mnemonic =
          elim c.if-mnemonic-gt0.branch [
            | then-mnemonic-gt0+else-same_text-2 w ↦ λ l. apart w.mnemonic_in.ensures m w.same_text-then-mnemonic-gt0.ensures w.if-same_text-2.false
            | else-mnemonic-gt0 w ↦ λ l. absurd (omega (arith, w.if-mnemonic-gt0.false, ap length m))
          ];
      identification = λ l. absurd (omega (arith, c.if-identification-gt0.false, ap length d));
    }))
