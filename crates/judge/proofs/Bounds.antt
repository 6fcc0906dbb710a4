-- How much there is at most where something is due. Assumes nothing.
use mathlib.Core.Path.{◌≡◌, ap}
use mathlib.Core.List.{List, [], ◌∷◌}
use Prim.Native.Nat.{ℕ, suc, ◌+◌, ◌*◌, ◌≤◌}
use native.Mathlib.Omega.{arith}
use lib.ListN.{length}
use Rattle.lineforms.specs.declared.due.Due.{Due}
use Rattle.lineforms.specs.declared.due.Due.TheVariants as due
use Rattle.model.specs.Content.{Parameter, Subframe, no_parameter}
use Rattle.model.specs.Forms.{sheet_limits}
use Rattle.model.specs.Meaning.{ParameterLaw}
use Rattle.gather.specs.Book.{Book, samples_of, components_of, all_components_of, samples_so_far, components_so_far}
use Rattle.gather.proofs.Rows.{Each}
use Rattle.gather.proofs.Sound.{Fresh, Headed, Between, Opened, Sound}
use Rattle.judge.specs.Counts.{text_of, tally_of, most_count, Small}
use Rattle.judge.proofs.Standing.{Level, Within, Stands}

pub record Few (K : Book) (os : List ℕ) : Type 0 where
  pub pairs : length K.pairs ≤ sheet_limits.subframes
  pub parameters : length K.parameters ≤ sheet_limits.parameters
  pub opens : length os ≤ sheet_limits.parameters
  pub samples : samples_so_far K ≤ sheet_limits.samples
  pub own : length K.opened.samples ≤ sheet_limits.samples_each
  pub components : components_so_far K ≤ sheet_limits.components
  pub parts : length K.parts ≤ sheet_limits.components_each
  pub text : text_of K.parameters ≤ 3 * sheet_limits.text * sheet_limits.parameters
  pub name : length K.opened.name ≤ sheet_limits.text
  pub mnemonic : length K.opened.mnemonic ≤ sheet_limits.text
  pub identification : length K.opened.identification ≤ sheet_limits.text

-- three texts, each within its limit
text_few : (subs : List Subframe) (ps : List Parameter) → Each (ParameterLaw sheet_limits subs) no_parameter ps
    → text_of ps ≤ 3 * sheet_limits.text * length ps
unfolding text_of
text_few subs [] h = omega arith
text_few subs (p ∷ ps) h =
    let a = h 0 (omega arith) in
    let b = text_few subs ps (λ k l. h (suc k) (omega arith)) in
    omega (arith, a.name.short, a.mnemonic.short, a.identification.short)

-- no parameter, and none open
few_none : (K : Book) (os : List ℕ) → Level K os → K.parameters ≡ [] → K.parts ≡ [] → length K.pairs ≤ sheet_limits.subframes → Few K os
unfolding samples_of components_of all_components_of text_of
few_none K os v p q n =
    let c = ap length p in
    record {
      pairs = n;
      parameters = rw p (omega arith);
      opens = omega (arith, v.count, c);
      samples = rw (p, v.shut) (omega arith);
      own = rw v.shut (omega arith);
      components = rw (p, v.shut, q) (omega arith);
      parts = rw q (omega arith);
      text = rw p (omega arith);
      name = rw v.shut (omega arith);
      mnemonic = rw v.shut (omega arith);
      identification = rw v.shut (omega arith);
    }

-- whole parameters, and none open
few_between : (K : Book) (os : List ℕ) → Between K → K.opened ≡ no_parameter → length os ≤ sheet_limits.parameters
    → length K.pairs ≤ K.declared → Few K os
unfolding components_of
few_between K os h v c n =
    let t = text_few _ K.parameters h.whole.each in
    let a : samples_of K.parameters + 0 ≤ sheet_limits.samples = omega (arith, h.few_samples) in
    let b : all_components_of K.parameters + 0 + 0 ≤ sheet_limits.components = omega (arith, h.few_components) in
    record {
      pairs = omega (arith, h.ground.few);
      parameters = h.whole.few;
      opens = c;
      samples = rw v a;
      own = rw v (omega arith);
      components = rw (v, h.no_parts) b;
      parts = rw h.no_parts (omega arith);
      text = omega (arith, h.whole.few);
      name = rw v (omega arith);
      mnemonic = rw v (omega arith);
      identification = rw v (omega arith);
    }

few_opened : (K : Book) (os : List ℕ) → Opened K → Within K os → length K.parts ≤ sheet_limits.components_each → Few K os
few_opened K os h v n =
    let t = text_few _ K.parameters h.whole.each in
    record {
      pairs = omega (arith, h.ground.few, v.few);
      parameters = h.whole.few;
      opens = omega (arith, v.count, h.room);
      samples = h.few_samples;
      own = h.samples.few;
      components = h.few_components;
      parts = n;
      text = omega (arith, h.whole.few);
      name = h.names.name.short;
      mnemonic = h.names.mnemonic.short;
      identification = h.names.identification.short;
    }

few_fresh : (K : Book) (os : List ℕ) → Fresh K → Level K os → Few K os
few_fresh K os h v = few_none K os v h.no_parameters h.no_parts (rw h.no_pairs (omega arith))

few_headed : (K : Book) (os : List ℕ) → Headed K → Level K os → length K.pairs ≤ K.declared → Few K os
few_headed K os h v n = few_none K os v h.no_parameters h.no_parts (omega (arith, h.few))

none_open : (K : Book) → K.parts ≡ [] → length K.parts ≤ sheet_limits.components_each
none_open K e = rw e (omega arith)

pub few : (d : Due) (K : Book) (os : List ℕ) → Sound d K → Stands d K os → Few K os
few due.HeaderWord K os h v = few_fresh K os h v
few due.HeaderLine K os h v = few_fresh K os h v
few due.RecordWord K os h v = few_headed K os h v.level (omega (arith, v.few))
few due.RecordLine K os h v = few_headed K os h v.level (omega (arith, v.few))
few due.Opening K os h v = few_headed K os h v.level v.few
few due.NameLine K os h v = few_between K os h.between v.shut (omega (arith, v.within.count, h.room)) v.within.few
few due.FirstComponent K os h v = few_opened K os h.opened v (none_open K h.no_parts)
few due.NextComponent K os h v = few_opened K os h.opened v h.parted.few
few due.AfterSample K os h v = few_opened K os h.closed.opened v (none_open K h.closed.no_parts)
few due.SignedLine K os h v = few_opened K os h.closed.opened v (none_open K h.closed.no_parts)
few due.RangeLine K os h v = few_opened K os h.closed.opened v (none_open K h.closed.no_parts)
few due.SourceLine K os h v = few_opened K os h.closed.opened v (none_open K h.closed.no_parts)
few due.AfterSource K os h v = few_opened K os h.closed.opened v (none_open K h.closed.no_parts)
few due.SourceBlank K os h v = few_opened K os h.closed.opened v (none_open K h.closed.no_parts)
few due.AfterSourceBlank K os h v = few_opened K os h.closed.opened v (none_open K h.closed.no_parts)
few due.NextParameter K os h v = few_between K os h v.level.shut (omega (arith, v.level.count, h.whole.few)) v.few
few due.Nothing K os h v = few_between K os h v.level.shut (omega (arith, v.level.count, h.whole.few)) v.few

pub small : (K : Book) (os : List ℕ) → Few K os → Small (tally_of K) most_count
small K os h =
    record {
      pairs = omega (arith, h.pairs);
      parameters = omega (arith, h.parameters);
      samples = omega (arith, h.samples);
      own = omega (arith, h.own);
      components = omega (arith, h.components);
      parts = omega (arith, h.parts);
      text = omega (arith, h.text);
      name = omega (arith, h.name);
      mnemonic = omega (arith, h.mnemonic);
      identification = omega (arith, h.identification);
    }
