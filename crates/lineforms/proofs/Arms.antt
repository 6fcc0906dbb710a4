-- An arm of a match that stands for many variants: a line's form, and what is due. Assumes nothing.
use mathlib.Core.Path.{◌≡◌, refl, sym, ap, subst, ◌∙◌}
use mathlib.Core.Bool.{Bool, true, false}
use mathlib.Core.List.{List, [], ◌∷◌, map}
use mathlib.Core.Logic.{inl, inr}
use Prim.Native.Nat.{ℕ}
use lib.ListN.{get_or}
use mir.Val.{has_key}
use types.Run.{OneOf}
use denote.Enum.Declared.{tag_of}
use Rattle.lineforms.specs.declared.due.Due.{Due}
use Rattle.lineforms.specs.declared.due.Due.TheVariants as due
use Rattle.lineforms.specs.declared.due.Form.{Form}
use Rattle.lineforms.specs.declared.due.Form.TheVariants as form
use Rattle.lineforms.specs.contracts.due.Due.{the_type as dueType}
use Rattle.lineforms.specs.contracts.due.Form.{the_type as form_type}

-- a function with one value at each of the places has it at whatever lies at one of them
module _ {ℓ} {W : Type 0} {X : Type ℓ} (place : W → ℕ) (at : ℕ → W) (back : (w : W) → at (place w) ≡ w) (f : W → X) (v : X) where
  one : (k : ℕ) (w : W) → f (at k) ≡ v → place w ≡ k → v ≡ f w
  one k w e p = sym e ∙ ap f (ap at (sym p) ∙ back w)

  alike : (ks : List ℕ) → map (λ k. f (at k)) ks ≡ map (λ k. v) ks → (w : W) → OneOf ks (place w) → v ≡ f w
  alike [] e w z = absurd z
  alike (k ∷ []) e w p = one k w (cc) p
  alike (k ∷ j ∷ ks) e w (inl p) = one k w (cc) p
  alike (k ∷ j ∷ ks) e w (inr q) = alike (j ∷ ks) (cc) w q

-- the places of the arms before a last one that takes the rest are left out
abbrev unless : Bool → ℕ → List ℕ → List ℕ
unless true k ks = ks
unless false k ks = k ∷ ks

abbrev without : List ℕ → List ℕ → List ℕ
without out [] = []
without out (k ∷ ks) = unless (has_key out k) k (without out ks)

-- ---- a line's form

abbrev forms : List Form
forms = form.Stray ∷ form.Superframe ∷ form.HeaderWord ∷ form.HeaderLine ∷ form.RecordWord ∷ form.RecordLine ∷ form.NoneWord ∷ form.ParameterWord ∷ form.NameLine ∷ form.OpeningComponent ∷ form.ComponentLine ∷ form.TimeLine ∷ form.SamplesEnd ∷ form.SignedLine ∷ form.RangeLine ∷ form.SourceLine ∷ form.LabelLine ∷ form.SourceEnd ∷ form.ParameterEnd ∷ []

abbrev form_at_lem : ℕ → Form
form_at_lem k = get_or forms k form.Stray

form_back : (d : Form) → form_at_lem (tag_of form_type d) ≡ d
form_back form.Stray = refl
form_back form.Superframe = refl
form_back form.HeaderWord = refl
form_back form.HeaderLine = refl
form_back form.RecordWord = refl
form_back form.RecordLine = refl
form_back form.NoneWord = refl
form_back form.ParameterWord = refl
form_back form.NameLine = refl
form_back form.OpeningComponent = refl
form_back form.ComponentLine = refl
form_back form.TimeLine = refl
form_back form.SamplesEnd = refl
form_back form.SignedLine = refl
form_back form.RangeLine = refl
form_back form.SourceLine = refl
form_back form.LabelLine = refl
form_back form.SourceEnd = refl
form_back form.ParameterEnd = refl

abbrev pub these_forms : List Form → List ℕ
these_forms ds = map (tag_of form_type) ds

abbrev pub other_forms : List Form → List ℕ
other_forms ds = without (these_forms ds) (these_forms forms)

pub form_arm {ℓ} : {X : Type ℓ} (f : Form → X) (v : X) (ks : List ℕ) → map (λ k. f (form_at_lem k)) ks ≡ map (λ k. v) ks → (d : Form) → OneOf ks (tag_of form_type d) → v ≡ f d
form_arm f v = alike (tag_of form_type) form_at_lem form_back f v

-- the same for what holds there
pub form_holds : (P : Form → Type 0) (Q : Type 0) (ks : List ℕ) → map (λ k. P (form_at_lem k)) ks ≡ map (λ k. Q) ks → (d : Form) → OneOf ks (tag_of form_type d) → Q → P d
form_holds P Q ks e d k q = subst (λ (T : Type 0). T) (form_arm P Q ks e d k) q

pub form_held : (P : Form → Type 0) (Q : Type 0) (ks : List ℕ) → map (λ k. P (form_at_lem k)) ks ≡ map (λ k. Q) ks → (d : Form) → OneOf ks (tag_of form_type d) → P d → Q
form_held P Q ks e d k p = subst (λ (T : Type 0). T) (sym (form_arm P Q ks e d k)) p

-- ---- what is due

abbrev dues : List Due
dues = due.HeaderWord ∷ due.HeaderLine ∷ due.RecordWord ∷ due.RecordLine ∷ due.Opening ∷ due.NameLine ∷ due.FirstComponent ∷ due.NextComponent ∷ due.AfterSample ∷ due.SignedLine ∷ due.RangeLine ∷ due.SourceLine ∷ due.AfterSource ∷ due.SourceBlank ∷ due.AfterSourceBlank ∷ due.NextParameter ∷ due.Nothing ∷ []

abbrev due_at : ℕ → Due
due_at k = get_or dues k due.HeaderWord

due_back : (d : Due) → due_at (tag_of dueType d) ≡ d
due_back due.HeaderWord = refl
due_back due.HeaderLine = refl
due_back due.RecordWord = refl
due_back due.RecordLine = refl
due_back due.Opening = refl
due_back due.NameLine = refl
due_back due.FirstComponent = refl
due_back due.NextComponent = refl
due_back due.AfterSample = refl
due_back due.SignedLine = refl
due_back due.RangeLine = refl
due_back due.SourceLine = refl
due_back due.AfterSource = refl
due_back due.SourceBlank = refl
due_back due.AfterSourceBlank = refl
due_back due.NextParameter = refl
due_back due.Nothing = refl

abbrev pub these_dues : List Due → List ℕ
these_dues ds = map (tag_of dueType) ds

abbrev pub other_dues : List Due → List ℕ
other_dues ds = without (these_dues ds) (these_dues dues)

pub due_arm {ℓ} : {X : Type ℓ} (f : Due → X) (v : X) (ks : List ℕ) → map (λ k. f (due_at k)) ks ≡ map (λ k. v) ks → (d : Due) → OneOf ks (tag_of dueType d) → v ≡ f d
due_arm f v = alike (tag_of dueType) due_at due_back f v
