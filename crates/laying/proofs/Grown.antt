-- One more at the end of a part. Assumes nothing.
use mathlib.Core.Path.{◌≡◌, sym, ap, ap₂, ◌∙◌}
use mathlib.Core.List.{List, [], ◌∷◌, ◌++◌, append_assoc}
use Prim.Native.Nat.{ℕ, ◌+◌}
use native.Mathlib.Omega.{arith}
use lib.ListN.{length}
use Rattle.model.specs.Content.{Subframe, Parameter, Sample, Component}
use Rattle.model.specs.Items.{subframe_part, parameter_part, sample_part, component_part}
use Rattle.model.specs.Write.{texts, subframe_values, component_values, parameter_from, sample_from}
use Rattle.gather.specs.Book.{samples_of, components_of}
use Rattle.laying.specs.Parts.{entry, copied, subframe_bytes, copies_bytes, parameter_bytes, sample_bytes, component_bytes, text_bytes, samples_in, components_in}
use Rattle.laying.proofs.Fronts.{nil_end}

pub subframe_more : (fs : List Subframe) (f : Subframe) → subframe_bytes (fs ++ (f ∷ [])) ≡ subframe_bytes fs ++ entry subframe_part (subframe_values f)
unfolding subframe_bytes
subframe_more [] f = nil_end (entry subframe_part (subframe_values f))
subframe_more (g ∷ fs) f =
    ap (λ (l : List ℕ). entry subframe_part (subframe_values g) ++ l) (subframe_more fs f)
    ∙ sym (append_assoc (entry subframe_part (subframe_values g)) (subframe_bytes fs) (entry subframe_part (subframe_values f)))

pub copies_more : (n : ℕ) (fs : List Subframe) (f : Subframe) → copies_bytes n (fs ++ (f ∷ [])) ≡ copies_bytes n fs ++ copied n f
unfolding copies_bytes
copies_more n [] f = nil_end (copied n f)
copies_more n (g ∷ fs) f =
    ap (λ (l : List ℕ). copied n g ++ l) (copies_more n fs f)
    ∙ sym (append_assoc (copied n g) (copies_bytes n fs) (copied n f))

pub component_more : (cs : List Component) (c : Component) → component_bytes (cs ++ (c ∷ [])) ≡ component_bytes cs ++ entry component_part (component_values c)
unfolding component_bytes
component_more [] c = nil_end (entry component_part (component_values c))
component_more (d ∷ cs) c =
    ap (λ (l : List ℕ). entry component_part (component_values d) ++ l) (component_more cs c)
    ∙ sym (append_assoc (entry component_part (component_values d)) (component_bytes cs) (entry component_part (component_values c)))

pub sample_more : (n : ℕ) (ss : List Sample) (s : Sample) → sample_bytes n (ss ++ (s ∷ [])) ≡ sample_bytes n ss ++ entry sample_part (sample_from s (n + components_of ss))
unfolding sample_bytes components_of
sample_more n [] s =
    let e : n ≡ n + 0 = omega arith in
    nil_end (entry sample_part (sample_from s n)) ∙ ap (λ (k : ℕ). entry sample_part (sample_from s k)) e
sample_more n (r ∷ ss) s =
    let e : n + length r.components + components_of ss ≡ n + (length r.components + components_of ss) = omega arith in
    ap (λ (l : List ℕ). entry sample_part (sample_from r n) ++ l) (sample_more (n + length r.components) ss s ∙ ap (λ (k : ℕ). sample_bytes (n + length r.components) ss ++ entry sample_part (sample_from s k)) e)
    ∙ sym (append_assoc (entry sample_part (sample_from r n)) (sample_bytes (n + length r.components) ss) (entry sample_part (sample_from s (n + (length r.components + components_of ss)))))

-- the bytes of text of parameters
unfoldable pub text_long : List Parameter → ℕ
text_long [] = 0
text_long (p ∷ ps) = length (texts p) + text_long ps

pub parameter_more : (t q : ℕ) (ps : List Parameter) (p : Parameter) → parameter_bytes t q (ps ++ (p ∷ [])) ≡ parameter_bytes t q ps ++ entry parameter_part (parameter_from p (t + text_long ps) (q + samples_of ps))
unfolding parameter_bytes text_long samples_of
parameter_more t q [] p =
    let e : t ≡ t + 0 = omega arith in
    let d : q ≡ q + 0 = omega arith in
    nil_end (entry parameter_part (parameter_from p t q)) ∙ ap₂ (λ (x y : ℕ). entry parameter_part (parameter_from p x y)) e d
parameter_more t q (r ∷ ps) p =
    let e : t + length (texts r) + text_long ps ≡ t + (length (texts r) + text_long ps) = omega arith in
    let d : q + length r.samples + samples_of ps ≡ q + (length r.samples + samples_of ps) = omega arith in
    ap (λ (l : List ℕ). entry parameter_part (parameter_from r t q) ++ l)
    (parameter_more (t + length (texts r)) (q + length r.samples) ps p
    ∙ ap₂ (λ (x y : ℕ). parameter_bytes (t + length (texts r)) (q + length r.samples) ps ++ entry parameter_part (parameter_from p x y)) e d)
    ∙ sym (append_assoc (entry parameter_part (parameter_from r t q)) (parameter_bytes (t + length (texts r)) (q + length r.samples) ps) (entry parameter_part (parameter_from p (t + (length (texts r) + text_long ps)) (q + (length r.samples + samples_of ps)))))

pub text_more : (ps : List Parameter) (p : Parameter) → text_bytes (ps ++ (p ∷ [])) ≡ text_bytes ps ++ texts p
unfolding text_bytes
text_more [] p = nil_end (texts p)
text_more (r ∷ ps) p = ap (λ (l : List ℕ). texts r ++ l) (text_more ps p) ∙ sym (append_assoc (texts r) (text_bytes ps) (texts p))

pub samples_more : (ps : List Parameter) (p : Parameter) → samples_in (ps ++ (p ∷ [])) ≡ samples_in ps ++ p.samples
unfolding samples_in
samples_more [] p = nil_end p.samples
samples_more (r ∷ ps) p = ap (λ (l : List Sample). r.samples ++ l) (samples_more ps p) ∙ sym (append_assoc r.samples (samples_in ps) p.samples)

pub components_more : (ss : List Sample) (s : Sample) → components_in (ss ++ (s ∷ [])) ≡ components_in ss ++ s.components
unfolding components_in
components_more [] s = nil_end s.components
components_more (r ∷ ss) s = ap (λ (l : List Component). r.components ++ l) (components_more ss s) ∙ sym (append_assoc r.components (components_in ss) s.components)
