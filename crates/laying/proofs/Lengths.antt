-- How long the parts are: so many entries of the size that the newest form gives them. Assumes nothing.
use mathlib.Core.Path.{◌≡◌, refl, sym, ◌∙◌}
use mathlib.Core.List.{List, [], ◌∷◌, ◌++◌}
use Prim.Native.Nat.{ℕ, suc, ◌+◌, ◌*◌}
use native.Mathlib.Nat.{mul-zero, mul-suc}
use native.Mathlib.Omega.{arith}
use lib.ListN.{length, length-append}
use Rattle.lay.proofs.Below.{length_flat, sum_same, sum_const}
use Rattle.lay.proofs.Slots.{length_entry}
use Rattle.model.specs.Content.{Content, Subframe, Parameter, Sample, Component}
use Rattle.model.specs.Items.{subframe_part, parameter_part, sample_part, component_part}
use Rattle.model.specs.Write.{texts, subframe_values, component_values, parameter_from, sample_from}
use Rattle.laying.specs.Parts.{size, entry, head_size, header_of, subframe_bytes, copied, copies_bytes, parameter_bytes, sample_bytes, component_bytes, text_bytes}
use Rattle.laying.proofs.Grown.{text_long}

pub entry_long : (p : ℕ) (xs : List ℕ) → length (entry p xs) ≡ size p
entry_long p xs = length_entry _ _

pub header_long : (c : Content) → length (header_of c) ≡ head_size
header_long c = length_entry _ _

-- an entry more
more : (p n : ℕ) (xs r : List ℕ) → length r ≡ size p * n → length (entry p xs ++ r) ≡ size p * suc n
more p n xs r h = omega (arith, length-append (entry p xs) r, entry_long p xs, mul-suc (size p) n)

pub subframes_long : (fs : List Subframe) → length (subframe_bytes fs) ≡ size subframe_part * length fs
unfolding subframe_bytes
subframes_long [] = sym (mul-zero (size subframe_part))
subframes_long (f ∷ fs) = more subframe_part (length fs) (subframe_values f) (subframe_bytes fs) (subframes_long fs)

pub components_long : (cs : List Component) → length (component_bytes cs) ≡ size component_part * length cs
unfolding component_bytes
components_long [] = sym (mul-zero (size component_part))
components_long (c ∷ cs) = more component_part (length cs) (component_values c) (component_bytes cs) (components_long cs)

pub samples_long : (n : ℕ) (ss : List Sample) → length (sample_bytes n ss) ≡ size sample_part * length ss
unfolding sample_bytes
samples_long n [] = sym (mul-zero (size sample_part))
samples_long n (s ∷ ss) =
    more sample_part (length ss) (sample_from s n) (sample_bytes (n + length s.components) ss) (samples_long (n + length s.components) ss)

pub parameters_long : (t q : ℕ) (ps : List Parameter) → length (parameter_bytes t q ps) ≡ size parameter_part * length ps
unfolding parameter_bytes
parameters_long t q [] = sym (mul-zero (size parameter_part))
parameters_long t q (p ∷ ps) =
    more parameter_part (length ps) (parameter_from p t q) (parameter_bytes (t + length (texts p)) (q + length p.samples) ps) (parameters_long (t + length (texts p)) (q + length p.samples) ps)

pub texts_long : (ps : List Parameter) → length (text_bytes ps) ≡ text_long ps
unfolding text_bytes text_long
texts_long [] = refl
texts_long (p ∷ ps) = omega (arith, length-append (texts p) (text_bytes ps), texts_long ps)

-- pairs that are written once, and one that is written n times
pub once_long : (fs : List Subframe) → length (copies_bytes 1 fs) ≡ size subframe_part * length fs
unfolding copies_bytes
once_long [] = sym (mul-zero (size subframe_part))
once_long (f ∷ fs) = more subframe_part (length fs) (subframe_values f) (copies_bytes 1 fs) (once_long fs)

pub copied_long : (n : ℕ) (f : Subframe) → length (copied n f) ≡ size subframe_part * n
copied_long n f =
    length_flat n (λ i. entry subframe_part (subframe_values f))
    ∙ sum_same n _ (λ k. size subframe_part) (λ k h. entry_long subframe_part (subframe_values f))
    ∙ sum_const (size subframe_part) n
