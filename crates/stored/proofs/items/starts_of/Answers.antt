-- A part begins where the one before it ends, and none too high.
use Prim.Native.Nat.{ℕ}
use mathlib.Core.Path.{◌≡◌, ap}
use mathlib.Core.Bool.{true}
use native.Mathlib.Omega.{arith}
use Rattle.model.specs.Forms.{known, layout_of, limits_of}
use Rattle.stored.specs.Entry.{Few}
use Rattle.stored.specs.declared.items.Counts.{Counts}
use Rattle.stored.specs.declared.forms.HeaderShape.{HeaderShape}
use Rattle.stored.specs.declared.forms.SubframeShape.{SubframeShape}
use Rattle.stored.specs.declared.forms.ParameterShape.{ParameterShape}
use Rattle.stored.specs.declared.forms.SampleShape.{SampleShape}
use Rattle.stored.specs.declared.forms.ComponentShape.{ComponentShape}
use Rattle.stored.specs.Shapes.{header_shape, subframe_shape, parameter_shape, sample_shape, component_shape}
use Rattle.stored.proofs.Reading.{Sums, sums}
use Rattle.stored.proofs.items.starts_of.Goals as goal

-- with each shape's promise: where the parts begin, and that none is too high
module _ (f : ℕ) (v : known f ≡ true) (n : Counts) (few : Few (limits_of f) n) where
  summed : {h : HeaderShape} {s0 : SubframeShape} {s1 : ParameterShape} {s2 : SampleShape} {s3 : ComponentShape} → h ≡ header_shape (layout_of f) → s0 ≡ subframe_shape (layout_of f) → s1 ≡ parameter_shape (layout_of f) → s2 ≡ sample_shape (layout_of f) → s3 ≡ component_shape (layout_of f) → Sums (layout_of f) n h.size s0.size s1.size s2.size s3.size
  summed e e0 e1 e2 e3 =
      sums f v n few _ _ _ _ _ (ap (λ (s : HeaderShape). s.size) e) (ap (λ (s : SubframeShape). s.size) e0)
      (ap (λ (s : ParameterShape). s.size) e1) (ap (λ (s : SampleShape). s.size) e2) (ap (λ (s : ComponentShape). s.size) e3)

pub header_shape-h-requires : goal.header_shape-h-requires
header_shape-h-requires c = c.requires.f_value

pub subframe_shape-s0-requires : goal.subframe_shape-s0-requires
subframe_shape-s0-requires c = c.requires.f_value

pub parameter_shape-s1-requires : goal.parameter_shape-s1-requires
parameter_shape-s1-requires c = c.requires.f_value

pub sample_shape-s2-requires : goal.sample_shape-s2-requires
sample_shape-s2-requires c = c.requires.f_value

pub component_shape-s3-requires : goal.component_shape-s3-requires
component_shape-s3-requires c = c.requires.f_value

pub overflow_mul-parameters : goal.overflow_mul-parameters
overflow_mul-parameters c =
    omega (arith, (summed _ c.requires.f_value _ c.requires.few c.header_shape-h.ensures c.subframe_shape-s0.ensures c.parameter_shape-s1.ensures c.sample_shape-s2.ensures c.component_shape-s3.ensures).small)

pub overflow_add-parameters : goal.overflow_add-parameters
overflow_add-parameters c =
    omega (arith, (summed _ c.requires.f_value _ c.requires.few c.header_shape-h.ensures c.subframe_shape-s0.ensures c.parameter_shape-s1.ensures c.sample_shape-s2.ensures c.component_shape-s3.ensures).small)

pub overflow_mul-samples : goal.overflow_mul-samples
overflow_mul-samples c =
    omega (arith, (summed _ c.requires.f_value _ c.requires.few c.header_shape-h.ensures c.subframe_shape-s0.ensures c.parameter_shape-s1.ensures c.sample_shape-s2.ensures c.component_shape-s3.ensures).small)

pub overflow_add-samples : goal.overflow_add-samples
overflow_add-samples c =
    omega (arith, (summed _ c.requires.f_value _ c.requires.few c.header_shape-h.ensures c.subframe_shape-s0.ensures c.parameter_shape-s1.ensures c.sample_shape-s2.ensures c.component_shape-s3.ensures).small)

pub overflow_mul-components : goal.overflow_mul-components
overflow_mul-components c =
    omega (arith, (summed _ c.requires.f_value _ c.requires.few c.header_shape-h.ensures c.subframe_shape-s0.ensures c.parameter_shape-s1.ensures c.sample_shape-s2.ensures c.component_shape-s3.ensures).small)

pub overflow_add-components : goal.overflow_add-components
overflow_add-components c =
    omega (arith, (summed _ c.requires.f_value _ c.requires.few c.header_shape-h.ensures c.subframe_shape-s0.ensures c.parameter_shape-s1.ensures c.sample_shape-s2.ensures c.component_shape-s3.ensures).small)

pub overflow_mul-text : goal.overflow_mul-text
overflow_mul-text c =
    omega (arith, (summed _ c.requires.f_value _ c.requires.few c.header_shape-h.ensures c.subframe_shape-s0.ensures c.parameter_shape-s1.ensures c.sample_shape-s2.ensures c.component_shape-s3.ensures).small)

pub overflow_add-text : goal.overflow_add-text
overflow_add-text c =
    omega (arith, (summed _ c.requires.f_value _ c.requires.few c.header_shape-h.ensures c.subframe_shape-s0.ensures c.parameter_shape-s1.ensures c.sample_shape-s2.ensures c.component_shape-s3.ensures).small)

pub returns : goal.returns
returns c =
    let h = summed _ c.requires.f_value _ c.requires.few c.header_shape-h.ensures c.subframe_shape-s0.ensures c.parameter_shape-s1.ensures c.sample_shape-s2.ensures c.component_shape-s3.ensures in
    record {
      subframes_is = h.sum0;
      parameters_is = h.sum1;
      samples_is = h.sum2;
      components_is = h.sum3;
      text_is = h.sum4;
      text_below = h.small;
    }
