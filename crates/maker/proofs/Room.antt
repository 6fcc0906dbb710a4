-- There is room for what a line writes. Assumes nothing.
use mathlib.Core.Path.{◌≡◌, ap, ◌∙◌}
use mathlib.Core.Logic.{◌⊎◌}
use mathlib.Core.List.{List, [], ◌∷◌}
use Prim.Native.Nat.{ℕ, ◌+◌, ◌*◌}
use native.Mathlib.Nat.{mul-suc}
use native.Mathlib.Numerals.{add-one}
use native.Mathlib.Omega.{arith}
use lib.ListN.{length, length-append}
use Rattle.lay.specs.Bytes.{put}
use Rattle.lay.proofs.Puts.{length_put}
use Rattle.lineforms.specs.declared.due.Form.{Form}
use Rattle.lineforms.specs.declared.due.Form.TheVariants as form
use Rattle.model.specs.Content.{no_parameter}
use Rattle.model.specs.Items.{parameter_part, sample_part, component_part}
use Rattle.model.specs.Write.{texts}
use Rattle.gather.specs.Book.{Book, grow, subframe_of, component_of, named_of}
use Rattle.stored.specs.declared.items.Starts.{Starts}
use Rattle.judge.specs.Counts.{tally_of}
use Rattle.laying.specs.Parts.{size, copied, copies_bytes, parameter_bytes, sample_bytes, component_bytes, samples_all, components_all, text_all, laid, Fits}
use Rattle.laying.proofs.Grown.{copies_more}
use Rattle.laying.proofs.Lengths.{parameters_long, samples_long, components_long, copied_long}
use Rattle.laying.proofs.Clear.{ClearAt}
use Rattle.laying.proofs.Added.{samples_added, components_added, text_added}
use Rattle.laying.proofs.Shares.{timed}
use Rattle.maker.specs.Emit.{places_of, Roomy}
use Rattle.maker.proofs.Emitting.{samples_all_lem, components_all_lem, text_clear, copies_at, Pairing}

-- one entry more
grown : (p n m : ℕ) → m ≡ n + 1 → size p * m ≡ size p * n + size p
grown p n m e = ap (λ (k : ℕ). size p * k) (e ∙ add-one n) ∙ mul-suc (size p) n

-- laying down changes no length
pub laid_long : (out : List ℕ) (a : Starts) (n : ℕ) (K : Book) → Fits (places_of a) n K (length out) → length (laid out (places_of a) n K) ≡ length out
laid_long out a n K h =
    let u = copies_bytes n K.pairs in
    let v = parameter_bytes 0 0 K.parameters in
    let w = sample_bytes 0 (samples_all K) in
    let x = component_bytes (components_all K) in
    let t1 = put out a.subframes u in
    let t2 = put t1 a.parameters v in
    let t3 = put t2 a.samples w in
    let t4 = put t3 a.components x in
    let o1 = length_put out a.subframes u (omega (arith, h.subframes, h.parameters, h.samples, h.components, h.text)) in
    let o2 = length_put t1 a.parameters v (omega (arith, o1, h.parameters, h.samples, h.components, h.text)) in
    let o3 = length_put t2 a.samples w (omega (arith, o1, o2, h.samples, h.components, h.text)) in
    let o4 = length_put t3 a.components x (omega (arith, o1, o2, o3, h.components, h.text)) in
    let o5 = length_put t4 a.text (text_all K) (omega (arith, o1, o2, o3, o4, h.text)) in
    o5 ∙ (o4 ∙ (o3 ∙ (o2 ∙ o1)))

-- room for each line's share
module _ (l : List ℕ) (K : Book) (a : Starts) (n m : ℕ) where
  record_room : (n ≡ 1) ⊎ (K.pairs ≡ []) → Fits (places_of a) n (grow form.RecordLine l K) m → Roomy form.RecordLine l (tally_of K) a n m
  record_room p g =
      omega (
        arith,
        copies_at n K.pairs p,
        ap length (copies_more n K.pairs (subframe_of l)),
        length-append (copies_bytes n K.pairs) (copied n (subframe_of l)),
        copied_long n (subframe_of l),
        g.subframes,
        g.parameters,
        g.samples,
        g.components,
        g.text,
      )

  name_room : K.opened ≡ no_parameter → Fits (places_of a) n (grow form.NameLine l K) m → Roomy form.NameLine l (tally_of K) a n m
  unfolding texts
  name_room c g =
      omega (arith, ap length (text_added form.NameLine l K c), length-append (text_all K) (texts (named_of l)), text_clear K c, g.text)

  part_room : Fits (places_of a) n (grow form.ComponentLine l K) m → Roomy form.ComponentLine l (tally_of K) a n m
  part_room g =
      omega (
        arith,
        components_long (components_all (grow form.ComponentLine l K)),
        grown component_part (tally_of K).components (length (components_all (grow form.ComponentLine l K)))
            (omega (arith, ap length (components_added form.ComponentLine l K tt), length-append (components_all K) (component_of l ∷ []), components_all_lem K)),
        g.components,
        g.text,
      )

  time_room : Fits (places_of a) n (grow form.TimeLine l K) m → Roomy form.TimeLine l (tally_of K) a n m
  time_room g =
      omega (
        arith,
        samples_long 0 (samples_all (grow form.TimeLine l K)),
        grown sample_part (tally_of K).samples (length (samples_all (grow form.TimeLine l K)))
            (omega (arith, ap length (samples_added form.TimeLine l K tt), length-append (samples_all K) (timed l K ∷ []), samples_all_lem K)),
        g.samples,
        g.components,
        g.text,
      )

  end_room : Fits (places_of a) n (grow form.ParameterEnd l K) m → Roomy form.ParameterEnd l (tally_of K) a n m
  end_room g =
      omega (
        arith,
        parameters_long 0 0 (grow form.ParameterEnd l K).parameters,
        grown parameter_part (tally_of K).parameters (length (grow form.ParameterEnd l K).parameters) (omega (arith, length-append K.parameters (K.opened ∷ []))),
        g.parameters,
        g.samples,
        g.components,
        g.text,
      )

  pub roomy : (f : Form) → ClearAt f K → Pairing f n K → Fits (places_of a) n (grow f l K) m → Roomy f l (tally_of K) a n m
  roomy form.Stray c p g = tt
  roomy form.Superframe c p g = tt
  roomy form.HeaderWord c p g = tt
  roomy form.HeaderLine c p g = tt
  roomy form.RecordWord c p g = tt
  roomy form.RecordLine c p g = record_room p g
  roomy form.NoneWord c p g = tt
  roomy form.ParameterWord c p g = tt
  roomy form.NameLine c p g = name_room c g
  roomy form.OpeningComponent c p g = part_room g
  roomy form.ComponentLine c p g = part_room g
  roomy form.TimeLine c p g = time_room g
  roomy form.SamplesEnd c p g = tt
  roomy form.SignedLine c p g = tt
  roomy form.RangeLine c p g = tt
  roomy form.SourceLine c p g = tt
  roomy form.LabelLine c p g = tt
  roomy form.SourceEnd c p g = tt
  roomy form.ParameterEnd c p g = end_room g
