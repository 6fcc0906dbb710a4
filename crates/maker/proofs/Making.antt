-- The counts of an accepted sheet are the numbers of its table. Assumes nothing.
use mathlib.Core.Path.{◌≡◌, refl, sym, ap, ap₂, ◌∙◌}
use mathlib.Core.Bool.{Bool, cond}
use mathlib.Core.List.{List, [], ◌∷◌, ◌++◌}
use Prim.Native.Nat.{ℕ, ◌+◌, ◌*◌, ◌≤◌, ◌<◌}
use native.Mathlib.Omega.{arith}
use lib.ListN.{length, drop, get_or, length-append}
use Rattle.lay.specs.Below.{sum}
use Rattle.lay.specs.Bytes.{put}
use Rattle.lay.specs.Layout.{many_parts, start_by, end_by, offset_by}
use Rattle.model.specs.Content.{Parameter, no_parameter, parameters, subframes, first_component}
use Rattle.model.specs.Forms.{newest}
use Rattle.model.specs.Items.{subframe_part, parameter_part, sample_part, component_part, parts, parts_of_all}
use Rattle.model.specs.Write.{texts, text_start, samples, components, many, total_by, head_values, write}
use Rattle.model.proofs.Rows.{known_sound, known_newest}
use Rattle.stored.specs.Entry.{counts_by, StartsBy}
use Rattle.stored.specs.declared.items.Counts.{Counts}
use Rattle.stored.specs.declared.items.Starts.{Starts}
use Rattle.gather.specs.Book.{Book, content_of, spread, samples_of, components_of, all_components_of}
use Rattle.gather.proofs.Rows.{sum_front}
use Rattle.gather.proofs.Counts.{samples_counted, components_counted}
use Rattle.judge.specs.Counts.{tally_of}
use Rattle.laying.specs.Parts.{new_layout, size, head_size, header, header_of, copies_bytes, copies, parameter_bytes, sample_bytes, component_bytes, samples_all, components_all, text_all, laid, Fits}
use Rattle.laying.proofs.Copied.{spread_copied}
use Rattle.laying.proofs.Grown.{text_long}
use Rattle.laying.proofs.Lengths.{header_long, subframes_long, parameters_long, samples_long, components_long}
use Rattle.laying.proofs.Written.{samples_listed}
use Rattle.laying.proofs.Whole.{Placed, gathered, table_laid}
use Rattle.maker.specs.Entries.{counts_of, head_by}
use Rattle.maker.specs.Emit.{places_of}
use Rattle.maker.proofs.Emitting.{samples_all_lem, components_all_lem, text_long_lem, text_clear}

texts_sum : (ps : List Parameter) → sum (length ps) (λ k. length (texts (get_or ps k no_parameter))) ≡ text_long ps
unfolding text_long
texts_sum [] = refl
texts_sum (p ∷ ps) = sum_front (length ps) (λ k. length (texts (get_or (p ∷ ps) k no_parameter))) ∙ ap (λ (n : ℕ). length (texts p) + n) (texts_sum ps)

-- each part begins where the one before it ends
record Begins (n : Counts) (a : Starts) : Type 0 where
  subframes : a.subframes ≡ head_size
  parameters : a.parameters ≡ a.subframes + size subframe_part * n.subframes
  samples : a.samples ≡ a.parameters + size parameter_part * n.parameters
  components : a.components ≡ a.samples + size sample_part * n.samples
  text : a.text ≡ a.components + size component_part * n.components

begins : (n : Counts) (a : Starts) → StartsBy new_layout n a → Begins n a
unfolding start_by
begins n a s =
    let t : end_by new_layout (counts_by n) ≡ start_by new_layout (counts_by n) parts = ap (start_by new_layout (counts_by n)) (known_sound newest known_newest).many in
    record {
      subframes = omega (arith, s.subframes_is);
      parameters = omega (arith, s.subframes_is, s.parameters_is);
      samples = omega (arith, s.parameters_is, s.samples_is);
      components = omega (arith, s.samples_is, s.components_is);
      text = omega (arith, s.components_is, s.text_is);
    }

-- the header tells where each part begins
told_offset : (n : ℕ → ℕ) (p : ℕ) → p < parts_of_all → offset_by new_layout n p ≡ start_by new_layout n p
unfolding offset_by
told_offset n p l = ap (λ (t : Bool). cond t (start_by new_layout n p) 0) ((known_sound newest known_newest).told p l)

-- a sheet that ended: no parameter and no sample is open, and each subframe has its pair
module _ (K : Book) (clear : K.opened ≡ no_parameter) (none : K.parts ≡ []) (long : length (spread K.declared K.pairs) ≡ K.declared) (a : Starts) (s : StartsBy new_layout (counts_of (tally_of K)) a) where
  copies_long : length (copies_bytes (copies (length K.pairs) K.declared) K.pairs) ≡ size subframe_part * K.declared
  copies_long = sym (ap length (spread_copied K.declared K.pairs)) ∙ (subframes_long (spread K.declared K.pairs) ∙ ap (λ (n : ℕ). size subframe_part * n) long)

  samples_here : length (sample_bytes 0 (samples_all K)) ≡ size sample_part * (tally_of K).samples
  samples_here = samples_long 0 (samples_all K) ∙ ap (λ (n : ℕ). size sample_part * n) (samples_all_lem K)

  components_here : length (component_bytes (components_all K)) ≡ size component_part * (tally_of K).components
  components_here = components_long (components_all K) ∙ ap (λ (n : ℕ). size component_part * n) (components_all_lem K)

  placed : Placed (places_of a) (copies (length K.pairs) K.declared) K
  placed =
      let b = begins (counts_of (tally_of K)) a s in
      record {
        subframes = b.subframes;
        parameters = omega (arith, b.parameters, copies_long);
        samples = omega (arith, b.samples, parameters_long 0 0 K.parameters);
        components = omega (arith, b.components, samples_here);
        text = omega (arith, b.text, components_here);
      }

  pub write_long : length (write newest (content_of K)) ≡ a.text + (tally_of K).text
  write_long =
      let u = copies_bytes (copies (length K.pairs) K.declared) K.pairs in
      let v = parameter_bytes 0 0 K.parameters in
      let w = sample_bytes 0 (samples_all K) in
      let x = component_bytes (components_all K) in
      let y = text_all K in
      let p = placed in
      omega (
        arith,
        ap length (gathered K clear none),
        length-append (header_of (content_of K)) (u ++ (v ++ (w ++ (x ++ y)))),
        length-append u (v ++ (w ++ (x ++ y))),
        length-append v (w ++ (x ++ y)),
        length-append w (x ++ y),
        length-append x y,
        header_long (content_of K),
        p.subframes,
        p.parameters,
        p.samples,
        p.components,
        p.text,
        text_clear K clear,
      )

  pub fits_all : (m : ℕ) → a.text + (tally_of K).text ≤ m → Fits (places_of a) (copies (length K.pairs) K.declared) K m
  fits_all m h =
      let p = placed in
      record {
        subframes = omega (arith, p.parameters);
        parameters = omega (arith, p.samples);
        samples = omega (arith, p.components);
        components = omega (arith, p.text);
        text = omega (arith, text_clear K clear);
      }

  -- the header is the first part's beginning long
  pub head_first : head_size ≤ a.text
  head_first = let b = begins (counts_of (tally_of K)) a s in omega arith

  samples_same : samples (content_of K) ≡ (tally_of K).samples
  samples_same = samples_counted (content_of K) ∙ (let e : samples_of K.parameters ≡ samples_of K.parameters + length K.opened.samples = omega (arith, ap (λ (p : Parameter). length p.samples) clear) in e)

  components_same : components (content_of K) ≡ (tally_of K).components
  unfolding components_of
  components_same =
      let e : all_components_of K.parameters ≡ all_components_of K.parameters + components_of K.opened.samples + length K.parts = omega (arith, ap (λ (p : Parameter). components_of p.samples) clear, ap length none) in
      ap (first_component (content_of K)) (samples_listed (content_of K)) ∙ (components_counted (content_of K) ∙ e)

  text_same : text_start (content_of K) (parameters (content_of K)) ≡ (tally_of K).text
  unfolding text_start
  text_same = texts_sum K.parameters ∙ sym (text_long_lem K.parameters)

  -- so the parts of its writing begin where the code has them begin
  start_same : (p : ℕ) → start_by new_layout (many (content_of K)) p ≡ start_by new_layout (counts_by (counts_of (tally_of K))) p
  start_same p =
      let l : subframes (content_of K) ∷ parameters (content_of K) ∷ samples (content_of K) ∷ components (content_of K) ∷ [] ≡ K.declared ∷ parameters (content_of K) ∷ (tally_of K).samples ∷ (tally_of K).components ∷ [] = cc (long, samples_same, components_same) in
      ap (λ (l : List ℕ). start_by new_layout (λ q. get_or l q 0) p) l

  offset_same : (p : ℕ) → p < parts_of_all → offset_by new_layout (many (content_of K)) p ≡ start_by new_layout (counts_by (counts_of (tally_of K))) p
  offset_same p l = told_offset (many (content_of K)) p l ∙ start_same p

  header_same : head_values new_layout newest (content_of K) ≡ head_by (counts_of (tally_of K)) a (a.text + (tally_of K).text) K.sequential
  unfolding head_values head_by total_by
  header_same =
      let e = start_same (many_parts new_layout) ∙ sym s.text_is in
      let t = ap₂ ◌+◌ e text_same in
      let o0 = offset_same subframe_part (omega arith) ∙ sym s.subframes_is in
      let o1 = offset_same parameter_part (omega arith) ∙ sym s.parameters_is in
      let o2 = offset_same sample_part (omega arith) ∙ sym s.samples_is in
      let o3 = offset_same component_part (omega arith) ∙ sym s.components_is in
      cc (long, samples_same, components_same)

  -- the walk's bytes and the header are the table
  pub table_made : (out one two : List ℕ) → a.text + (tally_of K).text ≤ length out
      → one ≡ laid out (places_of a) (copies (length K.pairs) K.declared) K
      → two ≡ put one 0 (header (head_by (counts_of (tally_of K)) a (a.text + (tally_of K).text) K.sequential))
      → two ≡ write newest (content_of K) ++ drop (length (write newest (content_of K))) out
  table_made out one two h p q =
      q
      ∙ (ap₂ (λ (t : List ℕ) (xs : List ℕ). put t 0 (header xs)) p (sym header_same)
      ∙ table_laid K clear none out (places_of a) placed (fits_all (length out) h).text)
