-- All parts laid down and the header before them are the table, and later bytes stay. Assumes nothing.
use mathlib.Core.Path.{◌≡◌, sym, ap, ap₂, ◌∙◌}
use mathlib.Core.List.{List, [], ◌++◌, append_assoc}
use Prim.Native.Nat.{ℕ, ◌+◌, ◌≤◌}
use native.Mathlib.Omega.{arith}
use lib.ListN.{length, drop, length-append}
use Rattle.lay.specs.Bytes.{put}
use Rattle.lay.proofs.Puts.{put_put, put_front, put_comm}
use Rattle.model.specs.Content.{Parameter, Component, no_parameter}
use Rattle.model.specs.Write.{texts, write}
use Rattle.model.specs.Forms.{newest}
use Rattle.gather.specs.Book.{Book, content_of}
use Rattle.laying.specs.Parts.{head_size, header_of, copies_bytes, copies, parameter_bytes, sample_bytes, component_bytes, text_bytes, samples_in, components_in, samples_all, components_all, text_all, Places, laid}
use Rattle.laying.proofs.Fronts.{nil_end}
use Rattle.laying.proofs.Lengths.{header_long}
use Rattle.laying.proofs.Written.{written}
use Rattle.laying.proofs.Copied.{spread_copied}
use Rattle.laying.proofs.Laid.{five}

-- parts with nothing between are one
module _ (out : List ℕ) (a b c d e : ℕ) (u v w x y : List ℕ) (p1 : b ≡ a + length u) (p2 : c ≡ b + length v) (p3 : d ≡ c + length w) (p4 : e ≡ d + length x) (h : e + length y ≤ length out) where
  five_one : five out a u b v c w d x e y ≡ put out a (u ++ (v ++ (w ++ (x ++ y))))
  five_one =
      let n2 = length-append u v in
      let n3 = length-append (u ++ v) w in
      let n4 = length-append ((u ++ v) ++ w) x in
      let s2 = put_put out a u v b p1 (omega arith) in
      let s3 = ap (λ (t : List ℕ). put t c w) s2 ∙ put_put out a (u ++ v) w c (omega arith) (omega arith) in
      let s4 = ap (λ (t : List ℕ). put t d x) s3 ∙ put_put out a ((u ++ v) ++ w) x d (omega arith) (omega arith) in
      let s5 = ap (λ (t : List ℕ). put t e y) s4 ∙ put_put out a (((u ++ v) ++ w) ++ x) y e (omega arith) (omega arith) in
      s5 ∙ ap (put out a) (append_assoc ((u ++ v) ++ w) x y ∙ append_assoc (u ++ v) w (x ++ y) ∙ append_assoc u v (w ++ (x ++ y)))

-- and a header before them
headed : (out : List ℕ) (a : ℕ) (z y : List ℕ) → length z ≡ a → a + length y ≤ length out → put (put out a y) 0 z ≡ (z ++ y) ++ drop (length (z ++ y)) out
headed out a z y e h =
    put_comm out 0 z a y (omega arith) h ∙ (put_put out 0 z y a (omega arith) h ∙ put_front out (z ++ y))

-- the places that follow from the lists
pub record Placed (a : Places) (n : ℕ) (K : Book) : Type 0 where
  pub subframes : a.subframes ≡ head_size
  pub parameters : a.parameters ≡ a.subframes + length (copies_bytes n K.pairs)
  pub samples : a.samples ≡ a.parameters + length (parameter_bytes 0 0 K.parameters)
  pub components : a.components ≡ a.samples + length (sample_bytes 0 (samples_all K))
  pub text : a.text ≡ a.components + length (component_bytes (components_all K))

module _ (K : Book) (clear : K.opened ≡ no_parameter) (none : K.parts ≡ []) where
  all_samples_lem : samples_in K.parameters ≡ samples_all K
  all_samples_lem = sym (ap (λ (p : Parameter). samples_in K.parameters ++ p.samples) clear ∙ nil_end (samples_in K.parameters))

  all_components_lem : components_in (samples_in K.parameters) ≡ components_all K
  all_components_lem =
      ap components_in all_samples_lem
      ∙ sym (ap (λ (cs : List Component). components_in (samples_all K) ++ cs) none ∙ nil_end (components_in (samples_all K)))

  all_text : text_bytes K.parameters ≡ text_all K
  unfolding texts
  all_text = sym (ap (λ (p : Parameter). text_bytes K.parameters ++ texts p) clear ∙ nil_end (text_bytes K.parameters))

  -- the table's writing by what was gathered
  pub gathered : write newest (content_of K) ≡ header_of (content_of K) ++ (copies_bytes (copies (length K.pairs) K.declared) K.pairs ++ (parameter_bytes 0 0 K.parameters ++ (sample_bytes 0 (samples_all K) ++ (component_bytes (components_all K) ++ text_all K))))
  gathered =
      written (content_of K)
      ∙ ap (λ (l : List ℕ). header_of (content_of K) ++ l)
      (ap₂ ◌++◌ (spread_copied K.declared K.pairs)
      (ap (λ (l : List ℕ). parameter_bytes 0 0 K.parameters ++ l)
      (ap₂ ◌++◌ (ap (sample_bytes 0) all_samples_lem) (ap₂ ◌++◌ (ap component_bytes all_components_lem) all_text))))

  pub table_laid : (out : List ℕ) (a : Places) → Placed a (copies (length K.pairs) K.declared) K → a.text + length (text_all K) ≤ length out
      → put (laid out a (copies (length K.pairs) K.declared) K) 0 (header_of (content_of K)) ≡ write newest (content_of K) ++ drop (length (write newest (content_of K))) out
  table_laid out a q h =
      let n = copies (length K.pairs) K.declared in
      let u = copies_bytes n K.pairs in
      let v = parameter_bytes 0 0 K.parameters in
      let w = sample_bytes 0 (samples_all K) in
      let x = component_bytes (components_all K) in
      let y = text_all K in
      let z = header_of (content_of K) in
      let m1 = length-append x y in
      let m2 = length-append w (x ++ y) in
      let m3 = length-append v (w ++ (x ++ y)) in
      let m4 = length-append u (v ++ (w ++ (x ++ y))) in
      ap (λ (t : List ℕ). put t 0 z) (five_one out a.subframes a.parameters a.samples a.components a.text u v w x y q.parameters q.samples q.components q.text h)
      ∙ (headed out a.subframes z (u ++ (v ++ (w ++ (x ++ y)))) (header_long (content_of K) ∙ sym q.subframes) (omega (arith, q.parameters, q.samples, q.components, q.text))
      ∙ sym (ap (λ (t : List ℕ). t ++ drop (length t) out) gathered))
