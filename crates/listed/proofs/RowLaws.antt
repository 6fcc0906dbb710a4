-- The rows of a parameter by what its table stores. Assumes nothing.
use mathlib.Core.Path.{◌≡◌, refl, sym, ap, subst, ◌∙◌}
use mathlib.Core.List.{List}
use Prim.Native.Nat.{ℕ, ◌+◌, ◌*◌, ◌≤◌, ◌<◌}
use native.Mathlib.Omega.{arith}
use native.Mathlib.Numerals.{add-one}
use mathlib.Core.Bool.{Bool, true, false, cond}
use native.Mathlib.Nat.{lt_of_lt_of_le, mul-suc, mul-le-mul_left}
use lib.IntN.{ℤ, pos}
use lib.Pow.{pow_mono}
use mir.Syntax.{w64}
use mir.Val.{SFits, to_z, of_z}
use mir.ValLaws.{to_z-of_z}
use Rattle.bits.specs.Sign.{signed}
use Rattle.bits.proofs.Signs.{signed_mag}
use lib.ListN.{length, length-append}
use Rattle.io.specs.Counts.{IsPrefixLen}
use Rattle.lay.specs.Below.{flat}
use Rattle.lay.specs.Bytes.{put}
use Rattle.lay.proofs.Puts.{length_put, put_none}
use Rattle.model.specs.Forms.{sheet_limits}
use Rattle.model.specs.Content.{Parameter, Sample, parameter}
use Rattle.model.specs.Samples.{width_of}
use Rattle.model.specs.Stored.{parameters_in, sample_count_in, first_sample_in, name_in}
use Rattle.model.specs.View.{view, parameter_at, sample_at}
use Rattle.model.proofs.Views.{parameter_view, samples_at, samples_are}
use Rattle.rules.specs.Ruled.{Ruled, subframes_of}
use Rattle.framing.proofs.Answered.{raw_below}
use Rattle.framing.proofs.Listed.{listed_at}
use Rattle.model.proofs.Pieces.{width_some}
use Rattle.framing.specs.Reading.{raw_of, width_is, value_of, copies_agree, sample_read}
use Rattle.framing.specs.declared.read.Reading.{Reading}
use Rattle.framing.specs.declared.read.Reading.TheVariants as reading
use Rattle.listed.specs.Lines.{row_text}
use Rattle.listed.specs.Listing.{sample_row, row_most}
use Rattle.listed.proofs.DecimalLaws.{decimal_short}
use Rattle.listed.proofs.LineLaws.{Step, then_step, value_short, front_counts}

-- ---- a row's length

row_short : (name : List ℕ) (s w r : ℕ) (v : ℤ) → length (row_text name s w r v) ≤ length name + 86
unfolding row_text
row_short name s w r v = simp length-append (omega (arith, value_short v, decimal_short s, decimal_short w, decimal_short r))

-- the first j rows of parameter i are there, none longer than each, and end at at
pub record Rows (b : List ℕ) (i : ℕ) (row : ℕ → List ℕ) (each : ℕ) (out₀ out : List ℕ) (at j : ℕ) : Type 0 where
  pub few : j ≤ sample_count_in b i
  pub step : Step out₀ 0 (flat j row) at out
  pub most : at ≤ each * j
  pub long : length out ≡ length out₀

-- ---- what a reading holds

abbrev pub raw_in : Reading → ℕ
raw_in (reading.Sample r w v) = r
raw_in (reading.OverlapDiffers r w v) = r

abbrev pub width_in : Reading → ℕ
width_in (reading.Sample r w v) = w
width_in (reading.OverlapDiffers r w v) = w

abbrev pub value_in : Reading → ℤ
value_in (reading.Sample r w v) = v
value_in (reading.OverlapDiffers r w v) = v

-- of either of two readings
either : {A : Type 0} {a : A} (g : Reading → A) (t : Bool) {x y : Reading} → g x ≡ a → g y ≡ a → g (cond t x y) ≡ a
either g true p q = p
either g false p q = q

-- ---- what a table stores of parameter i

module _ (b : List ℕ) (h : Ruled b) (i : ℕ) (l : i < parameters_in b) where
  pub name_is : (parameter (view b) i).name ≡ name_in b i
  unfolding parameter_at
  name_is = ap (λ (p : Parameter). p.name) (parameter_view b i l)

  pub name_short : length (name_in b i) ≤ sheet_limits.text
  unfolding parameter_at
  name_short = omega (arith, (h.parameters.each i l).name.short, h.subframes.within.text)

  pub count_is : length (parameter (view b) i).samples ≡ sample_count_in b i
  count_is = samples_are b i l

  pub count_short : sample_count_in b i ≤ sheet_limits.samples_each
  count_short = let k = (h.parameters.each i l).few in omega (arith, k, h.subframes.within.samples_each, samples_at b i)

  pub row_most_lem : (f : List ℕ) (j : ℕ) → length (sample_row (view b) f i j) ≤ row_most
  unfolding sample_row
  row_most_lem f j = omega (arith, row_short (parameter (view b) i).name (j + 1) (width_is (view b) i j) (raw_of (view b) f i j) (value_of (view b) f i j), ap length name_is, name_short)

  -- ---- what is read of a listed sample

  module _ (f : List ℕ) (j : ℕ) where
    raw_read : raw_in (sample_read (view b) f i j) ≡ raw_of (view b) f i j
    unfolding sample_read
    raw_read = either raw_in (copies_agree (view b) f i j) refl refl

    width_read : width_in (sample_read (view b) f i j) ≡ width_is (view b) i j
    unfolding sample_read
    width_read = either width_in (copies_agree (view b) f i j) refl refl

    value_read : value_in (sample_read (view b) f i j) ≡ value_of (view b) f i j
    unfolding sample_read
    value_read = either value_in (copies_agree (view b) f i j) refl refl

  -- ---- a listed sample's value fits the machine's number

  module _ (f : List ℕ) (j : ℕ) (m : j < sample_count_in b i) where
    width_most : width_is (view b) i j ≤ sheet_limits.width
    unfolding width_is
    width_most = let k = listed_at b i j h l m in subst (λ (s : Sample). width_of (subframes_of b) s ≤ sheet_limits.width) (sym k.is) (omega (arith, k.law.narrow, h.subframes.within.width))

    width_least : 1 ≤ width_is (view b) i j
    unfolding width_is
    width_least =
        let k = listed_at b i j h l m in
        subst (λ (s : Sample). 1 ≤ width_of (subframes_of b) s) (sym k.is) (width_some (subframes_of b) (sample_at b (first_sample_in b i + j)) k.law.each k.law.some)

    value_fits : SFits w64 (value_of (view b) f i j)
    unfolding value_of
    value_fits = go (parameter (view b) i).signed
      where
        go : (t : Bool) → SFits w64 (cond t (signed (width_is (view b) i j) (raw_of (view b) f i j)) (pos (raw_of (view b) f i j)))
        go true = record { sfits = lt_of_lt_of_le (signed_mag (width_is (view b) i j) (raw_of (view b) f i j) width_least (raw_below (view b) f i j)) (pow_mono {j = 63} (omega (arith, width_most))) }
        go false = record { sfits = lt_of_lt_of_le (raw_below (view b) f i j) (pow_mono {j = 63} (omega (arith, width_most))) }

    pub value_back : (q : Reading) (v : ℤ) → q ≡ sample_read (view b) f i j → v ≡ value_in q → to_z w64 (of_z w64 v) ≡ v
    value_back q v e h = to_z-of_z w64 v (subst (SFits w64) (sym (h ∙ ap value_in e ∙ value_read f j)) value_fits)

  -- ---- a sample that is read is a row, whether its copies agree or not

  pub read_row : (f out after : List ℕ) (o e j r w : ℕ) (v : ℤ) (q : Reading) (name : List ℕ) → q ≡ sample_read (view b) f i j → (r ≡ raw_in q) × (w ≡ width_in q) × (v ≡ value_in q) → name ≡ name_in b i → Step out o (row_text name (j + 1) w r v) e after → Step out o (sample_row (view b) f i j) e after
  unfolding sample_row
  read_row f out after o e j r w v q name x h n s =
      let row : row_text name (j + 1) w r v ≡ row_text (parameter (view b) i).name (j + 1) (width_is (view b) i j) (raw_of (view b) f i j) (value_of (view b) f i j) =
      λ z. row_text ((n ∙ sym name_is) z) (j + 1) ((h.1 ∙ ap width_in x ∙ width_read f j) z) ((h.0 ∙ ap raw_in x ∙ raw_read f j) z) ((h.2 ∙ ap value_in x ∙ value_read f j) z) in
      subst (λ (x : List ℕ). Step out o x e after) row s

  -- ---- row after row

  module _ (row : ℕ → List ℕ) (each : ℕ) where
    pub rows_start : (out : List ℕ) → Rows b i row each out out 0 0
    rows_start out = record { few = omega arith; step = (refl, sym (put_none out 0)); most = omega arith; long = refl }

    module _ (short : (j : ℕ) → length (row j) ≤ each) (out₀ out : List ℕ) (at j : ℕ) (w : Rows b i row each out₀ out at j) (room : each * sheet_limits.samples_each ≤ length out₀) where
      one_more : each * (j + 1) ≡ each * j + each
      one_more = rw (add-one j) (mul-suc each j)

      within : j < sample_count_in b i → each * j + each ≤ length out₀
      within m =
          let k : each * (j + 1) ≤ each * sheet_limits.samples_each = mul-le-mul_left each (omega (arith, count_short, m)) in
          omega (arith, k, room, one_more)

      pub rows_room : j < sample_count_in b i → at + each ≤ length out
      rows_room m = omega (arith, w.most, w.long, within m)

      pub rows_next : (after : List ℕ) (e : ℕ) → j < sample_count_in b i → Step out at (row j) e after → Rows b i row each out₀ after e (j + 1)
      rows_next after e m s =
          let k = short j in
          record {
            few = omega (arith, m);
            step = subst (λ (n : ℕ). Step out₀ 0 (flat n row) e after) (sym (add-one j)) (then_step out₀ out after (flat j row) (row j) 0 at e w.step s (omega (arith, w.most, k, within m)));
            most = omega (arith, s.0, w.most, k, one_more);
            long = ap length s.1 ∙ (length_put out at (row j) (omega (arith, rows_room m, k)) ∙ w.long);
          }

      -- all of them
      pub rows_end : sample_count_in b i ≤ j → ((at ≡ length (flat (length (parameter (view b) i).samples) row)) × (out ≡ put out₀ 0 (flat (length (parameter (view b) i).samples) row))) × IsPrefixLen at out
      rows_end m =
          let n : length (parameter (view b) i).samples ≡ j = omega (arith, count_is, m, w.few) in
          let s = subst (λ (k : ℕ). Step out₀ 0 (flat k row) at out) (sym n) w.step in
          let r : at ≡ length (flat (length (parameter (view b) i).samples) row) = omega (arith, s.0) in
          let k : each * j ≤ each * sheet_limits.samples_each = mul-le-mul_left each (omega (arith, count_short, w.few)) in
          ((r, s.1), front_counts out₀ out (flat (length (parameter (view b) i).samples) row) at r s.1 (omega (arith, r, w.most, k, room)))
