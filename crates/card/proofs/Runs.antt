-- A sample's components, one after the other, where they stand in a stream. Assumes nothing.
use mathlib.Core.Path.{◌≡◌, refl, sym, ap, ap₂, ◌∙◌, subst}
use mathlib.Core.List.{List}
use Prim.Native.Nat.{ℕ, ◌+◌, ◌≤◌, ◌<◌}
use native.Mathlib.Omega.{arith}
use lib.Dec.{eqb}
use Rattle.bits.specs.Word.{field}
use Rattle.lay.proofs.Below.{sum_more}
use Rattle.stream.specs.Stream.{bits_from}
use Rattle.sample.specs.Component.{bits_of}
use Rattle.model.specs.Content.{Component, component}
use Rattle.model.specs.Forms.{sheet_limits, limits_in}
use Rattle.model.specs.Samples.{piece, place_in, holds_at}
use Rattle.model.specs.Stored.{parameters_in, first_sample_in, first_component_in, component_count_in}
use Rattle.model.specs.View.{component_at, sample_at, view}
use Rattle.model.specs.Facts.{SampleHere}
use Rattle.model.specs.Meaning.{ComponentLaw, SampleLaw}
use Rattle.model.proofs.Views.{component_at_lem}
use Rattle.rules.specs.Ruled.{subframes_of, Ruled}
use Rattle.rules.proofs.Samplings.{stored}
use Rattle.framing.proofs.Held.{place_small, holds_read}
use Rattle.framing.proofs.Listed.{listed_at, first_one, here_at, law_at}
use Rattle.carding.specs.Layout.{frame_at}
use Rattle.carding.proofs.Frames.{frame_long, frame_part}
use Rattle.card.specs.declared.spans.Run.{Run}
use Rattle.card.specs.Promise.{RunOf}

-- the first sample of a parameter, as sample j of all
pub record FirstSample (b : List ℕ) (j : ℕ) : Type 0 where
  pub here : SampleHere b j
  pub law : SampleLaw (limits_in b) (subframes_of b) (sample_at b j)

pub first_sample : {b : List ℕ} {i j : ℕ} → Ruled b → i < parameters_in b → j ≡ first_sample_in b i → FirstSample b j
first_sample {b} {i} {j} r l e =
    let m = listed_at b i 0 r l (first_one b i r l) in
    let q : j ≡ first_sample_in b i + 0 = omega (arith, e) in
    record { here = here_at b i 0 m q; law = law_at b i 0 m q }

-- the walk over sample j's components, before component k, whose place is at
pub record Along (b : List ℕ) (j first count at k : ℕ) : Type 0 where
  pub firsts : first ≡ first_component_in b j
  pub counted : count ≡ component_count_in b j
  pub inside : k ≤ count
  pub place : at ≡ place_in (subframes_of b) (sample_at b j) k
  pub ruled : Ruled b
  pub law : SampleLaw (limits_in b) (subframes_of b) (sample_at b j)

pub along_none : {b : List ℕ} {j first count : ℕ} → first ≡ first_component_in b j → count ≡ component_count_in b j → Ruled b → SampleLaw (limits_in b) (subframes_of b) (sample_at b j) → Along b j first count 0 0
unfolding place_in
along_none f n r s = record { firsts = f; counted = n; inside = omega arith; place = refl; ruled = r; law = s }

module _ {b : List ℕ} {j first count at k : ℕ} (v : Along b j first count at k) (l : k < count) where
  here : k < component_count_in b j
  here = omega (arith, v.counted)

  pub law_here : ComponentLaw (subframes_of b) (component_at b (first + k))
  law_here =
      subst (λ (n : ℕ). ComponentLaw (subframes_of b) (component_at b (n + k))) (sym v.firsts)
      ((stored b j v.ruled.subframes.within v.law).each k here)

  pub place_narrow : at ≤ sheet_limits.width
  place_narrow = omega (arith, v.place, place_small b j v.law k here, v.ruled.subframes.within.width)

  module _ {c : Run} (e : RunOf b (first + k) c) where
    given_here : c.given ≡ bits_of (piece (subframes_of b) (component (sample_at b j) k))
    given_here =
        let same : component_at b (first + k) ≡ component (sample_at b j) k = ap (λ (n : ℕ). component_at b (n + k)) v.firsts ∙ sym (component_at_lem b j k here) in
        e.given_is ∙ ap (λ (d : Component). bits_of (piece (subframes_of b) d)) same

    pub next_narrow : at + c.given ≤ sheet_limits.width
    next_narrow = omega (arith, v.place, given_here, place_small b j v.law k here, v.ruled.subframes.within.width)

    pub along_more : Along b j first count (at + c.given) (k + 1)
    unfolding place_in
    along_more =
        record {
          firsts = v.firsts;
          counted = v.counted;
          inside = omega arith;
          place = ap₂ ◌+◌ v.place given_here ∙ sym (sum_more k _);
          ruled = v.ruled;
          law = v.law;
        }

    -- its bits in the stream against its bits of n
    pub tested : (y : List ℕ) (p n : ℕ) {x w : ℕ} → x ≡ bits_from y (p + c.at) c.bits → w ≡ field n at c.bits → eqb x w ≡ holds_at (subframes_of b) (frame_at (view b) y p) (sample_at b j) n k
    tested y p n xs ws =
        let part = ap₂ (λ (a m : ℕ). bits_from y (p + a) m) e.at_is e.bits_is ∙ sym (frame_part (view b) y p (component_at b (first + k)) law_here) in
        holds_read b j v.law (frame_at (view b) y p) v.ruled (frame_long (view b) y p) k here v.firsts n refl (xs ∙ part) e.bits_is ws v.place
