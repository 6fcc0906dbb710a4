-- The listed sample's components are joined; the sign is taken at its own top bit.
use mathlib.Core.Path.{◌≡◌, sym, ap, ap₂, ◌∙◌}
use mathlib.Core.Bool.{Bool, true, false, cond}
use Prim.Native.Nat.{ℕ, ◌+◌}
use native.Mathlib.Nat.{lt_of_lt_of_le}
use native.Mathlib.Omega.{arith}
use borrow.Author.Rules.{sfits_of}
use lib.Dec.{lit≤}
use lib.IntN.{ℤ, pos}
use mir.Facts.{to_z_pos, to_z-of_z}
use mir.Syntax.{w64}
use mir.Val.{SFits}
use Rattle.bits.specs.Sign.{signed}
use Rattle.model.specs.Samples.{holds}
use Rattle.model.specs.View.{sample_at, signed_in, view}
use Rattle.stored.proofs.Flagged.{signed_flag}
use Rattle.framing.specs.declared.read.Reading.{Reading}
use Rattle.framing.specs.declared.read.Reading.TheVariants.{Sample, OverlapDiffers}
use Rattle.framing.specs.Reading.{copies_agree, sample_read}
use Rattle.framing.proofs.Listed.{listed_at, here_at, law_at, JoinedOf, joined_read, raw_32, value_signed, value_plain}
use Rattle.frame.proofs.read.sample_in.Goals.{After-agrees_at-agrees, After-joined_at-h}
use Rattle.frame.proofs.read.sample_in.Goals as goal

-- a reading of equal parts
same_reading : {s t : Bool} {a b w v : ℕ} {x y : ℤ} → s ≡ t → a ≡ b → w ≡ v → x ≡ y → ◌≡◌ {A = Reading} (cond s (Sample a w x) (OverlapDiffers a w x)) (cond t (Sample b v y) (OverlapDiffers b v y))
same_reading {s} {t} {a} {b} {w} {v} {x} {y} e p q r = λ i. cond (e i) (Sample (p i) (q i) (r i)) (OverlapDiffers (p i) (q i) (r i))

pub overflow_add-e : goal.overflow_add-e
overflow_add-e c =
    omega (arith, c.parameter_at-e.ensures, c.requires.j_bound)

pub joined_at-h-requires : goal.joined_at-h-requires
joined_at-h-requires c =
    let t = c.args.f.now.based.now.ruled.declared.table.bytes.now in
    let m = listed_at t c.args.i c.args.j c.args.f.now.based.now.ruled.ruled c.requires.i_bound c.requires.j_bound in
    let q = ap (λ (f : ℕ). f + c.args.j) c.parameter_at-e.ensures.first_is in
    record { sample_here = here_at t _ _ m q; sample_law = law_at t _ _ m q }

-- what is joined is the listed sample's
read : (c : After-joined_at-h) → JoinedOf c.args.f.now.based.now.ruled.declared.table.bytes.now c.args.f.now.words.now c.args.i c.args.j c.joined_at-h.result.joined
read c =
    let t = c.args.f.now.based.now.ruled.declared.table.bytes.now in
    let m = listed_at t c.args.i c.args.j c.args.f.now.based.now.ruled.ruled c.requires.i_bound c.requires.j_bound in
    let q = ap (λ (f : ℕ). f + c.args.j) c.parameter_at-e.ensures.first_is in
    joined_read t _ _ m q _ _ c.joined_at-h.ensures.joins

pub overflow_add-e-2 : goal.overflow_add-e-2
overflow_add-e-2 c = omega (arith, c.parameter_at-e.ensures, c.requires.j_bound)

pub agrees_at-agrees-requires : goal.agrees_at-agrees-requires
agrees_at-agrees-requires c =
    let t = c.args.f.now.based.now.ruled.declared.table.bytes.now in
    let m = listed_at t c.args.i c.args.j c.args.f.now.based.now.ruled.ruled c.requires.i_bound c.requires.j_bound in
    let q = ap (λ (f : ℕ). f + c.args.j) c.parameter_at-e.ensures.first_is in
    record { sample_here = here_at t _ _ m q; sample_law = law_at t _ _ m q; raw_value = c.joined_at-h.ensures.joins.raw_is; laps_value = c.joined_at-h.ensures.laps_value }

-- whether its copies agree
agreed : (c : After-agrees_at-agrees) → c.agrees_at-agrees.result ≡ copies_agree (view c.args.f.now.based.now.ruled.declared.table.bytes.now) c.args.f.now.words.now c.args.i c.args.j
unfolding copies_agree
agreed c =
    let t = c.args.f.now.based.now.ruled.declared.table.bytes.now in
    let m = listed_at t c.args.i c.args.j c.args.f.now.based.now.ruled.ruled c.requires.i_bound c.requires.j_bound in
    let q = ap (λ (f : ℕ). f + c.args.j) c.parameter_at-e.ensures.first_is in
    let r = read (goal.at.After-agrees_at-agrees c).After-joined_at-h in
    c.agrees_at-agrees.ensures
    ∙ ap₂ (holds (view t).subframes c.args.f.now.words.now) (ap (sample_at t) q ∙ sym m.is) r.raw

pub sign-value-requires : goal.sign-value-requires
sign-value-requires c = let r = read (goal.at.sign-value-requires c).After-joined_at-h in (r.some, omega (arith, r.narrow), r.below)

pub overflow_cast-raw : goal.overflow_cast-raw
overflow_cast-raw c = let r = read (goal.at.overflow_cast-raw c).After-joined_at-h in record { fits = raw_32 r.below r.narrow }

pub returns-then-has_signed : goal.returns-then-has_signed
unfolding sample_read
returns-then-has_signed c =
    let r = read (goal.at.returns-then-has_signed c).After-joined_at-h in
    let e = c.parameter_at-e.ensures in
    let g : signed_in c.args.f.now.based.now.ruled.declared.table.bytes.now c.args.i ≡ true = sym (signed_flag _ _ e.flags_is c.has_signed.ensures) ∙ c.if-has_signed.true in
    let z : SFits w64 c.sign-value.result = sfits_of c.sign-value.type_inv in
    c.reading_of.ensures
    ∙ same_reading (agreed (goal.at.returns-then-has_signed c).After-agrees_at-agrees) r.raw r.wide
    (to_z-of_z z ∙ c.sign-value.ensures ∙ ap₂ signed r.wide r.raw ∙ sym (value_signed _ _ _ _ c.requires.i_bound g))

pub overflow_cast-raw-2 : goal.overflow_cast-raw-2
overflow_cast-raw-2 c = let r = read (goal.at.overflow_cast-raw-2 c).After-joined_at-h in record { fits = raw_32 r.below r.narrow }

pub overflow_cast-raw-3 : goal.overflow_cast-raw-3
overflow_cast-raw-3 c = let r = read (goal.at.overflow_cast-raw-3 c).After-joined_at-h in record { sfits = lt_of_lt_of_le (raw_32 r.below r.narrow) (lit≤ tt) }

pub returns : goal.returns
unfolding sample_read
returns c =
    let r = read (goal.at.returns c).After-joined_at-h in
    let e = c.parameter_at-e.ensures in
    let g : signed_in c.args.f.now.based.now.ruled.declared.table.bytes.now c.args.i ≡ false = sym (signed_flag _ _ e.flags_is c.has_signed.ensures) ∙ c.if-has_signed.false in
    c.reading_of-2.ensures
    ∙ same_reading (agreed (goal.at.returns c).After-agrees_at-agrees) r.raw r.wide
    (to_z_pos w64 (lt_of_lt_of_le (raw_32 r.below r.narrow) (lit≤ tt)) ∙ ap pos r.raw ∙ sym (value_plain _ _ _ _ c.requires.i_bound g))
