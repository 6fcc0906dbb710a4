-- 01's "Slips we have seen": no bench that has one meets the demands. Each is put as what it would answer for every table, frame
-- and sample, and fails on the wall. Assumes nothing.
use mathlib.Core.Path.{◌≡◌, refl, sym, ap, subst, ◌∙◌}
use mathlib.Core.Bool.{true}
use mathlib.Core.List.{List, [], ◌∷◌, ◌++◌}
use mathlib.Core.Logic.{◌⊎◌, inl, inr}
use Prim.Native.Nat.{ℕ, ◌+◌, ◌-◌, ◌^◌, ◌≤◌, ◌<◌}
use native.Mathlib.Nat.{pow-le-pow_right}
use native.Mathlib.Omega.{arith}
use lib.IntN.{pos, negsuc}
use Rattle.bits.specs.Word.{bit_at, field}
use Rattle.bits.specs.Sign.{signed}
use Rattle.bits.proofs.Signs.{signed_low}
use Rattle.sample.specs.declared.component.Component.{Component}
use Rattle.sample.specs.Component.{Place, Named}
use Rattle.sample.specs.Source.{bit_in}
use Rattle.sample.specs.Joining.{part_of, join, width}
use Rattle.sample.specs.Flat.{sum, before, position}
use Rattle.model.specs.Content.{Content, parameter}
use Rattle.model.specs.Samples.{word_counts, piece, pieces}
use Rattle.model.specs.View.{view}
use Rattle.model.specs.Wall.{wall}
use Rattle.table.specs.Answers.{check_number}
use Rattle.demands.specs.Calls.{Calls}
use Rattle.demands.specs.Refusing.{components_of}
use Rattle.demands.specs.Demands.{HasSample, Fitting, Demands}
use Rattle.demands.proofs.Wall.{words, fuller, words_meet, fuller_meets, sync_listed, pitch_listed, wall_table, says_wall, fitting, there, plain, reads_pitch, reads_sync, pitch_room}
use Rattle.demands.proofs.Told.{raw_in, value_in}
use Rattle.demands.proofs.Useless.{eighteen}
use Rattle.std.specs.Prelude.{Ok}
use Rattle.framing.specs.Reading.{Read}

-- what a bench reads, of every sample of every frame that fits a table it accepts
abbrev Reads : Calls → (Content → List ℕ → ℕ → ℕ → Read → Type 0) → Type 0
Reads B P = (t f : List ℕ) (p s : ℕ) → Fitting B t f → HasSample (view t) p s → P (view t) f p s (B.read t f p s)

-- ---- the components the wrong way round, and a word further on

abbrev turned : List Component → List Component
turned [] = []
turned (c ∷ cs) = turned cs ++ (c ∷ [])

abbrev further : List Component → List Component
further [] = []
further (c ∷ cs) = record { word = c.word + 1; low = c.low; high = c.high } ∷ further cs

pitch_turned : join words (turned (components_of wall 2 1)) ≡ 23
unfolding bit_at field part_of join sum before position word_counts piece pieces components_of
pitch_turned = refl

sync_further : join words (further (components_of wall 1 1)) ≡ 5
unfolding bit_at field part_of join sum before position word_counts piece pieces components_of
sync_further = refl

-- ---- a bit of a word that the sample names, which the sample does not name

abbrev InWords : List Component → ℕ → Type 0
InWords [] w = ⊥
InWords (c ∷ cs) w = (c.word ≡ w) ⊎ InWords cs w

abbrev fifth : Place
fifth = record { word = 1; bit = 4 }

fifth_beside : InWords (components_of wall 2 1) 1
unfolding sum before position word_counts piece pieces components_of
fifth_beside = inl refl

fifth_unnamed : Named (components_of wall 2 1) fifth → ⊥
unfolding Named sum before position word_counts piece pieces components_of
fifth_unnamed (inl h) = omega (arith, h.2)
fifth_unnamed (inr (inl h)) = omega (arith, h.0)
fifth_unnamed (inr (inr h)) = h

fifth_set : bit_in fuller fifth ≡ 1
unfolding bit_at
fifth_set = refl

module _ (B : Calls) (D : Demands B) where
  -- "First component taken as the top: 23 instead of -11."
  pub not_first_on_top : Reads B (λ c f p s r. raw_in r ≡ join f (turned (components_of c p s))) → ⊥
  not_first_on_top u =
      let e = u (wall_table B) words 2 1 (fitting B D words words_meet) (there B D 2 1 pitch_listed) in
      omega (arith, e, ap raw_in (reads_pitch B D), ap (λ (c : Content). join words (turned (components_of c 2 1))) (says_wall B D) ∙ pitch_turned)

  -- "Sign taken at the word's top bit, or at bit 16, not the sample's.": at whatever bit above the sample's
  pub not_sign_elsewhere : (w : ℕ) → 7 ≤ w → Reads B (λ c f p s r. (parameter c (p - 1)).signed ≡ true → value_in r ≡ signed w (raw_in r)) → ⊥
  not_sign_elsewhere w l u =
      let e = u (wall_table B) words 2 1 (fitting B D words words_meet) (there B D 2 1 pitch_listed) (ap (λ (c : Content). (parameter c 1).signed) (says_wall B D)) in
      let r = reads_pitch B D in
      let m : 2 ^ 6 ≤ 2 ^ (w - 1) = pow-le-pow_right (omega arith) {i = 6} {j = w - 1} (omega arith) in
      let p : signed w 53 ≡ pos 53 = signed_low w 53 (omega (arith, m)) in
      let q : negsuc 10 ≡ pos 53 = sym (ap value_in r) ∙ (e ∙ (ap (λ (n : ℕ). signed w n) (ap raw_in r) ∙ p)) in
      let z : ◌≡◌ {A = ℕ} 0 1 = cc in
      omega arith

  -- "Words counted from 0."
  pub not_words_from_zero : Reads B (λ c f p s r. raw_in r ≡ join f (further (components_of c p s))) → ⊥
  not_words_from_zero u =
      let e = u (wall_table B) words 1 1 (fitting B D words words_meet) (there B D 1 1 sync_listed) in
      omega (arith, e, ap raw_in (reads_sync B D), ap (λ (c : Content). join words (further (components_of c 1 1))) (says_wall B D) ∙ sync_further)

  -- "Placing that clears the rest of the word."
  pub rest_not_cleared : ((t f : List ℕ) (p s v : ℕ) → Fitting B t f → HasSample (view t) p s → v < 2 ^ width (components_of (view t) p s)
      → (q : Place) → InWords (components_of (view t) p s) q.word → (Named (components_of (view t) p s) q → ⊥) → bit_in (B.placed t f p s v) q ≡ 0) → ⊥
  rest_not_cleared u =
      let h = fitting B D fuller fuller_meets in
      let l = there B D 2 1 pitch_listed in
      let beside = subst (λ (c : Content). InWords (components_of c 2 1) 1) (sym (says_wall B D)) fifth_beside in
      let unnamed : Named (components_of (view (wall_table B)) 2 1) fifth → ⊥ = λ n. fifth_unnamed (subst (λ (c : Content). Named (components_of c 2 1) fifth) (says_wall B D) n) in
      let o = (D.two.placed (wall_table B) fuller 2 1 63 h l ((plain B D).each 2 1 l) (pitch_room B D)).other fifth unnamed in
      omega (arith, fifth_set, o, u (wall_table B) fuller 2 1 63 h l (pitch_room B D) fifth beside unnamed)

  -- "A table trusted since "our compiler made it"."
  pub not_all_trusted : ((t : List ℕ) → B.check t ≡ Ok tt) → ⊥
  unfolding check_number
  not_all_trusted u = let e : check_number (B.check []) ≡ 18 = D.one.tables [] ∙ eighteen _ in omega (arith, ap check_number (u []))
