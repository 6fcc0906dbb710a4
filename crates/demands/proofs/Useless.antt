-- Useless versions of a bench, and bad ones: none of them meets the demands. In general form where 01 names a thing invented; else
-- on the wall sheet, with its table's own bytes lent. Assumes nothing.
use mathlib.Core.Path.{◌≡◌, refl, sym, ap, subst, ◌∙◌}
use mathlib.Core.Bool.{false}
use mathlib.Core.List.{List, [], ◌∷◌}
use mathlib.Core.Logic.{inl, inr}
use Prim.Native.Nat.{ℕ, zero, suc, ◌-◌, ◌≤◌}
use native.Mathlib.Omega.{arith}
use native.Mathlib.Decide.{dec_le}
use lib.ListN.{length, take, get_or}
use Rattle.bits.specs.Word.{bit_at, field}
use Rattle.lay.proofs.Tests.{refuse}
use Rattle.sample.specs.declared.component.Component.{Component}
use Rattle.sample.specs.Component.{Place, Named}
use Rattle.sample.specs.Source.{bit_in}
use Rattle.sample.specs.Joining.{part_of, join}
use Rattle.sample.proofs.Sources.{join_agree}
use Rattle.sample.specs.Flat.{sum, before, position}
use Rattle.model.specs.Accepts.{accepts}
use Rattle.model.specs.Content.{Content, parameter, sample}
use Rattle.model.specs.Samples.{word_counts, whole, piece, wholes, pieces}
use Rattle.model.specs.View.{view}
use Rattle.model.specs.Wall.{wall}
use Rattle.model.specs.Forms.{newest}
use Rattle.model.specs.Write.{write}
use Rattle.text.specs.declared.refusal.Refusal.{Refusal}
use Rattle.gather.specs.Ruling.{Refused, judge_of}
use Rattle.gather.specs.WallSheet.{wall_sheet}
use Rattle.grammar.specs.Says.{Says}
use Rattle.table.proofs.Accepting.{accepted_ruled}
use Rattle.framing.specs.Reading.{read_number}
use Rattle.framing.specs.Placing.{place_number}
use Rattle.framing.specs.Comparing.{compared_number}
use Rattle.demands.specs.Calls.{Calls}
use Rattle.demands.specs.Refusing.{Rule, rule, components_of, wholes_of, first_broken, place_rules}
use Rattle.demands.specs.Demands.{HasSample, answer_for, Fitting, FirstDiffering, Demands}
use Rattle.demands.proofs.Told.{raw_in, answer_raw, one_first}
use Rattle.demands.proofs.Unbroken.{readable}
use Rattle.demands.proofs.Wall.{words, others, lower, words_meet, others_meet, lower_meets, sync_listed, pitch_listed, wall_table, made_wall, all_read, says_wall, fitting, there, plain, reads_pitch, pitch_room}
use Rattle.table.specs.declared.reason.Reason.TheVariants.{NoTable}
use Rattle.std.specs.Prelude.{Ok, Err, Some}
use Rattle.maker.specs.Made.{Made, unmade}
use Rattle.judge.specs.declared.walk.Rejected.{Rejected}

-- ---- no bytes are no table: 18 stands first in every call

no_table : accepts [] ≡ false
no_table = sym (refuse _ (λ h. let r = accepted_ruled [] h in omega (arith, r.laid.head.sized)))

pub eighteen : (rs : List Rule) → first_broken (rule 18 (accepts []) ∷ rs) ≡ 18
unfolding first_broken
eighteen rs = rw no_table

-- ---- what a read of the first component alone would know

abbrev first_part : List ℕ → List Component → ℕ
first_part f [] = 0
first_part f (c ∷ cs) = part_of f c

pitch_first : first_part words (components_of wall 2 1) ≡ 5
unfolding bit_at field part_of sum before position word_counts piece pieces components_of
pitch_first = refl

-- words and lower have the same first components
first_same : (p s : ℕ) → first_part words (components_of wall p s) ≡ first_part lower (components_of wall p s)
unfolding bit_at field part_of sum before position word_counts piece pieces components_of
first_same p s = go (p - 1) (s - 1)
  where
    go : (i j : ℕ) → first_part words (pieces wall.subframes (sample (parameter wall i) j)) ≡ first_part lower (pieces wall.subframes (sample (parameter wall i) j))
    go zero zero = refl
    go zero (suc j) = refl
    go (suc zero) zero = refl
    go (suc zero) (suc j) = refl
    go (suc (suc i)) j = refl

-- and differ at a bit that Pitch's second component names
abbrev second : Place
second = record { word = 3; bit = 1 }

second_named : Named (components_of wall 2 1) second
unfolding Named sum before position word_counts piece pieces components_of
second_named = inr (inl (refl, omega arith, omega arith))

second_whole : Named (wholes_of wall 2 1) second
unfolding Named sum before position word_counts whole wholes wholes_of
second_whole = inr (inl (refl, omega arith, omega arith))

second_differs : bit_in words second ≡ bit_in lower second → ⊥
unfolding bit_at
second_differs e = omega (arith, e)

-- 63 in Pitch: both components filled; the second one's bit is another than lower's
abbrev filled : List ℕ
filled = 583 ∷ 15 ∷ 0 ∷ 6 ∷ []

abbrev others_of : List Component → List Component
others_of [] = []
others_of (c ∷ cs) = cs

filled_joins : join filled (components_of wall 2 1) ≡ 63
unfolding bit_at field part_of join sum before position word_counts piece pieces components_of
filled_joins = refl

second_other : Named (others_of (components_of wall 2 1)) second
unfolding Named sum before position word_counts piece pieces components_of
second_other = inl (refl, omega arith, omega arith)

second_kept : bit_in filled second ≡ bit_in lower second → ⊥
unfolding bit_at
second_kept e = omega (arith, e)

answer_zero : (c : Content) (p s v : ℕ) → read_number (Ok (answer_for c p s v)) ≡ 0
unfolding read_number
answer_zero c p s v = refl

-- words and others differ at a bit that Sync names
abbrev lowest : Place
lowest = record { word = 0; bit = 0 }

lowest_named : Named (wholes_of wall 1 1) lowest
unfolding Named sum before position word_counts whole wholes wholes_of
lowest_named = inl (refl, omega arith, omega arith)

lowest_differs : bit_in words lowest ≡ bit_in others lowest → ⊥
unfolding bit_at
lowest_differs e = omega (arith, e)

module _ (B : Calls) (D : Demands B) where
  -- ---- 01's useless versions

  -- refusing all sheets
  pub some_sheet_taken : ((s l : List ℕ) (n : ℕ) → B.make s l ≡ Ok n → ⊥) → ⊥
  some_sheet_taken u = u wall_sheet (write newest wall) (length (write newest wall)) (made_wall B D)

  -- refusing all tables
  pub some_table_passes : ((t : List ℕ) → B.check t ≡ (Err NoTable)) → ⊥
  some_table_passes u = let e = sym (u (wall_table B)) ∙ (all_read B D).passes in let z : ◌≡◌ {A = ℕ} 0 1 = cc in omega arith

  -- the same sample for every frame: by "exactly when"
  pub frames_told_apart : ((t f g : List ℕ) (p s : ℕ) → B.read t f p s ≡ B.read t g p s) → ⊥
  frames_told_apart u =
      let x = (D.three.exactly (wall_table B) words others (fitting B D words words_meet) (fitting B D others others_meet) (plain B D)).0 (record { each = λ p s l. u (wall_table B) words others p s }) in
      lowest_differs (x.each 1 1 (there B D 1 1 sync_listed) lowest (subst (λ (c : Content). Named (wholes_of c 1 1) lowest) (sym (says_wall B D)) lowest_named))

  -- a placing that writes nothing
  pub something_placed : ((t f : List ℕ) (p s v : ℕ) → B.placed t f p s v ≡ f) → ⊥
  something_placed u =
      let b = (D.two.placed (wall_table B) words 2 1 63 (fitting B D words words_meet) (there B D 2 1 pitch_listed) ((plain B D).each 2 1 (there B D 2 1 pitch_listed)) (pitch_room B D)).back in
      omega (arith, ap raw_in (sym (reads_pitch B D) ∙ (sym (ap (λ (f : List ℕ). B.read (wall_table B) f 2 1) (u (wall_table B) words 2 1 63)) ∙ b)))

  -- joining only the first component: the raw value is its part; and, by "exactly when", a read that knows no more
  pub not_first_only : ((t f : List ℕ) (p s : ℕ) → Fitting B t f → HasSample (view t) p s → raw_in (B.read t f p s) ≡ first_part f (components_of (view t) p s)) → ⊥
  not_first_only u =
      let e = u (wall_table B) words 2 1 (fitting B D words words_meet) (there B D 2 1 pitch_listed) in
      omega (arith, e, ap raw_in (reads_pitch B D), ap (λ (c : Content). first_part words (components_of c 2 1)) (says_wall B D) ∙ pitch_first)

  pub all_components_known : ((t f g : List ℕ) (p s : ℕ) → first_part f (components_of (view t) p s) ≡ first_part g (components_of (view t) p s) → B.read t f p s ≡ B.read t g p s) → ⊥
  all_components_known u =
      let same : (p s : ℕ) → first_part words (components_of (view (wall_table B)) p s) ≡ first_part lower (components_of (view (wall_table B)) p s) = λ p s. subst (λ (c : Content). first_part words (components_of c p s) ≡ first_part lower (components_of c p s)) (sym (says_wall B D)) (first_same p s) in
      let x = (D.three.exactly (wall_table B) words lower (fitting B D words words_meet) (fitting B D lower lower_meets) (plain B D)).0 (record { each = λ p s l. u (wall_table B) words lower p s (same p s) }) in
      second_differs (x.each 2 1 (there B D 2 1 pitch_listed) second (subst (λ (c : Content). Named (wholes_of c 2 1) second) (sym (says_wall B D)) second_whole))

  -- placing into the first component only: the bits of the others stay
  pub all_components_placed : ((t f : List ℕ) (p s v : ℕ) → Fitting B t f → HasSample (view t) p s
      → (q : Place) → Named (others_of (components_of (view t) p s)) q → bit_in (B.placed t f p s v) q ≡ bit_in f q) → ⊥
  all_components_placed u =
      let t = wall_table B in
      let g = B.placed t lower 2 1 63 in
      let h = fitting B D lower lower_meets in
      let l = there B D 2 1 pitch_listed in
      let x = D.two.placed t lower 2 1 63 h l ((plain B D).each 2 1 l) (pitch_room B D) in
      let r = readable t g 2 1 (sym (D.one.reads t g 2 1) ∙ (ap read_number x.back ∙ answer_zero (view t) 2 1 63)) in
      let j = D.two.joined t g 2 1 (record { passes = h.passes; fits = r.fits }) l in
      let e : join g (components_of (view t) 2 1) ≡ 63 = sym (answer_raw (view t) g 2 1) ∙ ap raw_in (sym j ∙ x.back) in
      let k : join filled (components_of (view t) 2 1) ≡ 63 = ap (λ (c : Content). join filled (components_of c 2 1)) (says_wall B D) ∙ filled_joins in
      let n = subst (λ (c : Content). Named (components_of c 2 1) second) (sym (says_wall B D)) second_named in
      let o = subst (λ (c : Content). Named (others_of (components_of c 2 1)) second) (sym (says_wall B D)) second_other in
      second_kept (sym (join_agree g filled (components_of (view t) 2 1) (e ∙ sym k) second n) ∙ u t lower 2 1 63 h l second o)

  -- an invented table length: of whatever sheet, there is no other
  pub no_other_length : (s l : List ℕ) (n : ℕ) (c : Content) → Says s c → B.make s l ≡ Ok n → n ≡ length (write newest c)
  no_other_length s l n c w e = go (dec_le (length (write newest c)) (length l))
    where
      lengths : {a b : ℕ} → ◌≡◌ {A = Made} (Ok a) (Ok b) → a ≡ b
      lengths q = cc

      go : Dec (length (write newest c) ≤ length l) → n ≡ length (write newest c)
      go (yes h) = lengths (sym e ∙ D.two.sheet.taken s l c w h)
      go (no h) =
          let r = (D.one.sheets s l _ _).1 (inr (record { content = c; says = w; short = omega arith; refusal = refl; unlined = refl })) in
          let q = sym e ∙ r in
          let z : ◌≡◌ {A = ℕ} 0 1 = cc in
          absurd (omega arith)

  -- an invented refusal or line: of whatever sheet that is refused, there is no other
  pub no_other_line : (s l : List ℕ) (q r : Refusal) (k m : ℕ) → judge_of s ≡ Refused q k → B.make s l ≡ unmade r m → (r ≡ q) × (m ≡ k)
  no_other_line s l q r k m e h = let x = sym h ∙ (D.one.sheets s l q k).1 (inl e) in same_rejected x
    where
      same_rejected : {q r : Refusal} {k m : ℕ} → unmade r m ≡ unmade q k → (r ≡ q) × (m ≡ k)
      same_rejected {q} {r} {k} {m} e =
          let p : ◌≡◌ {A = Rejected} (record { refusal = r; line = m }) (record { refusal = q; line = k }) = cc in
          (ap (λ (x : Rejected). x.refusal) p, ap (λ (x : Rejected). x.line) p)

  -- an invented subframe number: of whatever table and frame, there is no other
  pub no_other_subframe : (t f : List ℕ) (s k : ℕ) → B.compare t f ≡ Ok (Some s) → FirstDiffering (view t) f k → s ≡ k
  no_other_subframe t f s k e x = one_first (view t) f s k (D.one.subframe_told t f s e) x

  -- an item of the table that is no byte, though the table is viewed alike: of whatever sheet, there is none
  pub no_item_above : (s l : List ℕ) (n i : ℕ) → B.make s l ≡ Ok n → 256 ≤ get_or (take n (B.made s l)) i 0 → ⊥
  no_item_above s l n i e h = omega (arith, D.two.sheet.bytes s l n e i)

  -- ---- bad ones: every read answered, every placing done, every comparison passed, the words wiped

  pub some_read_refused : ((t f : List ℕ) (p s : ℕ) → read_number (B.read t f p s) ≡ 0) → ⊥
  some_read_refused u = let e : read_number (B.read [] [] 1 1) ≡ 18 = D.one.reads [] [] 1 1 ∙ eighteen _ in omega (arith, u [] [] 1 1)

  pub some_placing_refused : ((t f : List ℕ) (p s v : ℕ) → place_number (B.place t f p s v) ≡ 0) → ⊥
  some_placing_refused u = let e : place_number (B.place [] [] 1 1 0) ≡ 18 = D.one.places [] [] 1 1 0 ∙ eighteen _ in omega (arith, u [] [] 1 1 0)

  pub some_comparison_refused : ((t f : List ℕ) → compared_number (B.compare t f) ≡ 0) → ⊥
  some_comparison_refused u = let e : compared_number (B.compare [] []) ≡ 18 = D.one.compares [] [] ∙ eighteen _ in omega (arith, u [] [])

  pub words_not_wiped : ((t f : List ℕ) (p s v : ℕ) → (place_number (B.place t f p s v) ≡ 0 → ⊥) → B.placed t f p s v ≡ []) → ⊥
  words_not_wiped u =
      let e : first_broken (place_rules [] words 1 1 0) ≡ 18 = eighteen _ in
      let n : place_number (B.place [] words 1 1 0) ≡ 18 = D.one.places [] words 1 1 0 ∙ e in
      let k = D.one.place_unchanged [] words 1 1 0 (λ z. omega arith) in
      omega (arith, ap length (sym k ∙ u [] words 1 1 0 (λ z. omega arith)))
