-- Every row is sound. It is computed: a new row changes nothing here. What holds of each part holds of all. Assumes nothing.
use Prim.Native.Nat.{ℕ, zero, suc, ◌+◌, ◌-◌, ◌≤◌, ◌<◌}
use mathlib.Core.Path.{◌≡◌, refl, sym, ap₂, subst}
use mathlib.Core.List.{List}
use mathlib.Core.Bool.{Bool, true, false, ◌||◌, not, true≢false}
use native.Mathlib.Omega.{arith}
use borrow.Author.Rules.{rules}
use borrow.Author.Tests.{leb-true, eqb-true, ltb-true}
use lib.Dec.{eqb}
use lib.ListN.{length, get_or}
use Rattle.lay.specs.Below.{every}
use Rattle.lay.specs.Bytes.{num_at}
use Rattle.lay.specs.Slots.{has, wide_of, tidy, plain, long, room_for, item_at}
use Rattle.lay.specs.Layout.{Layout, offset, slots_of, start_by, head_in}
use Rattle.lay.proofs.Tests.{rule}
use Rattle.lay.proofs.Below.{all_below}
use Rattle.lay.proofs.Slots.{room_law}
use Rattle.model.specs.Limits.{Limits}
use Rattle.model.specs.Items as item
use Rattle.model.specs.Items.{subframe_part, parts, parts_of_all, entry_items}
use Rattle.model.specs.Forms.{Row, rows, row, known, newest, newest_row, layout_of, limits_of, form_in}
use Rattle.model.specs.Sound.{offset_most, head_most, entry_most, tidy_row, form_row, roomy_row, readable_row, within_row, coded_row, margin_row, sound, all_sound, Within, Sound}

-- what holds of each of the parts, one by one, holds of every part
abbrev pub EachPart : (ℕ → Type 0) → ℕ → ℕ → Type 0
EachPart P p zero = Unit {0}
EachPart P p (suc n) = P p × EachPart P (suc p) n

each_from : (P : ℕ → Type 0) (p n : ℕ) → EachPart P p n → (k : ℕ) → k < n → P (p + k)
each_from P p zero h k l = absurd (omega arith)
each_from P p (suc n) h zero l = let e : p + 0 ≡ p = omega arith in subst P (sym e) h.0
each_from P p (suc n) h (suc k) l =
    let e : p + suc k ≡ suc p + k = omega arith in
    subst P (sym e) (each_from P (suc p) n h.1 k (omega arith))

pub each_part : (P : ℕ → Type 0) → EachPart P 0 parts → (p : ℕ) → p < parts → P p
each_part P h p l = let e : 0 + p ≡ p = omega arith in subst P e (each_from P 0 parts h p l)

-- and what holds of each form, of every form that there is
pub each_form : (P : ℕ → Type 0) → EachPart P 1 newest → (f : ℕ) → known f ≡ true → P f
unfolding known newest
each_form P h f k =
    let a : 1 ≤ f = leb-true _ _ (rule _ k 0) in
    let b : f ≤ length rows = leb-true _ _ (rule _ k 1) in
    let e : 1 + (f - 1) ≡ f = omega arith in
    subst P e (each_from P 1 (length rows) h (f - 1) (omega arith))

all_sound_lem : all_sound ≡ true
unfolding all_sound rows sound tidy_row form_row roomy_row readable_row within_row coded_row margin_row every start_by plain long offset_most head_most entry_most
all_sound_lem = refl

row_test : (f : ℕ) → known f ≡ true → sound f (row f) ≡ true
unfolding known row all_sound
row_test f h =
    let a : 1 ≤ f = leb-true _ _ (rule _ h 0) in
    let e : f ≤ length rows = leb-true _ _ (rule _ h 1) in
    let l : f - 1 < length rows = omega arith in
    let z : f - 1 + 1 ≡ f = omega arith in
    let s = all_below (length rows) (λ k. sound (k + 1) (get_or rows k newest_row)) all_sound_lem (f - 1) l in
    rw z at s

not_or : (a b : Bool) → (not a || b) ≡ true → a ≡ true → b ≡ true
not_or true b h e = h
not_or false b h e = absurd (true≢false (sym e))

within_law : (m n : Limits) → within_row m n ≡ true → Within m n
unfolding within_row
within_law m n h =
    record {
      subframes = leb-true _ _ (rule _ h 0);
      bits = leb-true _ _ (rule _ h 1);
      words = leb-true _ _ (rule _ h 2);
      margin = leb-true _ _ (rule _ h 3);
      blank = not_or m.blank n.blank (rule _ h 4);
      parameters = leb-true _ _ (rule _ h 5);
      samples_each = leb-true _ _ (rule _ h 6);
      samples = leb-true _ _ (rule _ h 7);
      components_each = leb-true _ _ (rule _ h 8);
      components = leb-true _ _ (rule _ h 9);
      overlap = leb-true _ _ (rule _ h 10);
      width = leb-true _ _ (rule _ h 11);
      text = leb-true _ _ (rule _ h 12);
      time = leb-true _ _ (rule _ h 13);
      denominator = leb-true _ _ (rule _ h 14);
      seconds = leb-true _ _ (rule _ h 15);
      value = leb-true _ _ (rule _ h 16);
    }

sound_law : (f : ℕ) (R : Row) → sound f R ≡ true → Sound f R.layout R.limits
unfolding sound tidy_row form_row roomy_row readable_row margin_row
sound_law f R h =
    record {
      many = eqb-true _ _ (rule _ (rule _ h 0) 0);
      tidy_head = rule _ (rule _ h 0) 1;
      tidy_part = all_below parts (λ p. tidy (entry_items p) (slots_of R.layout p)) (rule _ (rule _ h 0) 2);
      form_is_wide = eqb-true _ _ (rule _ (rule _ h 1) 0);
      form_stands = eqb-true _ _ (rule _ (rule _ h 1) 1);
      told = all_below parts_of_all (λ p. has R.layout.header (offset p)) (rule _ (rule _ h 1) 2);
      head_room = room_law R.layout.header (head_most f R.layout R.limits) (rule _ (rule _ h 2) 0);
      entry_room = λ p l.
          room_law (slots_of R.layout p) (entry_most R.limits p)
          (all_below parts (λ p. room_for (slots_of R.layout p) (entry_most R.limits p)) (rule _ (rule _ h 2) 1) p l);
      small = ltb-true _ _ (rule _ (rule _ h 3) 0);
      plain_head = rule _ (rule _ h 3) 1;
      plain_subframe =
          all_below (entry_items subframe_part) (λ k. eqb k item.numerator || plain (wide_of (slots_of R.layout subframe_part) k)) (rule _ (rule _ h 3) 2);
      long_numerator = rule _ (rule _ h 3) 3;
      plain_parameter = rule _ (rule _ h 3) 4;
      plain_sample = rule _ (rule _ h 3) 5;
      plain_component = rule _ (rule _ h 3) 6;
      within = within_law _ _ (rule _ h 4);
      apart = ltb-true _ _ (rule _ h 6);
    }

pub known_sound : (f : ℕ) → known f ≡ true → Sound f (layout_of f) (limits_of f)
known_sound f h = sound_law f (row f) (row_test f h)

pub known_newest : known newest ≡ true
unfolding known newest rows every
known_newest = refl

-- the last row is the newest form's
pub newest_row_lem : row newest ≡ newest_row
unfolding row newest rows
newest_row_lem = refl

-- new tables are not of form 1
pub not_first : not (eqb newest 1) ≡ true
unfolding newest rows
not_first = refl

-- form 1 alone can not say that a margin is unknown
pub blank_said : (f : ℕ) → known f ≡ true → (limits_of f).blank ≡ not (eqb f 1)
unfolding row rows newest
blank_said = each_form (λ (f : ℕ). (limits_of f).blank ≡ not (eqb f 1)) (search rules)

-- the form stands where every layout has it
pub form_said : (f : ℕ) (L : Layout) (m : Limits) → Sound f L m → (b : List ℕ) → head_in L b item.form ≡ form_in b
unfolding form_in head_in item_at
form_said f L m s b = ap₂ (λ (w o : ℕ). num_at w b o) s.form_is_wide (omega (arith, s.form_stands))
