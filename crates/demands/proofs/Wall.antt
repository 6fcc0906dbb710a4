-- The wall's frames, as any bench that meets the demands reads them. Assumes nothing.
use mathlib.Core.Path.{◌≡◌, refl, sym, ap, subst, ◌∙◌}
use mathlib.Core.Bool.{true, false}
use mathlib.Core.List.{List, [], ◌∷◌}
use Prim.Native.Nat.{ℕ, zero, suc, ◌-◌, ◌^◌, ◌<◌}
use native.Mathlib.Omega.{arith}
use lib.IntN.{pos, negsuc}
use lib.ListN.{length, take}
use Rattle.bits.specs.Word.{bit_at, field}
use Rattle.bits.specs.Sign.{signed}
use Rattle.sample.specs.Joining.{part_of, join, width}
use Rattle.sample.specs.Flat.{sum, before, position}
use Rattle.lay.specs.Below.{every}
use Rattle.model.specs.Content.{Content, parameter, sample}
use Rattle.model.specs.Frame.{frame_words, words_ok, meets}
use Rattle.model.specs.Samples.{word_counts, whole, piece, pieces, overlapped, place_in, holds_at, holds}
use Rattle.model.specs.View.{view}
use Rattle.model.specs.Wall.{wall}
use Rattle.model.specs.Forms.{newest}
use Rattle.model.specs.Write.{write}
use Rattle.gather.specs.WallSheet.{wall_sheet}
use Rattle.rulings.proofs.WallSaid.{wall_sheet_says}
use Rattle.framing.specs.declared.read.Reading.TheVariants.{Sample}
use Rattle.demands.specs.Calls.{Calls}
use Rattle.demands.specs.Refusing.{components_of}
use Rattle.demands.specs.Demands.{HasSample, meaning, Fitting, NoOverlap, Demands}
use Rattle.demands.proofs.EndToEnd.{read_by, ReadAsSaid, read_as_said}
use Rattle.std.specs.Prelude.{Ok}

-- ---- 01's frame, one with another first word, one with another second part of Pitch, one with a bit that Pitch does not name

abbrev pub words : List ℕ
words = 583 ∷ 5 ∷ 0 ∷ 6 ∷ []

abbrev pub others : List ℕ
others = 582 ∷ 5 ∷ 0 ∷ 6 ∷ []

abbrev pub lower : List ℕ
lower = 583 ∷ 5 ∷ 0 ∷ 4 ∷ []

abbrev pub fuller : List ℕ
fuller = 583 ∷ 21 ∷ 0 ∷ 6 ∷ []

pub words_meet : meets wall words ≡ true
unfolding every sum before frame_words words_ok meets word_counts
words_meet = refl

pub others_meet : meets wall others ≡ true
unfolding every sum before frame_words words_ok meets word_counts
others_meet = refl

pub lower_meets : meets wall lower ≡ true
unfolding every sum before frame_words words_ok meets word_counts
lower_meets = refl

pub fuller_meets : meets wall fuller ≡ true
unfolding every sum before frame_words words_ok meets word_counts
fuller_meets = refl

pub sync_listed : HasSample wall 1 1
sync_listed = record { parameter_least = omega arith; parameter_most = omega arith; sample_least = omega arith; sample_most = omega arith }

pub pitch_listed : HasSample wall 2 1
pitch_listed = record { parameter_least = omega arith; parameter_most = omega arith; sample_least = omega arith; sample_most = omega arith }

-- read the minus sign aloud: Pitch is minus eleven
pub pitch_read : read_by wall words 2 1 ≡ Ok (Sample 53 6 (negsuc 10))
unfolding bit_at field signed part_of join width sum before position word_counts whole piece pieces place_in holds_at holds components_of meaning
pitch_read = refl

pub sync_read : read_by wall words 1 1 ≡ Ok (Sample 583 12 (pos 583))
unfolding bit_at field signed part_of join width sum before position word_counts whole piece pieces place_in holds_at holds components_of meaning
sync_read = refl

pub pitch_wide : width (components_of wall 2 1) ≡ 6
unfolding width before position word_counts piece pieces components_of
pitch_wide = refl

-- nothing in it overlaps
wall_plain_lem : NoOverlap wall
unfolding overlapped
wall_plain_lem = record { each = λ p s l. go (p - 1) (s - 1) }
  where
    go : (i j : ℕ) → overlapped (sample (parameter wall i) j) ≡ false
    go zero zero = refl
    go zero (suc j) = refl
    go (suc zero) zero = refl
    go (suc zero) (suc j) = refl
    go (suc (suc i)) j = refl

-- ---- the wall's table, as that bench makes it

abbrev pub wall_table : Calls → List ℕ
wall_table B = take (length (write newest wall)) (B.made wall_sheet (write newest wall))

module _ (B : Calls) (D : Demands B) where
  pub made_wall : B.make wall_sheet (write newest wall) ≡ Ok (length (write newest wall))
  made_wall = D.two.sheet.taken wall_sheet (write newest wall) wall wall_sheet_says (omega arith)

  pub all_read : ReadAsSaid B wall_sheet (write newest wall) (length (write newest wall)) wall
  all_read = read_as_said B D wall_sheet (write newest wall) (length (write newest wall)) wall wall_sheet_says made_wall

  pub says_wall : view (wall_table B) ≡ wall
  says_wall = D.two.sheet.says wall_sheet (write newest wall) (length (write newest wall)) wall made_wall wall_sheet_says

  pub fitting : (f : List ℕ) → meets wall f ≡ true → Fitting B (wall_table B) f
  fitting f m = record { passes = all_read.passes; fits = ap (λ (c : Content). meets c f) says_wall ∙ m }

  pub there : (p s : ℕ) → HasSample wall p s → HasSample (view (wall_table B)) p s
  there p s = subst (λ (c : Content). HasSample c p s) (sym says_wall)

  pub reads_pitch : B.read (wall_table B) words 2 1 ≡ Ok (Sample 53 6 (negsuc 10))
  reads_pitch = all_read.reads words 2 1 words_meet pitch_listed ∙ pitch_read

  pub reads_sync : B.read (wall_table B) words 1 1 ≡ Ok (Sample 583 12 (pos 583))
  reads_sync = all_read.reads words 1 1 words_meet sync_listed ∙ sync_read

  pub plain : NoOverlap (view (wall_table B))
  plain = subst NoOverlap (sym says_wall) wall_plain_lem

  pub pitch_room : 63 < 2 ^ width (components_of (view (wall_table B)) 2 1)
  pitch_room = let w = ap (λ (c : Content). width (components_of c 2 1)) says_wall ∙ pitch_wide in rw w (omega arith)
