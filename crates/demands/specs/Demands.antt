-- The three demands, of any bench.
use Rattle.std.specs.Prelude.{ℕ, ◌+◌, ◌-◌, ◌^◌, ◌≤◌, ◌<◌, Bool, true, false, cond, ◌≡◌, List, [], ◌⊎◌, ◌↔◌, ℤ, pos, length, get_or, take, drop, Some, None, Ok}
use Rattle.std.specs.Borrow.{Bor}
use Rattle.bits.specs.Sign.{signed}
use Rattle.lay.specs.Bytes.{AreBytes}
use Rattle.sample.specs.Component.{Place, Named}
use Rattle.sample.specs.Joining.{join, width}
use Rattle.sample.specs.Source.{bit_in}
use Rattle.model.specs.Content.{Content, parameters, parameter, subframes}
use Rattle.model.specs.Forms.{newest, form_in}
use Rattle.model.specs.Frame.{frame_words, meets}
use Rattle.model.specs.Samples.{overlapped, holds}
use Rattle.model.specs.Stored.{text_part, text_start_in}
use Rattle.model.specs.View.{view}
use Rattle.model.specs.Write.{write}
use Rattle.rules.specs.Part.{Own}
use Rattle.text.specs.declared.refusal.Refusal.{Refusal}
use Rattle.text.specs.declared.refusal.Refusal.TheVariants.{TableTooSmall}
use Rattle.gather.specs.Ruling.{Refused, judge_of}
use Rattle.grammar.specs.Says.{Says}
use Rattle.table.specs.Answers.{check_number}
use Rattle.framing.specs.Reading.{Read, read_number}
use Rattle.framing.specs.declared.read.Reading.{Reading}
use Rattle.framing.specs.Outcomes.{outcome_of}
use Rattle.framing.specs.Placing.{place_number}
use Rattle.framing.specs.Comparing.{differs_in, compared_number}
use Rattle.framing.specs.declared.read.Reading.TheVariants.{Sample, OverlapDiffers}
use Rattle.framing.specs.declared.page.Request.{Request}
use Rattle.framing.specs.declared.page.Outcome.{Outcome}
use Rattle.carding.specs.Layout.{frame_bits, Carries}
use Rattle.carding.specs.Search.{FirstFrame}
use Rattle.carding.specs.Answer.{carded_number, Carded, found_at}
use Rattle.demands.specs.Calls.{Calls}
use Rattle.demands.specs.Refusing.{sample_of, components_of, wholes_of, first_broken, check_rules, read_rules, place_rules, compare_rules, name_rules, mnemonic_rules, card_rules, bits_rules, page_rules}
use Rattle.maker.specs.Made.{unmade}

-- ---- words that the demands use

-- sample s of parameter p is one that the table lists, both counted from 1
pub record HasSample (c : Content) (p s : ℕ) : Type 0 where
  pub parameter_least : 1 ≤ p
  pub parameter_most : p ≤ parameters c
  pub sample_least : 1 ≤ s
  pub sample_most : s ≤ length (parameter c (p - 1)).samples

-- what a raw value of it means: "the two's complement sign where the sheet says signed"
unfoldable pub meaning : Content → ℕ → ℕ → ℕ → ℤ
meaning c p s raw = cond (parameter c (p - 1)).signed (signed (width (components_of c p s)) raw) (pos raw)

-- what a read of it answers for a raw value, where its copies agree, and where they differ: "reading is never refused"
abbrev pub answer_for : Content → ℕ → ℕ → ℕ → Reading
answer_for c p s raw = Sample raw (width (components_of c p s)) (meaning c p s raw)

abbrev pub differs_for : Content → ℕ → ℕ → ℕ → Reading
differs_for c p s raw = OverlapDiffers raw (width (components_of c p s)) (meaning c p s raw)

-- the copies agree: every component is its bits of what they join to
abbrev pub agree_in : Content → List ℕ → ℕ → ℕ → Bool
agree_in c f p s = holds c.subframes f (sample_of c p s) (join f (components_of c p s))

-- and so what a read of it answers in the frame f
abbrev pub answer_in : Content → List ℕ → ℕ → ℕ → Read
answer_in c f p s =
    Ok (cond (agree_in c f p s)
    (answer_for c p s (join f (components_of c p s)))
    (differs_for c p s (join f (components_of c p s))))

-- "a table that the check accepts, no matter who made it, and frames that fit it"
pub record Fitting (B : Calls) (t f : List ℕ) : Type 0 where
  pub passes : B.check t ≡ Ok tt
  pub fits : meets (view t) f ≡ true

-- 17, "lent table too small": of a sheet that says something, after all else, at line 0
pub record TooSmall (s l : List ℕ) (q : Refusal) (k : ℕ) : Type 0 where
  pub content : Content
  pub says : Says s content
  pub short : length l < length (write newest content)
  pub refusal : q ≡ TableTooSmall
  pub unlined : k ≡ 0

-- a sheet's refusal and its line: the first in 01's order, or 17
abbrev pub SheetRefused : List ℕ → List ℕ → Refusal → ℕ → Type 0
SheetRefused s l q k = (judge_of s ≡ Refused q k) ⊎ TooSmall s l q k

-- "24 with the first differing subframe's number"
pub record FirstDiffering (c : Content) (f : List ℕ) (s : ℕ) : Type 0 where
  pub least : 1 ≤ s
  pub most : s ≤ subframes c
  pub differs : differs_in c f s ≡ true
  pub lower : (k : ℕ) → 1 ≤ k → k < s → differs_in c f k ≡ false

-- r is these bytes of the table itself, from that place on: "not a copy"
pub record PartOf (t r : Bor (List ℕ)) (place : ℕ) (bytes : List ℕ) : Type 0 where
  pub bytes_are : r.now ≡ bytes
  pub own : Own t r place

-- "an empty part for a name"
abbrev pub EmptyPart : Bor (List ℕ) → Bor (List ℕ) → Type 0
EmptyPart t r = PartOf t r 0 []

-- the name of parameter i, counted from 0
abbrev pub NamePart : Bor (List ℕ) → Bor (List ℕ) → ℕ → Type 0
NamePart t r i = PartOf t r (text_part t.now + text_start_in t.now i) (parameter (view t.now) i).name

-- a page that is refused: "both write nothing"
pub record NothingPaged (B : Calls) (t f : List ℕ) (qs : List Request) (rs : List Outcome) : Type 0 where
  pub count : (B.page t f qs rs).count ≡ 0
  pub results : B.paged t f qs rs ≡ rs

-- ---- 1. "Every sheet, table, frame, parameter number, sample number and value gets an answer. Bad input is refused by
-- number, a bad sheet also by line .. A refusal changes no byte or word of the caller's."

-- A call is refused with n exactly where n is the number of the first broken rule of its list (Refusing), and answered, its number
-- being 0, exactly where none is broken. A sheet's refusal and line are those of the judge, or 17 at 0.
pub record One (B : Calls) : Type 0 where
  pub sheets : (s l : List ℕ) (q : Refusal) (k : ℕ) → (B.make s l ≡ unmade q k) ↔ SheetRefused s l q k
  pub sheet_unchanged : (s l : List ℕ) (q : Refusal) (k : ℕ) → B.make s l ≡ unmade q k → B.made s l ≡ l
  pub tables : (t : List ℕ) → check_number (B.check t) ≡ first_broken (check_rules t)
  pub reads : (t f : List ℕ) (p s : ℕ) → read_number (B.read t f p s) ≡ first_broken (read_rules t f p s)
  pub places : (t f : List ℕ) (p s v : ℕ) → place_number (B.place t f p s v) ≡ first_broken (place_rules t f p s v)
  pub place_unchanged : (t f : List ℕ) (p s v : ℕ) → (first_broken (place_rules t f p s v) ≡ 0 → ⊥) → B.placed t f p s v ≡ f
  pub compares : (t f : List ℕ) → compared_number (B.compare t f) ≡ first_broken (compare_rules t f)
  pub subframe_told : (t f : List ℕ) (s : ℕ) → B.compare t f ≡ Ok (Some s) → FirstDiffering (view t) f s
  pub pages : (t f : List ℕ) (qs : List Request) (rs : List Outcome) → (B.page t f qs rs).number ≡ first_broken (page_rules qs rs)
  pub page_unchanged : (t f : List ℕ) (qs : List Request) (rs : List Outcome) → (first_broken (page_rules qs rs) ≡ 0 → ⊥) → NothingPaged B t f qs rs
  pub names : (t : List ℕ) (p : ℕ) → B.name_number t p ≡ first_broken (name_rules t p)
  pub unnamed : (t : Bor (List ℕ)) (p : ℕ) → (first_broken (name_rules t.now p) ≡ 0 → ⊥) → EmptyPart t (B.name t p)
  pub mnemonics : (t m : List ℕ) → B.name_by_number t m ≡ first_broken (mnemonic_rules t m)
  pub unknown : (t : Bor (List ℕ)) (m : List ℕ) → (first_broken (mnemonic_rules t.now m) ≡ 0 → ⊥) → EmptyPart t (B.name_by t m)
  pub cards : (t y : List ℕ) (from : ℕ) (w : List ℕ) → carded_number (B.card_from t y from w) ≡ first_broken (card_rules t y from w)
  pub card_unchanged : (t y : List ℕ) (from : ℕ) (w : List ℕ) → (first_broken (card_rules t y from w) ≡ 0 → ⊥) → B.handed_from t y from w ≡ w
  pub no_bits : (t : List ℕ) → (first_broken (bits_rules t) ≡ 0 → ⊥) → B.frame_bits t ≡ 0

-- ---- 2. "A sheet is accepted exactly under TP 13140E 2.0 as narrowed by the scope paper, and its table says what the sheet
-- says. A sample read is the joining of its components, lowest first, with the two's complement sign where the sheet says
-- signed. A sample placed is read back equal, and no bit outside its components changes."

-- a sheet
pub record SheetTaken (B : Calls) : Type 0 where
  -- accepted exactly where the sheet says something, and the lent bytes are enough for its table
  pub taken : (s l : List ℕ) (c : Content) → Says s c → length (write newest c) ≤ length l → B.make s l ≡ Ok (length (write newest c))
  pub only : (s l : List ℕ) (n : ℕ) → B.make s l ≡ Ok n → (c : Content) × Says s c
  pub says : (s l : List ℕ) (n : ℕ) (c : Content) → B.make s l ≡ Ok n → Says s c → view (take n (B.made s l)) ≡ c
  -- 02: "Blank is now stored .. in tables of form 2": a new table is of the newest form
  pub form : (s l : List ℕ) (n : ℕ) → B.make s l ≡ Ok n → form_in (take n (B.made s l)) ≡ newest
  -- what is left is bytes, each below 256: 583 as one item would be viewed as 71 and 2 are
  pub bytes : (s l : List ℕ) (n : ℕ) → B.make s l ≡ Ok n → AreBytes (take n (B.made s l))
  pub later : (s l : List ℕ) (n : ℕ) → B.make s l ≡ Ok n → drop n (B.made s l) ≡ drop n l

-- the parameter's name, asked for by its number or its mnemonic
pub record NameAnswered (B : Calls) : Type 0 where
  pub name : (t : Bor (List ℕ)) (p : ℕ) → first_broken (name_rules t.now p) ≡ 0 → NamePart t (B.name t p) (p - 1)
  pub mnemonic : (t : Bor (List ℕ)) (m : List ℕ) → first_broken (mnemonic_rules t.now m) ≡ 0 → (i : ℕ)
      → i < parameters (view t.now) → (parameter (view t.now) i).mnemonic ≡ m → NamePart t (B.name_by t m) i

-- a value placed
pub record ValuePlaced (B : Calls) (t f : List ℕ) (p s v : ℕ) : Type 0 where
  pub done : B.place t f p s v ≡ Ok tt
  pub back : B.read t (B.placed t f p s v) p s ≡ Ok (answer_for (view t) p s v)
  pub other : (q : Place) → (Named (components_of (view t) p s) q → ⊥) → bit_in (B.placed t f p s v) q ≡ bit_in f q

-- a page: 02's "Each result equals what the single read answers, its refusal included", "results beyond the requests stay". It is the
-- bench's own read, so that whatever is demanded of a read is demanded of every result
pub record PageRead (B : Calls) (t f : List ℕ) (qs : List Request) (rs : List Outcome) : Type 0 where
  pub count : (B.page t f qs rs).count ≡ length qs
  pub long : length (B.paged t f qs rs) ≡ length rs
  pub each : (i : ℕ) (q : Request) (r : Outcome) → i < length qs
      → get_or (B.paged t f qs rs) i r ≡ outcome_of (B.read t f (get_or qs i q).parameter (get_or qs i q).sample)
  pub beyond : (i : ℕ) (r : Outcome) → length qs ≤ i → get_or (B.paged t f qs rs) i r ≡ get_or rs i r

-- a card's frame: 02's "Find the first bit position at which a whole frame fits and every record identifier agrees, and hand out
-- that frame's words, equal to the stream's bits", "words beyond the frame stay"
pub record FrameHanded (c : Content) (y : List ℕ) (from : ℕ) (w : List ℕ) (r : Carded) (o : List ℕ) : Type 0 where
  pub position : ℕ
  pub is : r ≡ found_at position (frame_words c)
  pub first : FirstFrame c y from position
  pub words : Carries c y position (take (frame_words c) o)
  pub beyond : drop (frame_words c) o ≡ drop (frame_words c) w

-- a card read from its first bit on is one read from bit 0 on
pub record FromTheFirst (B : Calls) (t y w : List ℕ) : Type 0 where
  pub answer : B.card t y w ≡ B.card_from t y 0 w
  pub words : B.handed t y w ≡ B.handed_from t y 0 w

pub record Two (B : Calls) : Type 0 where
  pub sheet : SheetTaken B
  pub named : NameAnswered B
  pub joined : (t f : List ℕ) (p s : ℕ) → Fitting B t f → HasSample (view t) p s
      → B.read t f p s ≡ answer_in (view t) f p s
  pub placed : (t f : List ℕ) (p s v : ℕ) → Fitting B t f → HasSample (view t) p s → overlapped (sample_of (view t) p s) ≡ false
      → v < 2 ^ width (components_of (view t) p s) → ValuePlaced B t f p s v
  pub pages : (t f : List ℕ) (qs : List Request) (rs : List Outcome) → first_broken (page_rules qs rs) ≡ 0 → PageRead B t f qs rs
  pub found : (t y : List ℕ) (from : ℕ) (w : List ℕ) → first_broken (card_rules t y from w) ≡ 0
      → FrameHanded (view t) y from w (B.card_from t y from w) (B.handed_from t y from w)
  pub first_of_all : (t y w : List ℕ) → FromTheFirst B t y w
  -- every subframe's leading bits, words and trailing bits: behind so many the next frame is looked for
  pub frame_bits_lem : (t : List ℕ) → first_broken (bits_rules t) ≡ 0 → B.frame_bits t ≡ frame_bits (view t)

-- ---- 3. "Every table made from an accepted sheet passes the table check. For a table that the check accepts, no matter who
-- made it, and frames that fit it, every listed sample is answered, none refused, its raw value below two to the width; two
-- such frames give equal answers for all samples exactly when they agree at every bit that some component names." 02: "the bound
-- holds over the width that this joining gives; the "exactly when" of demand 3 is claimed for tables without any" overlap

-- what is answered, and below what
pub record Answered (B : Calls) (t f : List ℕ) (p s : ℕ) : Type 0 where
  pub raw : ℕ
  pub wide : ℕ
  pub value : ℤ
  pub agree : Bool
  pub is : B.read t f p s ≡ Ok (cond agree (Sample raw wide value) (OverlapDiffers raw wide value))
  pub below : raw < 2 ^ wide

pub record SameAnswers (B : Calls) (t f g : List ℕ) : Type 0 where
  pub each : (p s : ℕ) → HasSample (view t) p s → B.read t f p s ≡ B.read t g p s

pub record SameBits (t f g : List ℕ) : Type 0 where
  pub each : (p s : ℕ) → HasSample (view t) p s → (q : Place) → Named (wholes_of (view t) p s) q → bit_in f q ≡ bit_in g q

-- no sample that the table lists overlaps
pub record NoOverlap (c : Content) : Type 0 where
  pub each : (p s : ℕ) → HasSample c p s → overlapped (sample_of c p s) ≡ false

-- 02: "3 is read over the frame handed out": it fits, so all that is said of frames is said of it, and comparing it passes
pub record FrameFits (B : Calls) (t f : List ℕ) : Type 0 where
  pub fitting : Fitting B t f
  pub compared : B.compare t f ≡ Ok None

pub record Three (B : Calls) : Type 0 where
  pub passes : (s l : List ℕ) (n : ℕ) → B.make s l ≡ Ok n → B.check (take n (B.made s l)) ≡ Ok tt
  pub answers : (t f : List ℕ) (p s : ℕ) → Fitting B t f → HasSample (view t) p s → Answered B t f p s
  pub exactly : (t f g : List ℕ) → Fitting B t f → Fitting B t g → NoOverlap (view t) → SameAnswers B t f g ↔ SameBits t f g
  -- and of every table one half of it
  pub alike : (t f g : List ℕ) → Fitting B t f → Fitting B t g → SameBits t f g → SameAnswers B t f g
  pub handed_fits : (t y : List ℕ) (from : ℕ) (w : List ℕ) (p n : ℕ) → B.card_from t y from w ≡ found_at p n
      → FrameFits B t (take n (B.handed_from t y from w))

pub record Demands (B : Calls) : Type 0 where
  pub one : One B
  pub two : Two B
  pub three : Three B
