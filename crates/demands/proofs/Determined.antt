-- Each promise of bench, and of the C interface, determines the answer and all that is lent: two answers that it allows are equal. Assumes nothing.
use mathlib.Core.Path.{◌≡◌, sym, ◌∙◌}
use mathlib.Core.List.{List}
use Prim.Native.Nat.{ℕ}
use denote.Ref.{Bor}
use Rattle.framing.specs.declared.page.Request.{Request}
use Rattle.framing.specs.declared.page.Outcome.{Outcome}
use Rattle.framing.specs.declared.page.Paged.{Paged}
use Rattle.bench.specs.Promises.{Makes, MadeNumbered, Checks, CheckNumbered, Names, NameNumbered, NamesBy, NameByNumbered, Reads, ReadNumbered, Places, PlaceNumbered, Compares, CompareNumbered, Pages, Cards, CardNumbered, FrameBits}
use Rattle.bench.specs.Texts.{Fills, WordsFill}
use Rattle.ffi.specs.Promises.{MakesOut, ChecksOut, NamesOut, NamesByOut, ReadsOut, PlacesOut, ComparesOut, PagesOut, CardsOut, FrameBitsOut}
use Rattle.ffi.specs.declared.sheets.OrbMade.{OrbMade}
use Rattle.ffi.specs.declared.tables.OrbName.{OrbName}
use Rattle.ffi.specs.declared.frames.OrbCompared.{OrbCompared}
use Rattle.ffi.specs.declared.cards.OrbCarded.{OrbCarded}
use Rattle.framing.specs.Placing.{Placed}
use Rattle.table.specs.Answers.{Checked}
use Rattle.framing.specs.Comparing.{Compared}
use Rattle.framing.specs.Reading.{Read}
use Rattle.maker.specs.Made.{Made}
use Rattle.carding.specs.Answer.{Carded}

both : {A : Type 0} {x y z : A} → x ≡ z → y ≡ z → x ≡ y
both p q = p ∙ sym q

pub makes_one : (s l a b : List ℕ) (m n : Made) → Makes s l m a → Makes s l n b → (m ≡ n) × (a ≡ b)
makes_one s l a b m n h k = (both h.0 k.0, both h.1 k.1)

pub made_number_one : (m : Made) (i j : ℕ) → MadeNumbered m i → MadeNumbered m j → i ≡ j
made_number_one m i j h k = both h k

pub checks_one : (t : List ℕ) (c d : Checked) → Checks t c → Checks t d → c ≡ d
checks_one t c d h k = both h k

pub check_number_one : (c : Checked) (i j : ℕ) → CheckNumbered c i → CheckNumbered c j → i ≡ j
check_number_one c i j h k = both h k

-- a name: its bytes, its block and its place there
pub record SamePart (x y : Bor (List ℕ)) : Type 0 where
  pub bytes : x.now ≡ y.now
  pub block : x.ref_ptr.0 ≡ y.ref_ptr.0
  pub place : x.ref_ptr.1 ≡ y.ref_ptr.1

pub names_one : (t x y : Bor (List ℕ)) (p : ℕ) → Names t p x → Names t p y → SamePart x y
names_one t x y p h k =
    record { bytes = both h.bytes k.bytes; block = both h.own.block k.own.block; place = both h.own.place k.own.place }

pub names_by_one : (t x y : Bor (List ℕ)) (m : List ℕ) → NamesBy t m x → NamesBy t m y → SamePart x y
names_by_one t x y m h k =
    record { bytes = both h.bytes k.bytes; block = both h.own.block k.own.block; place = both h.own.place k.own.place }

pub name_number_one : (t : List ℕ) (p i j : ℕ) → NameNumbered t p i → NameNumbered t p j → i ≡ j
name_number_one t p i j h k = both h k

pub name_by_number_one : (t m : List ℕ) (i j : ℕ) → NameByNumbered t m i → NameByNumbered t m j → i ≡ j
name_by_number_one t m i j h k = both h k

pub reads_one : (t f : List ℕ) (p s : ℕ) (r q : Read) → Reads t f p s r → Reads t f p s q → r ≡ q
reads_one t f p s r q h k = both h k

pub read_number_one : (r : Read) (i j : ℕ) → ReadNumbered r i → ReadNumbered r j → i ≡ j
read_number_one r i j h k = both h k

pub places_one : (t f a b : List ℕ) (p s v : ℕ) (r q : Placed) → Places t f p s v r a → Places t f p s v q b → (r ≡ q) × (a ≡ b)
places_one t f a b p s v r q h k = (both h.0 k.0, both h.1 k.1)

pub place_number_one : (r : Placed) (i j : ℕ) → PlaceNumbered r i → PlaceNumbered r j → i ≡ j
place_number_one r i j h k = both h k

pub compares_one : (t f : List ℕ) (r q : Compared) → Compares t f r → Compares t f q → r ≡ q
compares_one t f r q h k = both h k

pub compare_number_one : (r : Compared) (i j : ℕ) → CompareNumbered r i → CompareNumbered r j → i ≡ j
compare_number_one r i j h k = both h k

pub pages_one : (t f : List ℕ) (qs : List Request) (rs a b : List Outcome) (x y : Paged) → Pages t f qs rs x a → Pages t f qs rs y b → (x ≡ y) × (a ≡ b)
pages_one t f qs rs a b x y h k = (both h.0 k.0, both h.1 k.1)

pub cards_one : (t y w a b : List ℕ) (from : ℕ) (r q : Carded) → Cards t y from w r a → Cards t y from w q b → (r ≡ q) × (a ≡ b)
cards_one t y w a b from r q h k = (both h.0 k.0, both h.1 k.1)

pub card_number_one : (r : Carded) (i j : ℕ) → CardNumbered r i → CardNumbered r j → i ≡ j
card_number_one r i j h k = both h k

pub frame_bits_one : (t : List ℕ) (i j : ℕ) → FrameBits t i → FrameBits t j → i ≡ j
frame_bits_one t i j h k = both h k

pub fills_one : (x l a b : List ℕ) (need i j : ℕ) → Fills x need l i a → Fills x need l j b → (i ≡ j) × (a ≡ b)
fills_one x l a b need i j h k = (both h.0 k.0, both h.1 k.1)

pub words_one : (x l a b : List ℕ) (i j : ℕ) → WordsFill x l i a → WordsFill x l j b → (i ≡ j) × (a ≡ b)
words_one x l a b i j h k = (both h.0 k.0, both h.1 k.1)

-- ---- the C interface

pub makes_out_one : (s l a b : List ℕ) (m n : OrbMade) → MakesOut s l m a → MakesOut s l n b → (m ≡ n) × (a ≡ b)
makes_out_one s l a b m n h k = (both h.0 k.0, both h.1 k.1)

pub checks_out_one : (t : List ℕ) (i j : ℕ) → ChecksOut t i → ChecksOut t j → i ≡ j
checks_out_one t i j h k = both h k

pub names_out_one : (t : List ℕ) (p : ℕ) (x y : OrbName) → NamesOut t p x → NamesOut t p y → x ≡ y
names_out_one t p x y h k = both h k

pub names_by_out_one : (t m : List ℕ) (x y : OrbName) → NamesByOut t m x → NamesByOut t m y → x ≡ y
names_by_out_one t m x y h k = both h k

pub reads_out_one : (t f : List ℕ) (p s : ℕ) (x y : Outcome) → ReadsOut t f p s x → ReadsOut t f p s y → x ≡ y
reads_out_one t f p s x y h k = both h k

pub places_out_one : (t f a b : List ℕ) (p s v i j : ℕ) → PlacesOut t f p s v i a → PlacesOut t f p s v j b → (i ≡ j) × (a ≡ b)
places_out_one t f a b p s v i j h k = (both h.0 k.0, both h.1 k.1)

pub compares_out_one : (t f : List ℕ) (x y : OrbCompared) → ComparesOut t f x → ComparesOut t f y → x ≡ y
compares_out_one t f x y h k = both h k

pub pages_out_one : (t f : List ℕ) (qs : List Request) (rs a b : List Outcome) (x y : Paged) → PagesOut t f qs rs x a → PagesOut t f qs rs y b → (x ≡ y) × (a ≡ b)
pages_out_one t f qs rs a b x y h k = (both h.0 k.0, both h.1 k.1)

pub cards_out_one : (t y w a b : List ℕ) (from : ℕ) (r q : OrbCarded) → CardsOut t y from w r a → CardsOut t y from w q b → (r ≡ q) × (a ≡ b)
cards_out_one t y w a b from r q h k = (both h.0 k.0, both h.1 k.1)

pub frame_bits_out_one : (t : List ℕ) (i j : ℕ) → FrameBitsOut t i → FrameBitsOut t j → i ≡ j
frame_bits_out_one t i j h k = both h k
