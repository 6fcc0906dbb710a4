-- The calls of any bench, ours or another's: what each answers, and what it leaves of the bytes and words it was lent.
use Rattle.std.specs.Prelude.{ℕ, List}
use Rattle.std.specs.Borrow.{Bor}
use Rattle.framing.specs.declared.page.Request.{Request}
use Rattle.framing.specs.declared.page.Outcome.{Outcome}
use Rattle.framing.specs.declared.page.Paged.{Paged}
use Rattle.bench.specs.Promises.{Makes, Checks, Reads, Places, Compares, Pages, Names, NameNumbered, NamesBy, NameByNumbered, Cards, FrameBits}
use Rattle.framing.specs.Placing.{Placed}
use Rattle.table.specs.Answers.{Checked}
use Rattle.framing.specs.Comparing.{Compared}
use Rattle.framing.specs.Reading.{Read}
use Rattle.maker.specs.Made.{Made}
use Rattle.carding.specs.Answer.{Carded}

pub record Calls : Type 0 where
  -- sheet, lent bytes
  pub make : List ℕ → List ℕ → Made
  pub made : List ℕ → List ℕ → List ℕ
  -- table
  pub check : List ℕ → Checked
  -- table, words, parameter, sample
  pub read : List ℕ → List ℕ → ℕ → ℕ → Read
  -- and a value
  pub place : List ℕ → List ℕ → ℕ → ℕ → ℕ → Placed
  pub placed : List ℕ → List ℕ → ℕ → ℕ → ℕ → List ℕ
  pub compare : List ℕ → List ℕ → Compared
  -- table, words, requests, lent results
  pub page : List ℕ → List ℕ → List Request → List Outcome → Paged
  pub paged : List ℕ → List ℕ → List Request → List Outcome → List Outcome
  -- table, parameter: a part of the table, and the number that a second call gives
  pub name : Bor (List ℕ) → ℕ → Bor (List ℕ)
  pub name_number : List ℕ → ℕ → ℕ
  -- table, mnemonic
  pub name_by : Bor (List ℕ) → List ℕ → Bor (List ℕ)
  pub name_by_number : List ℕ → List ℕ → ℕ
  -- table, stream, the bit to begin at, lent words
  pub card_from : List ℕ → List ℕ → ℕ → List ℕ → Carded
  pub handed_from : List ℕ → List ℕ → ℕ → List ℕ → List ℕ
  -- from the first bit on
  pub card : List ℕ → List ℕ → List ℕ → Carded
  pub handed : List ℕ → List ℕ → List ℕ → List ℕ
  -- table
  pub frame_bits : List ℕ → ℕ

-- they keep the promises that the crate bench makes
pub record Kept (B : Calls) : Type 0 where
  pub makes : (s l : List ℕ) → Makes s l (B.make s l) (B.made s l)
  pub checks : (t : List ℕ) → Checks t (B.check t)
  pub reads : (t f : List ℕ) (p s : ℕ) → Reads t f p s (B.read t f p s)
  pub places : (t f : List ℕ) (p s v : ℕ) → Places t f p s v (B.place t f p s v) (B.placed t f p s v)
  pub compares : (t f : List ℕ) → Compares t f (B.compare t f)
  pub pages : (t f : List ℕ) (qs : List Request) (rs : List Outcome) → Pages t f qs rs (B.page t f qs rs) (B.paged t f qs rs)
  pub names : (t : Bor (List ℕ)) (p : ℕ) → Names t p (B.name t p)
  pub names_numbered : (t : List ℕ) (p : ℕ) → NameNumbered t p (B.name_number t p)
  pub names_by : (t : Bor (List ℕ)) (m : List ℕ) → NamesBy t m (B.name_by t m)
  pub names_by_numbered : (t m : List ℕ) → NameByNumbered t m (B.name_by_number t m)
  pub cards_from : (t y : List ℕ) (from : ℕ) (w : List ℕ) → Cards t y from w (B.card_from t y from w) (B.handed_from t y from w)
  pub cards : (t y w : List ℕ) → Cards t y 0 w (B.card t y w) (B.handed t y w)
  pub counts_bits : (t : List ℕ) → FrameBits t (B.frame_bits t)
