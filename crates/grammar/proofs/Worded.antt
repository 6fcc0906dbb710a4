-- A line that is a keyword, both ways; and texts that keywords are. Assumes nothing.
use mathlib.Core.Path.{◌≡◌, refl}
use mathlib.Core.Bool.{Bool, true, false, cond}
use mathlib.Core.List.{List, []}
use Prim.Native.Nat.{ℕ}
use native.Mathlib.Omega.{arith}
use Rattle.lay.specs.Below.{every}
use Rattle.lay.specs.Bytes.{same}
use Rattle.lay.proofs.Bytes.{same_eq}
use Rattle.text.specs.Blanks.{trim}
use Rattle.text.specs.Keywords.{header_word, record_word, none_word, parameter_word, keyword_of}
use Rattle.text.specs.declared.keyword.Keyword.{Keyword}
use Rattle.text.specs.declared.keyword.Keyword.TheVariants as keyword
use Rattle.model.specs.Forms.{sheet_limits}
use Rattle.model.specs.Rules.{byte_ok, text_ok}
use Rattle.model.specs.Meaning.{TextLaw}
use Rattle.model.proofs.Meanings.{text_law}
use Rattle.grammar.specs.Items.{Text}

law_text : (t : List ℕ) → TextLaw sheet_limits t → Text t
law_text t h = record { short = omega (arith, h.short); each = h.each; begins = h.begins; ends = h.ends }

-- the bytes of a keyword; no keyword has none
abbrev spoken : Keyword → List ℕ
spoken keyword.Header = header_word
spoken keyword.Record = record_word
spoken keyword.Nothing = none_word
spoken keyword.Parameter = parameter_word
spoken keyword.Other = []

pub spoken_text : (w : Keyword) → Text (spoken w)
unfolding text_ok byte_ok every
spoken_text keyword.Header = law_text header_word (text_law sheet_limits header_word refl)
spoken_text keyword.Record = law_text record_word (text_law sheet_limits record_word refl)
spoken_text keyword.Nothing = law_text none_word (text_law sheet_limits none_word refl)
spoken_text keyword.Parameter = law_text parameter_word (text_law sheet_limits parameter_word refl)
spoken_text keyword.Other = law_text [] (text_law sheet_limits [] refl)

-- a keyword, and not another line
abbrev pub Spoken : Keyword → List ℕ → Type 0
Spoken keyword.Header l = trim l ≡ header_word
Spoken keyword.Record l = trim l ≡ record_word
Spoken keyword.Nothing l = trim l ≡ none_word
Spoken keyword.Parameter l = trim l ≡ parameter_word
Spoken keyword.Other l = Unit {0}

pub keyword_spoken : (l : List ℕ) → Spoken (keyword_of l) l
unfolding keyword_of
keyword_spoken l =
    go (same (trim l) header_word) (same (trim l) record_word) (same (trim l) none_word) (same (trim l) parameter_word) refl refl refl refl
  where
    go : (a b c d : Bool) → same (trim l) header_word ≡ a → same (trim l) record_word ≡ b → same (trim l) none_word ≡ c → same (trim l) parameter_word ≡ d
        → Spoken (cond a keyword.Header (cond b keyword.Record (cond c keyword.Nothing (cond d keyword.Parameter keyword.Other)))) l
    go true b c d p q r s = same_eq (trim l) header_word p
    go false true c d p q r s = same_eq (trim l) record_word q
    go false false true d p q r s = same_eq (trim l) none_word r
    go false false false true p q r s = same_eq (trim l) parameter_word s
    go false false false false p q r s = tt

module _ (l : List ℕ) where
  pub spoken_header : trim l ≡ header_word → keyword_of l ≡ keyword.Header
  unfolding keyword_of same
  spoken_header e = rw e

  pub spoken_record : trim l ≡ record_word → keyword_of l ≡ keyword.Record
  unfolding keyword_of same
  spoken_record e = rw e

  pub spoken_none : trim l ≡ none_word → keyword_of l ≡ keyword.Nothing
  unfolding keyword_of same
  spoken_none e = rw e

  pub spoken_parameter : trim l ≡ parameter_word → keyword_of l ≡ keyword.Parameter
  unfolding keyword_of same
  spoken_parameter e = rw e
