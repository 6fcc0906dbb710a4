-- "text is bytes 32 to 126, at most 200 after trimming, 64 for name, mnemonic and identification; a tab inside text is
-- malformed." "For a text field: 7, 8, 6, 9." "A field that must be empty gives only 10."
-- Of the bytes that a line may hold only the tab is not a text's.
use Rattle.std.specs.Prelude.{ℕ, List, [], ◌∷◌, Bool, true, not, ◌&&◌, length, ltb}
use Rattle.lay.specs.Bytes.{same}
use Rattle.lay.specs.Quoted.{quoted}
use Rattle.text.specs.Blanks.{tab, is_empty}
use Rattle.text.specs.Parts.{holds}
use Rattle.text.specs.Refusals.{Judged, when, first}
use Rattle.text.specs.declared.refusal.Refusal.TheVariants.{TextTooLong, FieldEmpty, Misspelt, OtherVersion, NotCarried}

abbrev pub longest_text : ℕ
longest_text = 200

unfoldable pub text_judged : ℕ → Bool → List ℕ → Judged
text_judged most mandatory f =
    first
    (when (ltb most (length f)) TextTooLong
    ∷ when (mandatory && is_empty f) FieldEmpty
    ∷ when (holds tab f) Misspelt
    ∷ [])

-- "Version (must be `2.0`)"
abbrev pub version : List ℕ
version = quoted "2.0"

unfoldable pub version_judged : List ℕ → Judged
version_judged f = first (text_judged longest_text true f ∷ when (not (same f version)) OtherVersion ∷ [])

unfoldable pub empty_judged : List ℕ → Judged
empty_judged f = first (when (not (is_empty f)) NotCarried ∷ [])
