-- Not part of the meaning: what the check and the fit say, found once for all reads of a page.
use Rattle.std.specs.Prelude.{◌≡◌, true, false, List, ℕ, Option, Some, None}
use Rattle.model.specs.Accepts.{accepts}
use Rattle.frame.specs.declared.found.Page.{Page}

-- of a table's bytes and a frame's words
pub record Opened (t w : List ℕ) (g : Page) : Type 0 where
  pub accepted : accepts t ≡ true
  pub bytes : g.table.ruled.declared.table.bytes.now ≡ t
  pub words : g.words.now ≡ w

-- nothing where the bytes are no table
abbrev pub PageOf : List ℕ → List ℕ → Option Page → Type 0
PageOf t w (Some g) = Opened t w g
PageOf t w None = accepts t ≡ false
