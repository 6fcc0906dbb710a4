-- Every lawful Content is said by a sheet, if its plain sheet is not too long. Assumes nothing.
use mathlib.Core.Path.{◌≡◌, refl, ap}
use mathlib.Core.Logic.{inl}
use mathlib.Core.Bool.{true}
use mathlib.Core.List.{List, [], ◌∷◌}
use Prim.Native.Nat.{◌≤◌}
use lib.ListN.{length}
use Rattle.model.specs.Content.{Content, Parameter}
use Rattle.model.specs.Forms.{sheet_limits}
use Rattle.model.specs.Lawful.{lawful}
use Rattle.model.proofs.Meanings.{lawful_law}
use Rattle.grammar.specs.Says.{Says, parameters_of, sheet_lines}
use Rattle.grammar.specs.Plain.{tellings, plain_sheet}
use Rattle.grammar.proofs.PlainLines.{plain_written}
use Rattle.grammar.proofs.LawfulLines.{sheet_fine}

tellings_list : (ps : List Parameter) → parameters_of (tellings ps) ≡ ps
tellings_list [] = refl
tellings_list (p ∷ ps) = ap (λ (l : List Parameter). p ∷ l) (tellings_list ps)

-- nothing lawful is unreachable
pub reachable : (c : Content) → lawful sheet_limits c ≡ true → length (plain_sheet c) ≤ 65536 → Says (plain_sheet c) c
unfolding plain_sheet
reachable c h l =
    record {
      pairs = c.subframes;
      told = tellings c.parameters;
      declare = inl refl;
      list = tellings_list c.parameters;
      written = plain_written (sheet_lines c c.subframes (tellings c.parameters)) (sheet_fine c (lawful_law sheet_limits c h));
      short = l;
      lawful = h;
    }
