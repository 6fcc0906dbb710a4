-- A sheet is accepted exactly where the grammar says so; it says one Content; and nothing lawful is out of reach but by its
-- length (Reachable). Assumes nothing.
use mathlib.Core.Path.{◌≡◌, sym, ap, ◌∙◌}
use mathlib.Core.Logic.{◌↔◌}
use mathlib.Core.List.{List}
use Prim.Native.Nat.{ℕ}
use Rattle.model.specs.Content.{Content}
use Rattle.gather.specs.Ruling.{Ruling, Accepted, Refused, judge_of}
use Rattle.grammar.specs.Says.{Says}
use Rattle.grammar.proofs.Accepted.{accepted_says}
use Rattle.grammar.proofs.Accepts.{says_accepted}

-- "A sheet is accepted exactly under TP 13140E 2.0 as narrowed by the scope paper"
pub accepted_exactly : (x : List ℕ) (c : Content) → (judge_of x ≡ Accepted c) ↔ Says x c
accepted_exactly x c = (accepted_says x c, says_accepted x c)

abbrev content : Content → Ruling → Content
content d (Accepted c) = c
content d (Refused q k) = d

-- a sheet says one thing
pub one_saying : (x : List ℕ) (c d : Content) → Says x c → Says x d → c ≡ d
one_saying x c d p q = ap (content c) (sym (says_accepted x c p) ∙ says_accepted x d q)
