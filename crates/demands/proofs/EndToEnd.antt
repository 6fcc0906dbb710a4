-- From the sheet to the value: of any bench that meets the demands. Assumes nothing.
use mathlib.Core.Path.{◌≡◌, sym, ap, subst, ◌∙◌}
use mathlib.Core.Bool.{true}
use mathlib.Core.List.{List}
use Prim.Native.Nat.{ℕ}
use lib.ListN.{take}
use Rattle.model.specs.Content.{Content}
use Rattle.model.specs.Frame.{meets}
use Rattle.model.specs.View.{view}
use Rattle.grammar.specs.Says.{Says}
use Rattle.grammar.proofs.Exactly.{one_saying}
use Rattle.demands.specs.Calls.{Calls}
use Rattle.demands.specs.Demands.{HasSample, answer_in, Demands}
use Rattle.std.specs.Prelude.{Ok}
use Rattle.framing.specs.Reading.{Read}

-- what a read of sample s of parameter p must answer, by what the sheet says
abbrev pub read_by : Content → List ℕ → ℕ → ℕ → Read
read_by c f p s = answer_in c f p s

-- by a table made of a sheet that says c
pub record ReadAsSaid (B : Calls) (s l : List ℕ) (n : ℕ) (c : Content) : Type 0 where
  -- the table passes the check
  pub passes : B.check (take n (B.made s l)) ≡ Ok tt
  -- and every read by it of a frame that fits is the joining, lowest first and signed as said, of what the sheet lists
  pub reads : (f : List ℕ) (p q : ℕ) → meets c f ≡ true → HasSample c p q → B.read (take n (B.made s l)) f p q ≡ read_by c f p q

-- the sheet says one thing, and all is read as said
pub record EndToEnd (B : Calls) (s l : List ℕ) (n : ℕ) : Type 0 where
  pub content : Content
  pub says : Says s content
  pub nothing_else : (d : Content) → Says s d → d ≡ content
  pub said : ReadAsSaid B s l n content

module _ (B : Calls) (D : Demands B) where
  pub read_as_said : (s l : List ℕ) (n : ℕ) (c : Content) → Says s c → B.make s l ≡ Ok n → ReadAsSaid B s l n c
  read_as_said s l n c e h =
      let v : view (take n (B.made s l)) ≡ c = D.two.sheet.says s l n c h e in
      let k = D.three.passes s l n h in
      record {
        passes = k;
        reads = λ f p q m a. subst (λ (d : Content). B.read (take n (B.made s l)) f p q ≡ read_by d f p q) v (D.two.joined (take n (B.made s l)) f p q (record { passes = k; fits = ap (λ (d : Content). meets d f) v ∙ m }) (subst (λ (d : Content). HasSample d p q) (sym v) a));
      }

  pub end_to_end : (s l : List ℕ) (n : ℕ) → B.make s l ≡ Ok n → EndToEnd B s l n
  end_to_end s l n h =
      let w = D.two.sheet.only s l n h in
      record {
        content = w.0;
        says = w.1;
        nothing_else = λ d e. one_saying s d w.0 e w.1;
        said = read_as_said s l n w.0 w.1 h;
      }
