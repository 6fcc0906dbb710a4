use mathlib.Core.Path.{◌≡◌, refl, ap, sym, ◌∙◌}
use mathlib.Core.Bool.{Bool, true, false, cond, ◌||◌}
use mathlib.Core.List.{List, []}
use mathlib.Core.Logic.{◌⊎◌, inl, inr}
use Prim.Native.Nat.{ℕ, ◌+◌, ◌-◌, ◌<◌, ◌≤◌}
use borrow.Author.Tests.{lt-ltb, le-ltb}
use denote.Bor.{Bor}
use lib.Dec.{ltb}
use lib.ListN.{length}
use Rattle.std.specs.List.{slice_range}
use Rattle.std.specs.Option.{MatchOption, unwrap_or}
use Rattle.std.specs.declared.option.Option.{Option}
use Rattle.std.specs.declared.option.Option.TheVariants.{Some, None}
use Rattle.lay.specs.Bytes.{part}
use Rattle.judge.specs.Names.{text_at}
use Rattle.judge.specs.declared.names.Place.{Place}
use Rattle.judge.proofs.names.text_at.Goals as goal

either : (t : Bool) (x : List ℕ) → cond (t || true) [] x ≡ []
either true x = refl
either false x = refl

-- what `get` answers, or nothing
found_text : (s : List ℕ) (p : Place) (r : Option (Bor (List ℕ))) (none : Bor (List ℕ)) → none.now ≡ []
    → MatchOption r ((p.end < p.start) ⊎ (length s < p.end)) (λ x. (p.start ≤ p.end) × (p.end ≤ length s) × (x.now ≡ slice_range s p.start p.end) × (length x.now + p.start ≡ p.end))
    → (unwrap_or r none).now ≡ text_at s p
unfolding text_at
found_text s p (Some x) none e h = rw (le-ltb p.end p.start h.0, le-ltb (length s) p.end h.1) h.2
found_text s p None none e (inl h) = rw (lt-ltb p.end p.start h) e
found_text s p None none e (inr h) = rw (lt-ltb (length s) p.end h) (e ∙ sym (either (ltb p.end p.start) (part s p.start (p.end - p.start))))

pub returns : goal.returns
returns c = ap (λ (r : Bor (List ℕ)). r.now) c.unwrap_or.ensures ∙ found_text c.args.sheet.now c.args.place c.get.result _ refl c.get.ensures.lookup.0
