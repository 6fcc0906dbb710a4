-- What a text, the version and an empty field take, exactly. Assumes nothing.
use mathlib.Core.Path.{◌≡◌, refl, ap}
use mathlib.Core.Logic.{◌↔◌}
use mathlib.Core.Bool.{Bool, true, false, not, ◌&&◌}
use mathlib.Core.List.{List, []}
use Prim.Native.Nat.{ℕ, ◌≤◌}
use lib.ListN.{length}
use borrow.Author.Tests.{not-false, ltb-false, le-ltb}
use Rattle.lay.proofs.Bytes.{same_eq, same_made}
use Rattle.text.specs.Blanks.{tab, is_empty}
use Rattle.text.specs.Parts.{holds, index_of}
use Rattle.text.specs.Refusals.{first}
use Rattle.std.specs.Prelude.{Ok}
use Rattle.spell.specs.Texts.{longest_text, text_judged, version, version_judged, empty_judged}
use Rattle.written.specs.Words.{IsText}
use Rattle.written.proofs.Tests.{not_zero, zero_not}
use Rattle.written.proofs.Passing.{first_all, all_first, when_false, false_when}
use Rattle.written.proofs.Marks.{holds_without, without_holds}
use Rattle.written.proofs.Empty.{empty_nil, nil_empty}

-- ---- text, and where it is mandatory not empty

some_of : (m : Bool) (f : List ℕ) → (m && is_empty f) ≡ false → m ≡ true → 1 ≤ length f
some_of true f e h = not_zero (length f) e
some_of false f e h = absurd (cc)

of_some : (m : Bool) (f : List ℕ) → (m ≡ true → 1 ≤ length f) → (m && is_empty f) ≡ false
of_some true f h = zero_not (length f) (h refl)
of_some false f h = refl

pub text_exactly : (most : ℕ) (mandatory : Bool) (f : List ℕ) → (text_judged most mandatory f ≡ Ok tt) ↔ (IsText most f × (mandatory ≡ true → 1 ≤ length f))
unfolding text_judged
text_exactly most mandatory f = (
  λ e.
      let p = first_all _ e in (
        record { short = ltb-false most (length f) (when_false _ _ p.0); plain = holds_without tab f (when_false _ _ p.1.1.0) },
        some_of mandatory f (when_false _ _ p.1.0),
      ),
  λ r.
      let t = r.0 in
      all_first _ (
        false_when _ _ (le-ltb most (length f) t.short),
        (false_when _ _ (of_some mandatory f r.1), (false_when _ _ (without_holds tab f t.plain), tt)),
      ),
)

-- ---- the version is one text

version_text : text_judged longest_text true version ≡ Ok tt
unfolding text_judged first holds index_of
version_text = refl

pub version_exactly : (f : List ℕ) → (version_judged f ≡ Ok tt) ↔ (f ≡ version)
unfolding version_judged
version_exactly f = (
  λ e. same_eq f version (not-false _ (when_false _ _ (first_all _ e).1.0)),
  λ e. all_first _ (rw e version_text, (false_when _ _ (ap not (same_made f version e)), tt)),
)

-- ---- empty is empty

pub empty_exactly : (f : List ℕ) → (empty_judged f ≡ Ok tt) ↔ (f ≡ [])
unfolding empty_judged
empty_exactly f = (
  λ e. empty_nil f (not-false _ (when_false _ _ (first_all _ e).0)),
  λ e. all_first _ (false_when _ _ (ap not (nil_empty f e)), tt),
)
