use mathlib.Core.Path.{refl, sym, ◌∙◌}
use Rattle.text.specs.Blanks.{space}
use Rattle.spell.specs.Durations.{fraction_of}
use Rattle.spell.proofs.MarkLaws.{mark_left, mark_right, six_asked, six_small_of}
use Rattle.spell.proofs.FractionLaws.{fraction_below, alone, left_marked}
use borrow.Author.Rules.{rules}
use Rattle.spell.proofs.seconds.fraction_in.Goals as goal

pub number-below-requires : goal.number-below-requires
number-below-requires c = six_asked _ _ c.past_first.ensures (fraction_below _ c.requires)

pub number-requires : goal.number-requires
number-requires c = six_asked _ _ c.up_to.ensures (mark_left space 6 6 _ (left_marked _ _ c.up_to-left.ensures c.requires))

pub number-requires-then-holds : goal.number-requires-then-holds
number-requires-then-holds c = six_asked _ _ c.past_first-then-holds.ensures (mark_right space 6 6 _ (left_marked _ _ c.up_to-left.ensures c.requires) (sym c.holds.ensures ∙ c.if-holds.true))

pub returns-then-holds : goal.returns-then-holds
unfolding fraction_of
returns-then-holds c =
    let m = left_marked _ _ c.up_to-left.ensures c.requires in
    let t = sym c.holds.ensures ∙ c.if-holds.true in (
      simp (sym c.up_to-left.ensures, t, sym c.up_to.ensures, sym c.number.ensures.0, sym c.past_first-then-holds.ensures, sym c.number-then-holds.ensures.0, sym c.past_first.ensures, sym c.number-below.ensures.0),
      record {
        whole = six_small_of _ _ _ c.up_to.ensures (mark_left space 6 6 _ m) c.number.ensures.1;
        above = six_small_of _ _ _ c.past_first-then-holds.ensures (mark_right space 6 6 _ m t) c.number-then-holds.ensures.1;
        below = six_small_of _ _ _ c.past_first.ensures (fraction_below _ c.requires) c.number-below.ensures.1;
      },
    )

pub number-requires-2 : goal.number-requires-2
number-requires-2 c = six_asked _ _ refl (alone space _ (left_marked _ _ c.up_to-left.ensures c.requires) (sym c.holds.ensures ∙ c.if-holds.false))

pub returns : goal.returns
unfolding fraction_of
returns c =
    let m = left_marked _ _ c.up_to-left.ensures c.requires in
    let t = sym c.holds.ensures ∙ c.if-holds.false in (
      simp (sym c.up_to-left.ensures, t, sym c.number-2.ensures.0, sym c.past_first.ensures, sym c.number-below.ensures.0),
      record {
        whole = search rules;
        above = six_small_of _ _ _ refl (alone space _ m t) c.number-2.ensures.1;
        below = six_small_of _ _ _ c.past_first.ensures (fraction_below _ c.requires) c.number-below.ensures.1;
      },
    )
