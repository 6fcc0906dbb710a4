-- One answer for each outcome.
use mathlib.Core.Path.{sym, ◌∙◌}
use borrow.Author.Tests.{eq-eqb, ne_eqb}
use Rattle.framing.specs.Fitting.{fit_of}
use Rattle.frame.proofs.fit.fit_of.Goals as goal

pub returns-then-words-frame_words : goal.returns-then-words-frame_words
unfolding fit_of
returns-then-words-frame_words c = simp (ne_eqb _ _ (λ q. c.if-words-frame_words.true (q ∙ sym c.frame_words.ensures)))

pub invariant_of-frame : goal.invariant_of-frame
invariant_of-frame c = record { words_len = c.if-words-frame_words.false ∙ c.frame_words.ensures }

pub returns-then-not-words_ok : goal.returns-then-not-words_ok
unfolding fit_of
returns-then-not-words_ok c =
    simp (
      eq-eqb _ _ (c.if-words-frame_words.false ∙ c.frame_words.ensures),
      sym c.words_ok.ensures ∙ c.if-not-words_ok.true,
    )

pub returns : goal.returns
unfolding fit_of
returns c =
    simp (
      eq-eqb _ _ (c.if-words-frame_words.false ∙ c.frame_words.ensures),
      sym c.words_ok.ensures ∙ c.if-not-words_ok.false,
    )
