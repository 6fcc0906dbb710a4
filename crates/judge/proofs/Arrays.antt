-- What the code stores at each line, and keeps where the line adds an item. Assumes nothing.
use mathlib.Core.Path.{◌≡◌, refl, sym, ap, ap₂, ◌∙◌}
use mathlib.Core.List.{List, [], ◌∷◌, ◌++◌}
use Prim.Native.Nat.{ℕ, ◌≤◌, ◌<◌}
use native.Mathlib.Omega.{arith}
use borrow.Author.Count.{below_more}
use lib.ListN.{length, get_or, take, set, length-set, get_or-append}
use lib.Seq.{get_or_at}
use Rattle.std.proofs.lemmas.List.{take-set, take_more_set}
use Rattle.lineforms.specs.declared.due.Form.{Form}
use Rattle.lineforms.specs.declared.due.Form.TheVariants.{Stray, Superframe, HeaderWord, HeaderLine, RecordWord, RecordLine, NoneWord, ParameterWord, NameLine, OpeningComponent, ComponentLine, TimeLine, SamplesEnd, SignedLine, RangeLine, SourceLine, LabelLine, SourceEnd, ParameterEnd}
use Rattle.model.specs.Content.{Parameter, Subframe, no_parameter}
use Rattle.model.specs.Forms.{sheet_limits}
use Rattle.gather.specs.Book.{Book, grow, subframe_of, words_of, bits_of}
use Rattle.gather.specs.Ruling.{opens}
use Rattle.judge.specs.Keeping.{words_said, bits_said, is_good, home_of}
use Rattle.judge.specs.Rows.{pair_rows, no_kept}
use Rattle.judge.specs.Turns.{opened_after}
use Rattle.judge.specs.declared.rows.Kept.{Kept}
use Rattle.judge.proofs.Growing.{length_snoc}
use Rattle.judge.proofs.Standing.{Held}
use Rattle.judge.proofs.Apart.{Here}

-- ---- words and bits of each record pair

words_snoc : (ps : List Subframe) (p : Subframe) → words_of (ps ++ (p ∷ [])) ≡ words_of ps ++ (p.words ∷ [])
unfolding words_of
words_snoc [] p = refl
words_snoc (q ∷ ps) p = ap (λ (l : List ℕ). q.words ∷ l) (words_snoc ps p)

bits_snoc : (ps : List Subframe) (p : Subframe) → bits_of (ps ++ (p ∷ [])) ≡ bits_of ps ++ (p.bits ∷ [])
unfolding bits_of
bits_snoc [] p = refl
bits_snoc (q ∷ ps) p = ap (λ (l : List ℕ). q.bits ∷ l) (bits_snoc ps p)

pub record Paired (ps : List Subframe) (ws bs : List ℕ) : Type 0 where
  pub long : length ws ≡ pair_rows
  pub longs : length bs ≡ pair_rows
  pub words : take (length ps) ws ≡ words_of ps
  pub bits : take (length ps) bs ≡ bits_of ps

module _ (ps : List Subframe) (ws bs : List ℕ) (w b : ℕ) (h : Paired ps ws bs) where
  paired_same : Paired ps (set ws (length ps) w) (set bs (length ps) b)
  paired_same =
      record {
        long = length-set ws (length ps) w ∙ h.long;
        longs = length-set bs (length ps) b ∙ h.longs;
        words = take-set ws (length ps) w ∙ h.words;
        bits = take-set bs (length ps) b ∙ h.bits;
      }

  paired_more : (p : Subframe) → length ps ≤ sheet_limits.subframes → w ≡ p.words → b ≡ p.bits
      → Paired (ps ++ (p ∷ [])) (set ws (length ps) w) (set bs (length ps) b)
  paired_more p m e f =
      let n = length ps in
      record {
        long = length-set ws n w ∙ h.long;
        longs = length-set bs n b ∙ h.longs;
        words =
            ap (λ (k : ℕ). take k (set ws n w)) (length_snoc ps p)
            ∙ (take_more_set ws n w (omega (arith, h.long)) ∙ (ap₂ (λ (l : List ℕ) (x : ℕ). l ++ (x ∷ [])) h.words e ∙ sym (words_snoc ps p)));
        bits =
            ap (λ (k : ℕ). take k (set bs n b)) (length_snoc ps p)
            ∙ (take_more_set bs n b (omega (arith, h.longs)) ∙ (ap₂ (λ (l : List ℕ) (x : ℕ). l ++ (x ∷ [])) h.bits f ∙ sym (bits_snoc ps p)));
      }

pub paired_step : (f : Form) (l : List ℕ) (K : Book) (ws bs : List ℕ) → Paired K.pairs ws bs → length K.pairs ≤ sheet_limits.subframes
    → Paired (grow f l K).pairs (set ws (length K.pairs) (words_said f l)) (set bs (length K.pairs) (bits_said f l))
paired_step Stray l K ws bs h m = paired_same K.pairs ws bs 0 0 h
paired_step Superframe l K ws bs h m = paired_same K.pairs ws bs 0 0 h
paired_step HeaderWord l K ws bs h m = paired_same K.pairs ws bs 0 0 h
paired_step HeaderLine l K ws bs h m = paired_same K.pairs ws bs 0 0 h
paired_step RecordWord l K ws bs h m = paired_same K.pairs ws bs 0 0 h
paired_step RecordLine l K ws bs h m = paired_more K.pairs ws bs _ _ h (subframe_of l) m refl refl
paired_step NoneWord l K ws bs h m = paired_same K.pairs ws bs 0 0 h
paired_step ParameterWord l K ws bs h m = paired_same K.pairs ws bs 0 0 h
paired_step NameLine l K ws bs h m = paired_same K.pairs ws bs 0 0 h
paired_step OpeningComponent l K ws bs h m = paired_same K.pairs ws bs 0 0 h
paired_step ComponentLine l K ws bs h m = paired_same K.pairs ws bs 0 0 h
paired_step TimeLine l K ws bs h m = paired_same K.pairs ws bs 0 0 h
paired_step SamplesEnd l K ws bs h m = paired_same K.pairs ws bs 0 0 h
paired_step SignedLine l K ws bs h m = paired_same K.pairs ws bs 0 0 h
paired_step RangeLine l K ws bs h m = paired_same K.pairs ws bs 0 0 h
paired_step SourceLine l K ws bs h m = paired_same K.pairs ws bs 0 0 h
paired_step LabelLine l K ws bs h m = paired_same K.pairs ws bs 0 0 h
paired_step SourceEnd l K ws bs h m = paired_same K.pairs ws bs 0 0 h
paired_step ParameterEnd l K ws bs h m = paired_same K.pairs ws bs 0 0 h

-- ---- a row for each parameter

-- in the sheet s, what r keeps of p, whose `PARAMETER:` word is line k
pub record Keeps (s : List ℕ) (p : Parameter) (k : ℕ) (r : Kept) : Type 0 where
  pub places : Here s r.places p
  pub identifier : r.identifier ≡ p.identifier
  pub good : r.good ≡ is_good p
  pub home : r.home ≡ home_of p
  pub value : r.value ≡ p.value
  pub opened_at : r.opened_at ≡ k

-- os are the lines of the `PARAMETER:` words
pub record Kepts (s : List ℕ) (ps : List Parameter) (os : List ℕ) (ks : List Kept) : Type 0 where
  pub long : length ks ≡ length ps
  pub each : (k : ℕ) → k < length ps → Keeps s (get_or ps k no_parameter) (get_or os k 0) (get_or ks k no_kept)

pub kepts_none : (s : List ℕ) → Kepts s [] [] []
kepts_none s = record { long = refl; each = λ k l. absurd (omega arith) }

module _ (s : List ℕ) (ps : List Parameter) (os : List ℕ) where
  kepts_more : (ks : List Kept) (p : Parameter) (v : Kept) → Kepts s ps os ks → Keeps s p (get_or os (length ps) 0) v → Kepts s (ps ++ (p ∷ [])) os (ks ++ (v ∷ []))
  kepts_more ks p v h e =
      record {
        long = omega (arith, h.long, length_snoc ks v, length_snoc ps p);
        each =
            λ k l.
            below_more (λ (i : ℕ). Keeps s (get_or (ps ++ (p ∷ [])) i no_parameter) (get_or os i 0) (get_or (ks ++ (v ∷ [])) i no_kept)) (length ps)
            (λ i m. rw (get_or-append ps (p ∷ []) no_parameter i m, get_or-append ks (v ∷ []) no_kept i (omega (arith, h.long))) (h.each i m))
            (rw (get_or_at ps p [] no_parameter (length ps) refl, get_or_at ks v [] no_kept (length ps) h.long) e)
            k
            (omega (arith, length_snoc ps p));
      }

  -- one word more
  kepts_opened : (ks : List Kept) (k : ℕ) → Kepts s ps os ks → length ps ≤ length os → Kepts s ps (os ++ (k ∷ [])) ks
  kepts_opened ks k h m =
      record { long = h.long; each = λ i l. rw (get_or-append os (k ∷ []) 0 i (omega arith)) (h.each i l) }

  -- a store behind the rows that stay
  module _ (xs : List Kept) (v : Kept) (h : Kepts s ps os (take (length ps) xs)) where
    kept_same : Kepts s ps os (take (length ps) (set xs (length ps) v))
    kept_same = rw (take-set xs (length ps) v) h

    kept_more : (p : Parameter) → length ps < length xs → Keeps s p (get_or os (length ps) 0) v → Kepts s (ps ++ (p ∷ [])) os (take (length (ps ++ (p ∷ []))) (set xs (length ps) v))
    kept_more p m e = rw (length_snoc ps p, take_more_set xs (length ps) v m) (kepts_more (take (length ps) xs) p v h e)

pub kept_step : (f : Form) (l : List ℕ) (K : Book) (s os : List ℕ) (k : ℕ) (xs : List Kept) (v : Kept) → Held f K os
    → Kepts s K.parameters os (take (length K.parameters) xs)
    → length K.parameters < length xs
    → (length K.parameters < length os → Keeps s K.opened (get_or os (length K.parameters) 0) v)
    → Kepts s (grow f l K).parameters (opens f k os) (take (length (grow f l K).parameters) (set xs (length K.parameters) v))
kept_step Stray l K s os k xs v w h m e = kept_same s K.parameters os xs v h
kept_step Superframe l K s os k xs v w h m e = kept_same s K.parameters os xs v h
kept_step HeaderWord l K s os k xs v w h m e = kept_same s K.parameters os xs v h
kept_step HeaderLine l K s os k xs v w h m e = kept_same s K.parameters os xs v h
kept_step RecordWord l K s os k xs v w h m e = kept_same s K.parameters os xs v h
kept_step RecordLine l K s os k xs v w h m e = kept_same s K.parameters os xs v h
kept_step NoneWord l K s os k xs v w h m e = kept_same s K.parameters os xs v h
kept_step ParameterWord l K s os k xs v w h m e = kepts_opened s K.parameters os (take (length K.parameters) (set xs (length K.parameters) v)) k (kept_same s K.parameters os xs v h) (omega (arith, w.level.count))
kept_step NameLine l K s os k xs v w h m e = kept_same s K.parameters os xs v h
kept_step OpeningComponent l K s os k xs v w h m e = kept_same s K.parameters os xs v h
kept_step ComponentLine l K s os k xs v w h m e = kept_same s K.parameters os xs v h
kept_step TimeLine l K s os k xs v w h m e = kept_same s K.parameters os xs v h
kept_step SamplesEnd l K s os k xs v w h m e = kept_same s K.parameters os xs v h
kept_step SignedLine l K s os k xs v w h m e = kept_same s K.parameters os xs v h
kept_step RangeLine l K s os k xs v w h m e = kept_same s K.parameters os xs v h
kept_step SourceLine l K s os k xs v w h m e = kept_same s K.parameters os xs v h
kept_step LabelLine l K s os k xs v w h m e = kept_same s K.parameters os xs v h
kept_step SourceEnd l K s os k xs v w h m e = kept_same s K.parameters os xs v h
kept_step ParameterEnd l K s os k xs v w h m e = kept_more s K.parameters os xs v h K.opened m (e (omega (arith, w.count)))

-- the line of the open parameter's word
pub opened_step : (f : Form) (l : List ℕ) (K : Book) (os : List ℕ) (k o : ℕ) → Held f K os
    → (length K.parameters < length os → o ≡ get_or os (length K.parameters) 0)
    → length (grow f l K).parameters < length (opens f k os) → opened_after f k o ≡ get_or (opens f k os) (length (grow f l K).parameters) 0
opened_step Stray l K os k o w h m = h m
opened_step Superframe l K os k o w h m = h m
opened_step HeaderWord l K os k o w h m = h m
opened_step HeaderLine l K os k o w h m = h m
opened_step RecordWord l K os k o w h m = h m
opened_step RecordLine l K os k o w h m = h m
opened_step NoneWord l K os k o w h m = h m
opened_step ParameterWord l K os k o w h m = sym (get_or_at os k [] 0 (length K.parameters) w.level.count)
opened_step NameLine l K os k o w h m = h m
opened_step OpeningComponent l K os k o w h m = h m
opened_step ComponentLine l K os k o w h m = h m
opened_step TimeLine l K os k o w h m = h m
opened_step SamplesEnd l K os k o w h m = h m
opened_step SignedLine l K os k o w h m = h m
opened_step RangeLine l K os k o w h m = h m
opened_step SourceLine l K os k o w h m = h m
opened_step LabelLine l K os k o w h m = h m
opened_step SourceEnd l K os k o w h m = h m
opened_step ParameterEnd l K os k o w h m = absurd (omega (arith, w.count, length_snoc K.parameters K.opened))
