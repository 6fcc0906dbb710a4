-- 15 by the places of texts, and the places of the open parameter's texts. Assumes nothing.
use mathlib.Core.Path.{◌≡◌, refl, sym, ap, ◌∙◌}
use mathlib.Core.Bool.{Bool, true, false, not, ◌&&◌, ◌||◌}
use mathlib.Core.List.{List, [], ◌∷◌}
use Prim.Native.Nat.{ℕ, ◌+◌, ◌-◌, ◌<◌, ◌≤◌}
use native.Mathlib.Omega.{arith}
use borrow.Author.Tests.{le-ltb}
use lib.ListN.{length, get_or, take, drop, length-take}
use lib.Seq.{drop-drop, take-take}
use Rattle.std.specs.List.{list_all}
use Rattle.lay.specs.Below.{every}
use Rattle.lay.specs.Bytes.{same, part}
use Rattle.text.specs.Blanks.{is_empty}
use Rattle.text.specs.Fields.{field_of, field_at}
use Rattle.text.specs.Refusals.{when}
use Rattle.text.specs.declared.refusal.Refusal.TheVariants.{Repeated}
use Rattle.text.proofs.Cuts.{drop_take}
use Rattle.text.proofs.Places.{within_at, bytes_at}
use Rattle.lineforms.specs.declared.due.Form.{Form}
use Rattle.lineforms.specs.declared.due.Form.TheVariants.{Stray, Superframe, HeaderWord, HeaderLine, RecordWord, RecordLine, NoneWord, ParameterWord, NameLine, OpeningComponent, ComponentLine, TimeLine, SamplesEnd, SignedLine, RangeLine, SourceLine, LabelLine, SourceEnd, ParameterEnd}
use Rattle.model.specs.Content.{Parameter, no_parameter}
use Rattle.model.specs.Identifiers.{named_apart}
use Rattle.gather.specs.Book.{Book, grow, named_of}
use Rattle.gather.specs.Tests.{apart_from, names_test}
use Rattle.judge.specs.Rows.{no_kept}
use Rattle.judge.specs.Names.{text_at, differs_in, unlike_names, names_in, no_place, place_in, places_after}
use Rattle.judge.specs.declared.names.Places.{Places}
use Rattle.judge.specs.declared.rows.Kept.{Kept}
use Rattle.judge.proofs.Lists.{same_all}

-- ---- places

-- a part of a part
part_part : (s : List ℕ) (a n b m : ℕ) → b + m ≤ n → part (part s a n) b m ≡ part s (a + b) m
part_part s a n b m h =
    ap (take m) (drop_take b n (drop a s)) ∙ (take-take m (n - b) (drop b (drop a s)) (omega arith) ∙ ap (take m) (drop-drop b a s))

-- a field of a line, by its place in the sheet
text_field : (s l : List ℕ) (a n k : ℕ) → l ≡ part s a n → a + n ≤ length s → text_at s (place_in l a k) ≡ field_of k l
unfolding text_at
text_field s l a n k e h =
    let f = field_at k l in
    let w = within_at k l in
    let m : length l ≤ n = rw e (omega (arith, length-take n (drop a s))) in
    let d : a + f.end - (a + f.start) ≡ f.end - f.start = omega (arith, w.ordered) in
    rw (le-ltb (a + f.end) (a + f.start) (omega (arith, w.ordered)), le-ltb (length s) (a + f.end) (omega (arith, w.inside)), d)
    (sym (part_part s a n f.start (f.end - f.start) (omega (arith, w.ordered, w.inside)))
    ∙ (ap (λ (t : List ℕ). part t f.start (f.end - f.start)) (sym e) ∙ bytes_at k l))

pub record Here (s : List ℕ) (h : Places) (p : Parameter) : Type 0 where
  pub name : text_at s h.name ≡ p.name
  pub mnemonic : text_at s h.mnemonic ≡ p.mnemonic
  pub identification : text_at s h.identification ≡ p.identification

pub no_text : (s : List ℕ) → text_at s no_place ≡ []
unfolding text_at
no_text s = rw (le-ltb (length s) 0 (omega arith))

pub here_step : (f : Form) (l : List ℕ) (K : Book) (s : List ℕ) (a n : ℕ) (h : Places) → l ≡ part s a n → a + n ≤ length s → Here s h K.opened → Here s (places_after f l a h) (grow f l K).opened
here_step Stray l K s a n h e m w = w
here_step Superframe l K s a n h e m w = w
here_step HeaderWord l K s a n h e m w = w
here_step HeaderLine l K s a n h e m w = w
here_step RecordWord l K s a n h e m w = w
here_step RecordLine l K s a n h e m w = w
here_step NoneWord l K s a n h e m w = w
here_step ParameterWord l K s a n h e m w = w
here_step NameLine l K s a n h e m w = record { name = text_field s l a n 0 e m; mnemonic = text_field s l a n 1 e m; identification = text_field s l a n 2 e m }
here_step OpeningComponent l K s a n h e m w = w
here_step ComponentLine l K s a n h e m w = w
here_step TimeLine l K s a n h e m w = record { name = w.name; mnemonic = w.mnemonic; identification = w.identification }
here_step SamplesEnd l K s a n h e m w = w
here_step SignedLine l K s a n h e m w = record { name = w.name; mnemonic = w.mnemonic; identification = w.identification }
here_step RangeLine l K s a n h e m w = record { name = w.name; mnemonic = w.mnemonic; identification = w.identification }
here_step SourceLine l K s a n h e m w = w
here_step LabelLine l K s a n h e m w = w
here_step SourceEnd l K s a n h e m w = w
here_step ParameterEnd l K s a n h e m w = record { name = no_text s; mnemonic = no_text s; identification = no_text s }

-- ---- names, mnemonics and identifications apart

or_true : (e : Bool) → (e || true) ≡ true
or_true true = refl
or_true false = refl

and_false : (a : Bool) → (a && false) ≡ false
and_false true = refl
and_false false = refl

-- three tests of each against three tests of all
mixed : (a e b f c A B C : Bool) → ((a && ((e || b) && ((f || c) && true))) && (A && ((e || B) && (f || C)))) ≡ ((a && A) && ((e || (b && B)) && (f || (c && C))))
mixed false e b f c A B C = refl
mixed true true b true c A B C = refl
mixed true true b false true A B C = refl
mixed true true b false false A B C = sym (and_false A)
mixed true false true true c A B C = refl
mixed true false true false true A B C = refl
mixed true false true false false true B C = sym (and_false B)
mixed true false true false false false B C = refl
mixed true false false f c A B C = sym (and_false A)

apart_each : (ps : List Parameter) (l : List ℕ)
    → apart_from ps (named_of l)
    ≡ (list_all (λ p. not (same p.name (field_of 0 l))) ps
    && ((is_empty (field_of 1 l) || list_all (λ p. not (same p.mnemonic (field_of 1 l))) ps)
    && (is_empty (field_of 2 l) || list_all (λ p. not (same p.identification (field_of 2 l))) ps)))
unfolding apart_from named_apart every
apart_each [] l = sym (rw (or_true (is_empty (field_of 1 l)), or_true (is_empty (field_of 2 l))))
apart_each (p ∷ ps) l =
    ap (λ (t : Bool). named_apart p (named_of l) && t) (apart_each ps l)
    ∙ mixed (not (same p.name (field_of 0 l))) (is_empty (field_of 1 l)) (not (same p.mnemonic (field_of 1 l))) (is_empty (field_of 2 l)) (not (same p.identification (field_of 2 l)))
    (list_all (λ (q : Parameter). not (same q.name (field_of 0 l))) ps)
    (list_all (λ (q : Parameter). not (same q.mnemonic (field_of 1 l))) ps)
    (list_all (λ (q : Parameter). not (same q.identification (field_of 2 l))) ps)

-- rows that hold where the texts of these parameters stand
pub record Placed (s : List ℕ) (ps : List Parameter) (ks : List Kept) : Type 0 where
  pub long : length ks ≡ length ps
  pub each : (k : ℕ) → k < length ps → Here s (get_or ks k no_kept).places (get_or ps k no_parameter)

apart_is : (s : List ℕ) (ps : List Parameter) (ks : List Kept) (l : List ℕ) → Placed s ps ks → unlike_names s ks l ≡ apart_from ps (named_of l)
unfolding unlike_names
apart_is s ps ks l h =
    let a = same_all (λ (r : Kept). differs_in s (field_of 0 l) r.places.name) (λ (p : Parameter). not (same p.name (field_of 0 l))) ks ps no_kept no_parameter h.long (λ k m. rw ((h.each k m).name)) in
    let b = same_all (λ (r : Kept). differs_in s (field_of 1 l) r.places.mnemonic) (λ (p : Parameter). not (same p.mnemonic (field_of 1 l))) ks ps no_kept no_parameter h.long (λ k m. rw ((h.each k m).mnemonic)) in
    let c = same_all (λ (r : Kept). differs_in s (field_of 2 l) r.places.identification) (λ (p : Parameter). not (same p.identification (field_of 2 l))) ks ps no_kept no_parameter h.long (λ k m. rw ((h.each k m).identification)) in
    rw (a, b, c) (sym (apart_each ps l))

pub names_is : (f : Form) (s l : List ℕ) (K : Book) (ks : List Kept) → Placed s K.parameters ks → names_in f s ks l ≡ names_test f K l
names_is Stray s l K ks h = refl
names_is Superframe s l K ks h = refl
names_is HeaderWord s l K ks h = refl
names_is HeaderLine s l K ks h = refl
names_is RecordWord s l K ks h = refl
names_is RecordLine s l K ks h = refl
names_is NoneWord s l K ks h = refl
names_is ParameterWord s l K ks h = refl
names_is NameLine s l K ks h = ap (λ (t : Bool). when (not t) Repeated) (apart_is s K.parameters ks l h)
names_is OpeningComponent s l K ks h = refl
names_is ComponentLine s l K ks h = refl
names_is TimeLine s l K ks h = refl
names_is SamplesEnd s l K ks h = refl
names_is SignedLine s l K ks h = refl
names_is RangeLine s l K ks h = refl
names_is SourceLine s l K ks h = refl
names_is LabelLine s l K ks h = refl
names_is SourceEnd s l K ks h = refl
names_is ParameterEnd s l K ks h = refl
