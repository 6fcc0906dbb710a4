-- The writing walk: what is known before each line, and that it stays known. Assumes nothing.
use mathlib.Core.Path.{◌≡◌, refl, sym, ap, subst, ◌∙◌}
use mathlib.Core.Bool.{Bool, true, false, cond}
use mathlib.Core.Logic.{◌⊎◌, inl, inr}
use mathlib.Core.List.{List, [], ◌∷◌, ◌++◌}
use Prim.Native.Nat.{ℕ, ◌+◌, ◌-◌, ◌≤◌, ◌<◌}
use native.Mathlib.Omega.{arith}
use lib.Dec.{eqb}
use lib.ListN.{length, drop, length-append}
use borrow.Author.Tests.{eqb-true, le-ltb}
use Rattle.lay.specs.Bytes.{part}
use Rattle.lay.proofs.Puts.{put_none}
use Rattle.text.proofs.Cuts.{drop_end}
use Rattle.std.specs.Prelude.{Ok, Err}
use Rattle.text.specs.declared.refusal.Refusal.{Refusal}
use Rattle.lines.specs.Line.{Ready, line_at}
use Rattle.lines.specs.Lines.{Lines, line, lines_of}
use Rattle.lines.specs.declared.Cursor.{Cursor}
use Rattle.lines.specs.declared.Line.{Line}
use Rattle.lines.proofs.Cuts.{Next, found_next, found_refused}
use Rattle.lineforms.specs.Forms.{form_of, due_after}
use Rattle.lineforms.specs.declared.due.Due.{Due}
use Rattle.lineforms.specs.declared.due.Due.TheVariants as due
use Rattle.lineforms.specs.declared.due.Form.{Form}
use Rattle.lineforms.specs.declared.due.Form.TheVariants as form
use Rattle.model.specs.Content.{Content, Parameter, Subframe, no_parameter}
use Rattle.model.specs.Write.{texts}
use Rattle.gather.specs.Book.{Book, empty_book, grow, subframe_of}
use Rattle.gather.specs.Ruling.{Accepted, form_at, opens, run, judge_of}
use Rattle.stored.specs.declared.items.Starts.{Starts}
use Rattle.judge.specs.Counts.{most_count, Small, tally_of, counted_of, text_of}
use Rattle.judge.specs.Walk.{end_book, book_of}
use Rattle.judge.specs.declared.tally.Tally.{Tally}
use Rattle.judge.proofs.Growing.{Fresh, tally_grow}
use Rattle.laying.specs.Parts.{copies_bytes, copies, parameter_bytes, sample_bytes, component_bytes, text_bytes, samples_in, components_in, text_all, laid, Fits}
use Rattle.laying.proofs.Clear.{Clear, ClearAt, clear_at, clear_step}
use Rattle.laying.proofs.Lengths.{texts_long}
use Rattle.laying.proofs.Rising.{Rises, fits_before}
use Rattle.laying.proofs.Shares.{emit_grow}
use Rattle.maker.specs.Emit.{places_of, emit_of, Roomy, OpenCounted, Walkable}
use Rattle.maker.proofs.Emitting.{samples_all_lem, components_all_lem, text_long_lem, text_clear, Pairing, emit_gathered}
use Rattle.maker.proofs.Room.{laid_long, roomy}
use Rattle.maker.proofs.Walks.{On, accepted_on, end_on, line_kept, rises_end, end_clear, refused_not, line_there}

pub record Walk (s out₀ : List ℕ) (a : Starts) (n : ℕ) (out : List ℕ) (c : Cursor) (d : Due) (x : Tally) : Type 0 where
  pub able : Walkable s a n (length out₀)
  pub book : Book
  pub lines : List ℕ
  pub ready : Ready s c
  pub mine : x ≡ tally_of book
  pub clear : Clear d book
  pub says : run d book lines c.number (lines_of (drop c.at s)) ≡ Accepted able.content
  pub last : end_book d book (lines_of (drop c.at s)) ≡ book_of s
  pub done : out ≡ laid out₀ (places_of a) n book

-- ---- the beginning

start_says : (s : List ℕ) (c : Content) → length s ≤ 65536 → judge_of s ≡ Accepted c → run due.HeaderWord empty_book [] 0 (lines_of s) ≡ Accepted c
unfolding judge_of
start_says s c h e = rw (le-ltb 65536 (length s) h) at e

nothing_laid : (out : List ℕ) (a : Starts) (n : ℕ) → out ≡ laid out (places_of a) n empty_book
unfolding copies_bytes parameter_bytes sample_bytes component_bytes text_bytes samples_in components_in texts
nothing_laid out a n = sym (rw (put_none, put_none, put_none, put_none, put_none))

pub walk_start : (s out : List ℕ) (a : Starts) (n : ℕ) → Walkable s a n (length out) → (x : Tally) → x ≡ tally_of empty_book → Walk s out a n out (record { at = 0; number = 0 }) due.HeaderWord x
unfolding book_of
walk_start s out a n w x e =
    record {
      able = w;
      book = empty_book;
      lines = [];
      ready = record { inside = omega arith; counted = omega arith; short = w.short };
      mine = e;
      clear = refl;
      says = start_says s w.content w.short w.accepted;
      last = refl;
      done = nothing_laid out a n;
    }

-- ---- before a line

-- what the counts are at most, by what they come to
small_before : (n : ℕ) (K G : Book) → Rises n K G → G.opened ≡ no_parameter → Small (tally_of G) most_count → Small (tally_of K) most_count
unfolding texts
small_before n K G r h m =
    let q = samples_all_lem K in
    let Q = samples_all_lem G in
    let c = components_all_lem K in
    let C = components_all_lem G in
    let t : length (text_all G) ≡ text_of G.parameters = text_clear G h in
    let u = length-append (text_bytes K.parameters) (texts K.opened) in
    let v = length-append K.opened.name (K.opened.mnemonic ++ K.opened.identification) in
    let w = length-append K.opened.mnemonic K.opened.identification in
    let y = texts_long K.parameters in
    let z = text_long_lem K.parameters in
    record {
      pairs = omega (arith, r.pairs, m.pairs);
      parameters = omega (arith, r.parameters, m.parameters);
      samples = omega (arith, r.samples, m.samples);
      own = omega (arith, r.samples, m.samples);
      components = omega (arith, r.components, m.components);
      parts = omega (arith, r.components, m.components);
      text = omega (arith, r.text, m.text);
      name = omega (arith, r.text, m.text);
      mnemonic = omega (arith, r.text, m.text);
      identification = omega (arith, r.text, m.text);
    }

-- where a parameter opens, none is open
fresh : (f : Form) (K : Book) → ClearAt f K → Fresh f K
fresh form.Stray K c = tt
fresh form.Superframe K c = tt
fresh form.HeaderWord K c = tt
fresh form.HeaderLine K c = tt
fresh form.RecordWord K c = tt
fresh form.RecordLine K c = tt
fresh form.NoneWord K c = tt
fresh form.ParameterWord K c = tt
fresh form.NameLine K c = ap (λ (p : Parameter). p.samples) c
fresh form.OpeningComponent K c = tt
fresh form.ComponentLine K c = tt
fresh form.TimeLine K c = tt
fresh form.SamplesEnd K c = tt
fresh form.SignedLine K c = tt
fresh form.RangeLine K c = tt
fresh form.SourceLine K c = tt
fresh form.LabelLine K c = tt
fresh form.SourceEnd K c = tt
fresh form.ParameterEnd K c = tt

no_pairs : (K : Book) (l : List ℕ) → length (K.pairs ++ (subframe_of l ∷ [])) ≤ 1 → K.pairs ≡ []
no_pairs K l h = go K.pairs h
  where
    go : (ps : List Subframe) → length (ps ++ (subframe_of l ∷ [])) ≤ 1 → ps ≡ []
    go [] k = refl
    go (p ∷ ps) k = absurd (omega (arith, length-append ps (subframe_of l ∷ [])))

pairing_record : (l : List ℕ) (K B : Book) (n : ℕ) → n ≡ copies (length B.pairs) B.declared → length (K.pairs ++ (subframe_of l ∷ [])) ≤ length B.pairs → (n ≡ 1) ⊎ (K.pairs ≡ [])
pairing_record l K B n e h = go (eqb (length B.pairs) 1) refl e
  where
    go : (t : Bool) → eqb (length B.pairs) 1 ≡ t → n ≡ cond t B.declared 1 → (n ≡ 1) ⊎ (K.pairs ≡ [])
    go true p q = inr (no_pairs K l (omega (arith, eqb-true (length B.pairs) 1 p)))
    go false p q = inl q

-- a record line finds none before it where one pair stands for all
pairing : (f : Form) (l : List ℕ) (K B : Book) (n : ℕ) → n ≡ copies (length B.pairs) B.declared → length (grow f l K).pairs ≤ length B.pairs → Pairing f n K
pairing form.Stray l K B n e h = tt
pairing form.Superframe l K B n e h = tt
pairing form.HeaderWord l K B n e h = tt
pairing form.HeaderLine l K B n e h = tt
pairing form.RecordWord l K B n e h = tt
pairing form.RecordLine l K B n e h = pairing_record l K B n e h
pairing form.NoneWord l K B n e h = tt
pairing form.ParameterWord l K B n e h = tt
pairing form.NameLine l K B n e h = tt
pairing form.OpeningComponent l K B n e h = tt
pairing form.ComponentLine l K B n e h = tt
pairing form.TimeLine l K B n e h = tt
pairing form.SamplesEnd l K B n e h = tt
pairing form.SignedLine l K B n e h = tt
pairing form.RangeLine l K B n e h = tt
pairing form.SourceLine l K B n e h = tt
pairing form.LabelLine l K B n e h = tt
pairing form.SourceEnd l K B n e h = tt
pairing form.ParameterEnd l K B n e h = tt

-- ---- one line

module _ {s out₀ : List ℕ} {a : Starts} {n : ℕ} {out : List ℕ} {c : Cursor} {d : Due} {x : Tally} (w : Walk s out₀ a n out c d x) where
  rises_now : Rises n w.book (book_of s)
  rises_now =
      subst (λ (B : Book). Rises n w.book B) w.last
      (rises_end n d w.book w.lines c.number (lines_of (drop c.at s)) w.able.content w.clear w.says)

  end_open : (book_of s).opened ≡ no_parameter
  end_open =
      sym (ap (λ (B : Book). B.opened) w.last)
      ∙ end_clear d w.book w.lines c.number (lines_of (drop c.at s)) w.able.content w.clear w.says

  fits_now : Fits (places_of a) n w.book (length out₀)
  fits_now = fits_before (places_of a) n w.book (book_of s) (length out₀) rises_now w.able.fits

  pub walk_long : length out ≡ length out₀
  walk_long = ap length w.done ∙ laid_long out₀ a n w.book fits_now

  pub walk_small : Small x most_count
  walk_small = subst (λ (y : Tally). Small y most_count) (sym w.mine) (small_before n w.book (book_of s) rises_now end_open w.able.small)

  open_now : OpenCounted (tally_of w.book)
  open_now = record { own = omega arith; parts = omega arith }

  pub walk_open : OpenCounted x
  walk_open = subst (λ (y : Tally). OpenCounted y) (sym w.mine) open_now

  -- the line that the cursor found
  module _ (h : Line) (e : line_at s c ≡ Ok h) (l : List ℕ) (b : l ≡ part s h.start (h.end - h.start)) (f : Form) (g : f ≡ form_of d x.pairs x.declared l) where
    next : Next s c h.start h.end h.next
    next = found_next s c w.ready h e

    form_is : f ≡ form_at d w.book l
    form_is = g ∙ ap (λ (y : Tally). form_of d y.pairs y.declared l) w.mine

    cut : lines_of (drop c.at s) ≡ line l (lines_of (drop h.next.at s))
    cut = next.cut ∙ ap (λ (m : List ℕ). line m (lines_of (drop h.next.at s))) (sym b)

    on : On d w.book w.lines c.number l (lines_of (drop h.next.at s)) w.able.content
    on =
        accepted_on d w.book w.lines c.number l (lines_of (drop h.next.at s)) w.able.content
        (subst (λ (m : Lines). run d w.book w.lines c.number m ≡ Accepted w.able.content) cut w.says)

    at : ClearAt (form_at d w.book l) w.book
    at = clear_at w.book l d w.clear

    clear_next : Clear (due_after (form_at d w.book l)) (grow (form_at d w.book l) l w.book)
    clear_next = clear_step (form_at d w.book l) l w.book (line_kept d w.book l on.passes) at

    last_next : end_book (due_after (form_at d w.book l)) (grow (form_at d w.book l) l w.book) (lines_of (drop h.next.at s)) ≡ book_of s
    last_next = sym (end_on d w.book l (lines_of (drop h.next.at s)) on.passes) ∙ (sym (ap (end_book d w.book) cut) ∙ w.last)

    rises_next : Rises n (grow (form_at d w.book l) l w.book) (book_of s)
    rises_next =
        subst (λ (B : Book). Rises n (grow (form_at d w.book l) l w.book) B) last_next
        (rises_end n (due_after (form_at d w.book l)) (grow (form_at d w.book l) l w.book) (opens (form_at d w.book l) (c.number + 1) w.lines) (c.number + 1) (lines_of (drop h.next.at s)) w.able.content clear_next on.says)

    fits_next : Fits (places_of a) n (grow (form_at d w.book l) l w.book) (length out₀)
    fits_next = fits_before (places_of a) n (grow (form_at d w.book l) l w.book) (book_of s) (length out₀) rises_next w.able.fits

    paired : Pairing (form_at d w.book l) n w.book
    paired = pairing (form_at d w.book l) l w.book (book_of s) n w.able.copied rises_next.pairs

    room_at : Roomy (form_at d w.book l) l (tally_of w.book) a n (length out₀)
    room_at = roomy l w.book a n (length out₀) (form_at d w.book l) at paired fits_next

    pub walk_room : Roomy f l x a n (length out)
    walk_room = rw (form_is, w.mine, walk_long) room_at

    laid_next : emit_of (form_at d w.book l) l (tally_of w.book) a n (laid out₀ (places_of a) n w.book) ≡ laid out₀ (places_of a) n (grow (form_at d w.book l) l w.book)
    laid_next =
        emit_gathered l w.book a n (laid out₀ (places_of a) n w.book) (form_at d w.book l) at paired
        ∙ emit_grow out₀ (places_of a) n w.book l fits_now (form_at d w.book l) at fits_next

    pub walk_next : (out' : List ℕ) → out' ≡ emit_of f l x a n out → (x' : Tally) → x' ≡ counted_of f l x → (d' : Due) → d' ≡ due_after f → Walk s out₀ a n out' h.next d' x'
    walk_next out' p x' q d' r =
        rw (r, form_is)
        (record {
          able = w.able;
          book = grow (form_at d w.book l) l w.book;
          lines = opens (form_at d w.book l) (c.number + 1) w.lines;
          ready = next.ready;
          mine = q ∙ (rw (form_is, w.mine) (tally_grow (form_at d w.book l) l w.book (fresh (form_at d w.book l) w.book at)));
          clear = clear_next;
          says = rw next.counts on.says;
          last = last_next;
          done = p ∙ (rw (form_is, w.mine, w.done) laid_next);
        })

  -- where a found line stands
  pub walk_bounds : (h : Line) → line_at s c ≡ Ok h → (h.start ≤ h.end) × (h.end ≤ length s)
  walk_bounds h e =
      let k = found_next s c w.ready h e in
      (k.ordered, omega (arith, k.ends, k.ready.inside))

  pub walk_less : (h : Line) → line_at s c ≡ Ok h → length s - h.next.at < length s - c.at
  walk_less h e =
      let k = found_next s c w.ready h e in
      omega (arith, k.starts, k.ordered, k.ends, k.ready.inside)

  -- a cursor in an accepted sheet finds a line
  walk_found : (r : Refusal) → line_at s c ≡ Err r → c.at < length s → ⊥
  walk_found r e h =
      refused_not d w.book w.lines c.number (lines_of (drop c.at s)) w.able.content r (line_there s c.at h) w.says (found_refused s c r e)

  past_end : length s ≤ c.at → out ≡ laid out₀ (places_of a) n (book_of s)
  unfolding lines_of end_book
  past_end h = w.done ∙ ap (laid out₀ (places_of a) n) (sym (ap (end_book d w.book) (ap lines_of (drop_end s c.at h))) ∙ w.last)

  -- so the walk goes to its end
  pub walk_end : (r : Refusal) → line_at s c ≡ Err r → out ≡ laid out₀ (places_of a) n (book_of s)
  walk_end r e = past_end (omega (arith, walk_found r e))
