-- What make answers and leaves, case by case. Assumes nothing.
use mathlib.Core.Path.{◌≡◌, refl, sym, ap, ap₂, subst, ◌∙◌}
use mathlib.Core.List.{List, ◌++◌}
use Prim.Native.Nat.{ℕ, ◌+◌, ◌≤◌, ◌<◌}
use native.Mathlib.Omega.{arith}
use borrow.Author.Tests.{le-leb, lt-leb}
use lib.ListN.{length, drop}
use Rattle.std.specs.Prelude.{Ok, Err}
use Rattle.lay.specs.Bytes.{put}
use Rattle.text.specs.declared.refusal.Refusal.TheVariants.{TableTooSmall}
use Rattle.model.specs.Content.{Content, Parameter, parameters}
use Rattle.model.specs.Forms.{newest, limits_of}
use Rattle.model.specs.Write.{total_by, write}
use Rattle.model.proofs.Rows.{known_sound, known_newest}
use Rattle.model.proofs.Fits.{ends_most, text_start_small}
use Rattle.model.proofs.Meanings.{lawful_law}
use Rattle.model.proofs.Statements.{newest_limits, length_new}
use Rattle.stored.specs.Entry.{Few, StartsBy}
use Rattle.stored.specs.declared.items.Counts.{Counts}
use Rattle.stored.specs.declared.items.Starts.{Starts}
use Rattle.gather.specs.Book.{components_of}
use Rattle.gather.specs.Ruling.{Ruling, Accepted, Refused, judge_of}
use Rattle.gather.proofs.AcceptedLawful.{accepted_lawful}
use Rattle.judge.specs.Counts.{most_count, tally_of}
use Rattle.judge.specs.Walk.{Verdict, book_of, verdict_of}
use Rattle.judge.specs.declared.tally.Tally.{Tally}
use Rattle.judge.specs.declared.walk.Rejected.{Rejected}
use Rattle.laying.specs.Parts.{new_layout, head_size, header, copies, laid}
use Rattle.maker.specs.Emit.{places_of, Walkable}
use Rattle.maker.specs.Entries.{counts_of, head_by}
use Rattle.maker.specs.Made.{Made, unmade, made_of, left_of}
use Rattle.maker.proofs.Accepted.{Ended, accepted_ended}
use Rattle.maker.proofs.Making.{write_long, fits_all, head_first, table_made}
use Rattle.maker.proofs.Room.{laid_long}

-- the answer, and the lent bytes afterwards
abbrev Leaves : List ℕ → List ℕ → Made → List ℕ → Type 0
Leaves s out m after = (m ≡ made_of (judge_of s) (length out)) × (after ≡ left_of (judge_of s) out)

-- ---- refused

pub leaves_refused : (s out : List ℕ) {r : Rejected} {v : Verdict} → v ≡ verdict_of (judge_of s) (tally_of (book_of s)) → v ≡ Err r → Leaves s out (Err r) out
leaves_refused s out {r} p e = go (judge_of s) (sym p ∙ e)
  where
    go : (v : Ruling) → verdict_of v (tally_of (book_of s)) ≡ Err r → (◌≡◌ {A = Made} (Err r) (made_of v (length out))) × (out ≡ left_of v out)
    go (Accepted c) p = absurd (cc)
    go (Refused q k) p =
        let i : record { refusal = q; line = k } ≡ r = cc in
        (ap Err (sym i), refl)

-- ---- accepted, with the counts x

pub record Taken (s : List ℕ) (x : Tally) : Type 0 where
  pub content : Content
  pub accepted : judge_of s ≡ Accepted content
  pub counts : x ≡ tally_of (book_of s)

pub taken : {s : List ℕ} {x : Tally} {v : Verdict} → v ≡ verdict_of (judge_of s) (tally_of (book_of s)) → v ≡ Ok x → Taken s x
taken {s} {x} p e = go (judge_of s) refl (sym p ∙ e)
  where
    go : (r : Ruling) → judge_of s ≡ r → verdict_of r (tally_of (book_of s)) ≡ Ok x → Taken s x
    go (Accepted c) p q = record { content = c; accepted = p; counts = cc }
    go (Refused r l) p q = absurd (cc)

-- the book of an accepted sheet
module _ (s : List ℕ) (c : Content) (e : judge_of s ≡ Accepted c) where
  ended : Ended s c
  ended = accepted_ended s c e

  few_book : Few (limits_of newest) (counts_of (tally_of (book_of s)))
  unfolding components_of
  few_book =
      let b = ended.between in
      rw newest_limits
      (record {
        subframes = omega (arith, b.ground.few);
        parameters = omega (arith, b.whole.few);
        samples = omega (arith, b.few_samples, ap (λ (p : Parameter). length p.samples) ended.clear);
        components = omega (arith, b.few_components, ap (λ (p : Parameter). components_of p.samples) ended.clear, ap length b.no_parts);
      })

  -- a table's length loses nothing in 32 bits
  pub written_fits : length (write newest c) < 4294967296
  unfolding total_by
  written_fits =
      let r = known_sound newest known_newest in
      let l = rw (← newest_limits) at (accepted_lawful s c e) in
      let v = lawful_law (limits_of newest) c l in
      let n = length_new c (accepted_lawful s c e) in
      let m = ends_most newest new_layout (limits_of newest) r c v in
      let t = text_start_small newest new_layout (limits_of newest) r c v (parameters c) (omega arith) in
      omega (arith, r.small)

  module _ (a : Starts) (q : StartsBy new_layout (counts_of (tally_of (book_of s))) a) where
    long_book : length (write newest c) ≡ a.text + (tally_of (book_of s)).text
    long_book =
        ap (λ (d : Content). length (write newest d)) ended.same
        ∙ write_long (book_of s) ended.clear ended.between.no_parts ended.between.ground.long a q

    head_book : head_size ≤ a.text
    head_book = head_first (book_of s) ended.clear ended.between.no_parts ended.between.ground.long a q

    walk_book : (m : ℕ) → a.text + (tally_of (book_of s)).text ≤ m → Walkable s a (copies (tally_of (book_of s)).pairs (tally_of (book_of s)).declared) m
    walk_book m h =
        record {
          content = c;
          accepted = e;
          short = ended.short;
          small = ended.small;
          fits = fits_all (book_of s) ended.clear ended.between.no_parts ended.between.ground.long a q m h;
          copied = refl;
        }

    small_book : (out : List ℕ) → length out < a.text + (tally_of (book_of s)).text → Leaves s out (unmade TableTooSmall 0) out
    small_book out h =
        let b = lt-leb (length (write newest c)) (length out) (omega (arith, long_book, h)) in
        (sym (ap (λ (r : Ruling). made_of r (length out)) e ∙ rw b), sym (ap (λ (r : Ruling). left_of r out) e ∙ rw b))

    made_book : (out one two : List ℕ) → a.text + (tally_of (book_of s)).text ≤ length out
        → one ≡ laid out (places_of a) (copies (tally_of (book_of s)).pairs (tally_of (book_of s)).declared) (book_of s)
        → two ≡ put one 0 (header (head_by (counts_of (tally_of (book_of s))) a (a.text + (tally_of (book_of s)).text) (tally_of (book_of s)).sequential))
        → Leaves s out (Ok (a.text + (tally_of (book_of s)).text)) two
    made_book out one two h p w =
        let b = le-leb (length (write newest c)) (length out) (omega (arith, long_book, h)) in
        let t : two ≡ write newest c ++ drop (length (write newest c)) out = subst (λ (d : Content). two ≡ write newest d ++ drop (length (write newest d)) out) (sym ended.same) (table_made (book_of s) ended.clear ended.between.no_parts ended.between.ground.long a q out one two h p w) in
        (sym (ap (λ (r : Ruling). made_of r (length out)) e ∙ (rw (b, long_book))), t ∙ sym (ap (λ (r : Ruling). left_of r out) e ∙ rw b))

-- the same by the numbers that the code has
module _ {s : List ℕ} {x : Tally} (t : Taken s x) {n : Counts} (en : n ≡ counts_of x) where
  booked : n ≡ counts_of (tally_of (book_of s))
  booked = en ∙ ap counts_of t.counts

  pub taken_few : Few (limits_of newest) n
  taken_few = subst (λ (m : Counts). Few (limits_of newest) m) (sym booked) (few_book s t.content t.accepted)

  pub taken_text : x.text ≤ most_count
  taken_text = let m = (accepted_ended s t.content t.accepted).small in rw t.counts m.text

  module _ {a : Starts} (ea : StartsBy new_layout n a) where
    starts_booked : StartsBy new_layout (counts_of (tally_of (book_of s))) a
    starts_booked = subst (λ (m : Counts). StartsBy new_layout m a) booked ea

    total_booked : a.text + x.text ≡ a.text + (tally_of (book_of s)).text
    total_booked = ap (λ (z : Tally). a.text + z.text) t.counts

    pub leaves_small : (out : List ℕ) → length out < a.text + x.text → Leaves s out (unmade TableTooSmall 0) out
    leaves_small out h = small_book s t.content t.accepted a starts_booked out (omega (arith, h, total_booked))

    module _ {f : ℕ} (ef : f ≡ copies x.pairs x.declared) where
      copies_booked : f ≡ copies (tally_of (book_of s)).pairs (tally_of (book_of s)).declared
      copies_booked = ef ∙ ap (λ (z : Tally). copies z.pairs z.declared) t.counts

      pub taken_walkable : (m : ℕ) → a.text + x.text ≤ m → Walkable s a f m
      taken_walkable m h =
          subst (λ (g : ℕ). Walkable s a g m) (sym copies_booked)
          (walk_book s t.content t.accepted a starts_booked m (omega (arith, h, total_booked)))

      -- the header's room, still there after the walk
      pub taken_room : (out one : List ℕ) → a.text + x.text ≤ length out → one ≡ laid out (places_of a) f (book_of s) → head_size ≤ length one
      taken_room out one h p =
          omega (arith, ap length p, laid_long out a f (book_of s) (taken_walkable (length out) h).fits, head_book s t.content t.accepted a starts_booked, h)

      pub leaves_table : (out one two : List ℕ) → a.text + x.text ≤ length out → one ≡ laid out (places_of a) f (book_of s) → two ≡ put one 0 (header (head_by n a (a.text + x.text) x.sequential)) → Leaves s out (Ok (a.text + x.text)) two
      leaves_table out one two h p q =
          subst (λ (v : ℕ). Leaves s out (Ok v) two) (sym total_booked)
          (made_book s t.content t.accepted a starts_booked out one two (omega (arith, h, total_booked))
          (p ∙ ap (λ (g : ℕ). laid out (places_of a) g (book_of s)) copies_booked)
          (q ∙ ap₂ (λ (m : Counts) (z : Tally). put one 0 (header (head_by m a (a.text + z.text) z.sequential))) booked t.counts))
