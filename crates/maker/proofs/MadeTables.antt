-- What is made, and what a refusal leaves: for every sheet and all lent bytes. Assumes nothing.
use mathlib.Core.Path.{◌≡◌, refl, sym, ap, ◌∙◌}
use mathlib.Core.Bool.{Bool, true, false, cond}
use mathlib.Core.List.{List, ◌++◌}
use mathlib.Core.Logic.{◌⊎◌, inl, inr}
use Prim.Native.Nat.{ℕ, ◌≤◌, ◌<◌}
use native.Mathlib.Omega.{arith}
use borrow.Author.Tests.{leb-true, leb-false}
use lib.Dec.{leb}
use lib.ListN.{length, take, drop, length-append, length-drop}
use lib.Seq.{take-append_seam, drop-append_seam}
use Rattle.std.specs.Prelude.{Ok}
use Rattle.text.specs.Refusals.{refusal_number}
use Rattle.text.specs.declared.refusal.Refusal.{Refusal}
use Rattle.text.specs.declared.refusal.Refusal.TheVariants.{TableTooSmall}
use Rattle.model.specs.Accepts.{accepts}
use Rattle.model.specs.Content.{Content}
use Rattle.model.specs.View.{view}
use Rattle.model.specs.Forms.{newest}
use Rattle.model.specs.Write.{write}
use Rattle.gather.specs.Ruling.{Ruling, Accepted, Refused, judge_of}
use Rattle.gather.proofs.AcceptedLawful.{accepted_table, accepted_view}
use Rattle.gather.proofs.NumbersAndLines.{refused_sensibly}
use Rattle.judge.specs.declared.walk.Rejected.{Rejected}
use Rattle.maker.specs.Made.{Made, unmade, made_of, left_of}

-- ---- a table of n bytes is made

pub record MadeTable (s out : List ℕ) (n : ℕ) : Type 0 where
  pub content : Content
  -- the sheet is accepted, and the table fits
  pub accepted : judge_of s ≡ Accepted content
  pub fits : n ≤ length out
  -- the first n bytes are its table: they pass the check, and say what the sheet says
  pub table : take n (left_of (judge_of s) out) ≡ write newest content
  pub passes : accepts (take n (left_of (judge_of s) out)) ≡ true
  pub says : view (take n (left_of (judge_of s) out)) ≡ content
  -- later bytes stay
  pub later : drop n (left_of (judge_of s) out) ≡ drop n out

module _ (s out : List ℕ) (n : ℕ) where
  table_of : (c : Content) → judge_of s ≡ Accepted c → n ≡ length (write newest c) → n ≤ length out → left_of (judge_of s) out ≡ write newest c ++ drop (length (write newest c)) out → MadeTable s out n
  table_of c e h le p =
      let t : take n (left_of (judge_of s) out) ≡ write newest c = rw (h, p) (take-append_seam (write newest c) (drop (length (write newest c)) out)) in
      record {
        content = c;
        accepted = e;
        fits = le;
        table = t;
        passes = ap accepts t ∙ accepted_table s c e;
        says = ap view t ∙ accepted_view s c e;
        later = rw (h, p) (drop-append_seam (write newest c) (drop (length (write newest c)) out));
      }

  pub made_table : made_of (judge_of s) (length out) ≡ Ok n → MadeTable s out n
  made_table e = go (judge_of s) refl e
    where
      room : (c : Content) (b : Bool) → judge_of s ≡ Accepted c → leb (length (write newest c)) (length out) ≡ b → cond b (Ok (length (write newest c))) (unmade TableTooSmall 0) ≡ Ok n → MadeTable s out n
      room c true p b q =
          let h : n ≡ length (write newest c) = cc in
          table_of c p h (omega (arith, h, leb-true (length (write newest c)) (length out) b)) (ap (λ (r : Ruling). left_of r out) p ∙ rw b)
      room c false p b q = absurd (cc)

      go : (r : Ruling) → judge_of s ≡ r → made_of r (length out) ≡ Ok n → MadeTable s out n
      go (Accepted c) p q = room c (leb (length (write newest c)) (length out)) p refl q
      go (Refused r l) p q = absurd (cc)

-- ---- refused

-- 17 comes after all others: the sheet is accepted, its table is longer than what is lent, and no line is named
pub record TooSmall (s out : List ℕ) (q : Refusal) (k : ℕ) : Type 0 where
  pub content : Content
  pub accepted : judge_of s ≡ Accepted content
  pub small : length out < length (write newest content)
  pub refusal : q ≡ TableTooSmall
  pub unlined : k ≡ 0

-- it is the judge's or 17, and no byte is changed
pub record LeftAlone (s out : List ℕ) (q : Refusal) (k : ℕ) : Type 0 where
  pub why : (judge_of s ≡ Refused q k) ⊎ TooSmall s out q k
  pub same : left_of (judge_of s) out ≡ out
  pub least : 1 ≤ refusal_number q
  pub most : refusal_number q ≤ 17

module _ (s out : List ℕ) (q : Refusal) (k : ℕ) where
  judged_alone : (r : Refusal) (l : ℕ) → judge_of s ≡ Refused r l → q ≡ r → k ≡ l → LeftAlone s out q k
  judged_alone r l p a b =
      let e : judge_of s ≡ Refused q k = rw (a, b) p in
      let t = refused_sensibly s q k e in
      record {
        why = inl e;
        same = ap (λ (v : Ruling). left_of v out) p;
        least = t.least;
        most = omega (arith, t.most);
      }

  small_alone : (c : Content) → judge_of s ≡ Accepted c → leb (length (write newest c)) (length out) ≡ false → q ≡ TableTooSmall → k ≡ 0 → LeftAlone s out q k
  small_alone c p b a z =
      record {
        why = inr (record { content = c; accepted = p; small = leb-false (length (write newest c)) (length out) b; refusal = a; unlined = z });
        same = ap (λ (v : Ruling). left_of v out) p ∙ rw b;
        least = rw a (omega arith);
        most = rw a (omega arith);
      }

  same : {r : Refusal} {l : ℕ} → unmade r l ≡ unmade q k → (q ≡ r) × (k ≡ l)
  same {r} {l} e =
      let i : ◌≡◌ {A = Rejected} (record { refusal = q; line = k }) (record { refusal = r; line = l }) = cc in
      (ap (λ (x : Rejected). x.refusal) i, ap (λ (x : Rejected). x.line) i)

  pub left_alone : made_of (judge_of s) (length out) ≡ unmade q k → LeftAlone s out q k
  left_alone e = go (judge_of s) refl e
    where
      room : (c : Content) (b : Bool) → judge_of s ≡ Accepted c → leb (length (write newest c)) (length out) ≡ b → cond b (Ok (length (write newest c))) (unmade TableTooSmall 0) ≡ unmade q k → LeftAlone s out q k
      room c true p b h = absurd (cc)
      room c false p b h =
          let i = same h in
          small_alone c p b i.0 i.1

      go : (r : Ruling) → judge_of s ≡ r → made_of r (length out) ≡ unmade q k → LeftAlone s out q k
      go (Accepted c) p h = room c (leb (length (write newest c)) (length out)) p refl h
      go (Refused r l) p h =
          let i = same h in
          judged_alone r l p i.0 i.1

-- ---- as many bytes are lent afterwards as before

pub left_long : (s out : List ℕ) → length (left_of (judge_of s) out) ≡ length out
left_long s out = go (judge_of s)
  where
    room : (w : List ℕ) (b : Bool) → leb (length w) (length out) ≡ b → length (cond b (w ++ drop (length w) out) out) ≡ length out
    room w true e = omega (arith, length-append w (drop (length w) out), length-drop (length w) out, leb-true (length w) (length out) e)
    room w false e = refl

    go : (r : Ruling) → length (left_of r out) ≡ length out
    go (Accepted c) = room (write newest c) (leb (length (write newest c)) (length out)) refl
    go (Refused q k) = refl

-- so a table that was made lies within them
pub made_room : (s out after : List ℕ) (n : ℕ) {m : Made} → (m ≡ made_of (judge_of s) (length out)) × (after ≡ left_of (judge_of s) out) → m ≡ Ok n → n ≤ length after
made_room s out after n h e =
    let t = made_table s out n (sym h.0 ∙ e) in
    omega (arith, t.fits, ap length h.1, left_long s out)
