-- What a page answers and leaves, case by case and result by result. Assumes nothing.
use mathlib.Core.Path.{◌≡◌, refl, sym, ap, ◌∙◌}
use mathlib.Core.List.{List, [], ◌∷◌, ◌++◌, map}
use Prim.Native.Nat.{ℕ, zero, suc, ◌≤◌, ◌<◌}
use native.Mathlib.Nat.{not-suc-le-zero, le_of_suc-le-suc}
use native.Mathlib.Omega.{arith}
use borrow.Author.Tests.{le-leb, lt-leb}
use lib.ListN.{length, get_or, set, take, drop}
use lib.Seq.{take-length}
use Rattle.framing.specs.Paging.{paged_of, outcome_at, results_of}
use Rattle.framing.specs.declared.page.Request.{Request}
use Rattle.framing.specs.declared.page.Outcome.{Outcome}
use Rattle.framing.specs.declared.page.Paged.{Paged}

-- ---- a list after i turns: the images of the first i, and the old rest

module _ {X Y : Type 0} (f : X → Y) where
  abbrev pub mix : List X → List Y → ℕ → List Y
  mix xs ys i = map f (take i xs) ++ drop i ys

  pub mix_next : (xs : List X) (ys : List Y) (i : ℕ) (d : X) → i < length xs → i < length ys → set (mix xs ys i) i (f (get_or xs i d)) ≡ mix xs ys (suc i)
  mix_next [] ys i d a b = absurd (not-suc-le-zero a)
  mix_next (x ∷ xs) [] i d a b = absurd (not-suc-le-zero b)
  mix_next (x ∷ xs) (y ∷ ys) zero d a b = refl
  mix_next (x ∷ xs) (y ∷ ys) (suc i) d a b = ap (λ (l : List Y). f x ∷ l) (mix_next xs ys i d (le_of_suc-le-suc a) (le_of_suc-le-suc b))

  pub mix_length : (xs : List X) (ys : List Y) (i : ℕ) → i ≤ length xs → i ≤ length ys → length (mix xs ys i) ≡ length ys
  mix_length xs ys zero a b = refl
  mix_length [] ys (suc i) a b = absurd (not-suc-le-zero a)
  mix_length (x ∷ xs) [] (suc i) a b = absurd (not-suc-le-zero b)
  mix_length (x ∷ xs) (y ∷ ys) (suc i) a b = ap suc (mix_length xs ys i (le_of_suc-le-suc a) (le_of_suc-le-suc b))

  -- each of the first is the image in its place, and each later one is the old
  pub mix_image : (xs : List X) (ys : List Y) (i k : ℕ) (d : X) (e : Y) → k < i → i ≤ length xs → i ≤ length ys → get_or (mix xs ys i) k e ≡ f (get_or xs k d)
  mix_image xs ys zero k d e h a b = absurd (not-suc-le-zero h)
  mix_image [] ys (suc i) k d e h a b = absurd (not-suc-le-zero a)
  mix_image (x ∷ xs) [] (suc i) k d e h a b = absurd (not-suc-le-zero b)
  mix_image (x ∷ xs) (y ∷ ys) (suc i) zero d e h a b = refl
  mix_image (x ∷ xs) (y ∷ ys) (suc i) (suc k) d e h a b = mix_image xs ys i k d e (le_of_suc-le-suc h) (le_of_suc-le-suc a) (le_of_suc-le-suc b)

  pub mix_old : (xs : List X) (ys : List Y) (i k : ℕ) (e : Y) → i ≤ k → i ≤ length xs → i ≤ length ys → get_or (mix xs ys i) k e ≡ get_or ys k e
  mix_old xs ys zero k e h a b = refl
  mix_old [] ys (suc i) k e h a b = absurd (not-suc-le-zero a)
  mix_old (x ∷ xs) [] (suc i) k e h a b = absurd (not-suc-le-zero b)
  mix_old (x ∷ xs) (y ∷ ys) (suc i) zero e h a b = absurd (not-suc-le-zero h)
  mix_old (x ∷ xs) (y ∷ ys) (suc i) (suc k) e h a b = mix_old xs ys i k e (le_of_suc-le-suc h) (le_of_suc-le-suc a) (le_of_suc-le-suc b)

-- ---- the three cases: what is answered, and what is left

abbrev answer : ℕ → ℕ → Paged
answer n k = record { number = n; count = k }

module _ (t w : List ℕ) (qs : List Request) (rs : List Outcome) where
  pub record PageIs (p : Paged) (left : List Outcome) : Type 0 where
    pub answered : p ≡ paged_of (length qs) (length rs)
    pub results : left ≡ results_of t w qs rs

  -- "Up to 256 requests": each is read
  pub page_all : length qs ≤ 256 → length qs ≤ length rs → PageIs (answer 0 (length qs)) (mix (outcome_at t w) qs rs (length qs))
  unfolding paged_of results_of
  page_all f g =
      record {
        answered = rw (le-leb (length qs) 256 f, le-leb (length qs) (length rs) g);
        results = ap (λ (l : List Request). map (outcome_at t w) l ++ drop (length qs) rs) (take-length qs) ∙ rw (le-leb (length qs) 256 f, le-leb (length qs) (length rs) g);
      }

  -- "29 for more than 256"
  pub page_many : 256 < length qs → PageIs (answer 29 0) rs
  unfolding paged_of results_of
  page_many l = record { answered = rw (lt-leb (length qs) 256 l); results = rw (lt-leb (length qs) 256 l) }

  -- "then 28 for a result list that is too short"
  pub page_few : length qs ≤ 256 → length rs < length qs → PageIs (answer 28 0) rs
  unfolding paged_of results_of
  page_few f l =
      record {
        answered = rw (le-leb (length qs) 256 f, lt-leb (length qs) (length rs) l);
        results = rw (le-leb (length qs) 256 f, lt-leb (length qs) (length rs) l);
      }

  -- ---- result by result, where the page passes

  module _ (f : length qs ≤ 256) (g : length qs ≤ length rs) where
    -- "Each result equals what the single read answers, its refusal included"
    pub each_result : (i : ℕ) (q : Request) (r : Outcome) → i < length qs → get_or (results_of t w qs rs) i r ≡ outcome_at t w (get_or qs i q)
    each_result i q r l = ap (λ (ys : List Outcome). get_or ys i r) (sym (page_all f g).results) ∙ mix_image (outcome_at t w) qs rs (length qs) i q r l (omega arith) g

    -- "results beyond the requests stay"
    pub later_result : (i : ℕ) (r : Outcome) → length qs ≤ i → get_or (results_of t w qs rs) i r ≡ get_or rs i r
    later_result i r l = ap (λ (ys : List Outcome). get_or ys i r) (sym (page_all f g).results) ∙ mix_old (outcome_at t w) qs rs (length qs) i r l (omega arith) g

    pub as_many_results : length (results_of t w qs rs) ≡ length rs
    as_many_results = ap length (sym (page_all f g).results) ∙ mix_length (outcome_at t w) qs rs (length qs) (omega arith) g
