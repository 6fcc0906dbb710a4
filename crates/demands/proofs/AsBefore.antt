-- What a table of form 1 answered is what it answers: for every call but the card's, the promise's definition gives what the
-- base's gave, by the base's own check and Content (model's FormOne) and the base's own reading, placing and comparing (Unlapped). The
-- latter hold of form 2 too. Assumes nothing.
use Prim.Native.Nat.{ℕ, ◌-◌, ◌≤◌}
use native.Mathlib.Omega.{arith}
use mathlib.Core.Path.{◌≡◌, refl, sym, ap, ◌∙◌}
use mathlib.Core.Bool.{Bool, true, false, cond, ◌&&◌}
use mathlib.Core.List.{List}
use borrow.Author.Tests.{leb-true}
use lib.Dec.{leb}
use lib.ListN.{length}
use Rattle.lay.proofs.Tests.{refuse, differ, and_0, and_1}
use Rattle.model.specs.Content.{Content, parameter, parameters, sample}
use Rattle.model.specs.Forms.{rows, row, limits_of, form_in, limits_in}
use Rattle.model.specs.Samples.{overlapped}
use Rattle.model.specs.View.{view}
use Rattle.model.specs.Accepts.{accepts}
use Rattle.model.specs.Meaning.{Lawful}
use Rattle.model.proofs.Meanings.{lawful_law}
use Rattle.model.proofs.Views.{parameters_view, samples_are}
use Rattle.table.proofs.Accepting.{accepts_lawful}
use Rattle.model.specs.FormOne.{base_view, base_accepts}
use Rattle.model.proofs.FormOnes.{base_accepts_lem, base_view_lem, base_kept}
use Rattle.table.specs.Answers.{check_of, numbered, called, asked_number, asked_mnemonic, name_answered}
use Rattle.table.specs.declared.reason.Reason.{Reason}
use Rattle.table.specs.declared.reason.Reason.TheVariants.{NoTable}
use Rattle.framing.specs.Fitting.{fit_of}
use Rattle.framing.specs.Wanted.{wanted_in, wanted_of}
use Rattle.framing.specs.Reading.{read_for, read_of}
use Rattle.framing.specs.Placing.{laps_in, place_for, place_of, placed_for, placed_of}
use Rattle.framing.specs.Comparing.{fitted_compared, compared_in, compared_of}
use Rattle.framing.proofs.WantCases.{wanted_found}
use Rattle.framing.specs.Wanted.{has_parameter, has_sample}
use Rattle.demands.proofs.Unlapped.{base_read, base_place, base_placed, base_compared, plain_read, plain_place, plain_placed, none_overlaps, plain_compared}
use Rattle.std.specs.Prelude.{Ok, Err}
use Rattle.framing.specs.Wanted.{Wanted}
use Rattle.table.specs.Answers.{Asked}

-- the base's definitions
module _ (b : List ℕ) where
  abbrev base_wanted : List ℕ → ℕ → ℕ → Wanted
  base_wanted f p s = cond (base_accepts b) (wanted_in (base_view b) f p s) (Err NoTable)

  abbrev base_numbered : ℕ → Asked
  base_numbered p = cond (base_accepts b) (numbered (base_view b) p) (Err NoTable)

  abbrev base_called : List ℕ → Asked
  base_called m = cond (base_accepts b) (called (base_view b) m) (Err NoTable)

  pub record AsBefore : Type 0 where
    pub checks : check_of b ≡ cond (base_accepts b) (Ok tt) (Err NoTable)
    pub reads : (f : List ℕ) (p s : ℕ) → read_of b f p s ≡ base_read (base_view b) f (base_wanted f p s)
    pub places : (f : List ℕ) (p s v : ℕ) → place_of b f p s v ≡ base_place (base_view b) (base_wanted f p s) v
    pub placed : (f : List ℕ) (p s v : ℕ) → placed_of b f p s v ≡ base_placed (base_view b) f (base_wanted f p s) v
    pub compares : (f : List ℕ) → compared_of b f ≡ cond (base_accepts b) (fitted_compared (fit_of (base_view b) f) (base_compared (base_view b) f)) (Err NoTable)
    pub asks : (p : ℕ) → asked_number b p ≡ base_numbered p
    pub asks_by : (m : List ℕ) → asked_mnemonic b m ≡ base_called m
    pub names : (i : ℕ) → base_accepts b ≡ true → name_answered b (Ok i) ≡ (parameter (base_view b) i).name

-- a table of a form that has no overlap: forms 1 and 2
module _ (b : List ℕ) (none : (limits_in b).overlap ≡ 0) where
  module _ (h : accepts b ≡ true) where
    lawfully : Lawful (limits_in b) (view b)
    lawfully = lawful_law (limits_in b) (view b) (accepts_lawful b h)

    plain : (f : List ℕ) (p s i j : ℕ) → wanted_in (view b) f p s ≡ Ok (i, j) → overlapped (sample (parameter (view b) i) j) ≡ false
    plain f p s i j e =
        let x = wanted_found b f p s i j e in
        none_overlaps (limits_in b) none (view b) lawfully i j (omega (arith, x.parameter, parameters_view b)) (omega (arith, x.sample, samples_are b i x.parameter))

  listed : (f : List ℕ) (p s i j : ℕ) → wanted_of b f p s ≡ Ok (i, j) → overlapped (sample (parameter (view b) i) j) ≡ false
  unfolding wanted_of
  listed f p s i j e = go (accepts b) refl e
    where
      go : (t : Bool) → accepts b ≡ t → cond t (wanted_in (view b) f p s) (Err NoTable) ≡ Ok (i, j) → overlapped (sample (parameter (view b) i) j) ≡ false
      go true h e = plain h f p s i j e
      go false h e = absurd (let z : ◌≡◌ {A = ℕ} 0 1 = cc in omega arith)

  either_way : {A : Type 0} (F G : Wanted → A) (f : List ℕ) (p s : ℕ) → ((i j : ℕ) → overlapped (sample (parameter (view b) i) j) ≡ false → F (Ok (i, j)) ≡ G (Ok (i, j))) → ((r : Reason) → F (Err r) ≡ G (Err r)) → F (wanted_of b f p s) ≡ G (wanted_of b f p s)
  either_way F G f p s some refused = go (wanted_of b f p s) refl
    where
      go : (w : Wanted) → wanted_of b f p s ≡ w → F w ≡ G w
      go (Ok (i, j)) e = some i j (listed f p s i j e)
      go (Err r) e = refused r

  pub plain_reads : (f : List ℕ) (p s : ℕ) → read_of b f p s ≡ base_read (view b) f (wanted_of b f p s)
  unfolding read_of read_for
  plain_reads f p s = either_way (read_for (view b) f) (base_read (view b) f) f p s (λ i j z. plain_read (view b) i j z f) (λ r. refl)

  -- nothing is kept from being placed
  none_laps : (p s : ℕ) → (accepts b && laps_in (view b) p s) ≡ false
  unfolding laps_in
  none_laps p s = sym (refuse _ (λ h. go (and_0 (accepts b) _ h) (and_1 (accepts b) _ h)))
    where
      go : accepts b ≡ true → (has_parameter (view b) p && (has_sample (view b) p s && overlapped (sample (parameter (view b) (p - 1)) (s - 1)))) ≡ true → ⊥
      go h e =
          let x = and_0 (has_parameter (view b) p) _ e in
          let y = and_1 (has_parameter (view b) p) _ e in
          let u = and_0 (has_sample (view b) p s) _ y in
          let l : 1 ≤ p = leb-true _ _ (and_0 _ _ x) in
          let m : p ≤ parameters (view b) = leb-true _ _ (and_1 (leb 1 p) _ x) in
          let i : 1 ≤ s = leb-true _ _ (and_0 _ _ u) in
          let k : s ≤ length (parameter (view b) (p - 1)).samples = leb-true _ _ (and_1 (leb 1 s) _ u) in
          differ (none_overlaps (limits_in b) none (view b) (lawfully h) (p - 1) (s - 1) (omega (arith, l, m)) (omega (arith, i, k))) (and_1 (has_sample (view b) p s) _ y)

  pub plain_places : (f : List ℕ) (p s v : ℕ) → place_of b f p s v ≡ base_place (view b) (wanted_of b f p s) v
  unfolding place_of place_for
  plain_places f p s v =
      rw (none_laps p s) (either_way (λ w. place_for (view b) w v) (λ w. base_place (view b) w v) f p s (λ i j z. plain_place (view b) i j z v) (λ r. refl))

  pub plain_leaves : (f : List ℕ) (p s v : ℕ) → placed_of b f p s v ≡ base_placed (view b) f (wanted_of b f p s) v
  unfolding placed_of placed_for
  plain_leaves f p s v =
      rw (none_laps p s) (either_way (λ w. placed_for (view b) f w v) (λ w. base_placed (view b) f w v) f p s (λ i j z. plain_placed (view b) i j z f v) (λ r. refl))

  pub plain_compares : (f : List ℕ) → compared_of b f ≡ cond (accepts b) (fitted_compared (fit_of (view b) f) (base_compared (view b) f)) (Err NoTable)
  unfolding compared_of
  plain_compares f = go (accepts b) refl
    where
      go : (t : Bool) → accepts b ≡ t → cond t (fitted_compared (fit_of (view b) f) (compared_in (view b) f)) (Err NoTable) ≡ cond t (fitted_compared (fit_of (view b) f) (base_compared (view b) f)) (Err NoTable)
      go true h = ap (fitted_compared (fit_of (view b) f)) (plain_compared (limits_in b) none (view b) (lawfully h) f)
      go false h = refl

pub as_before : (b : List ℕ) → form_in b ≡ 1 → AsBefore b
unfolding check_of wanted_of asked_number asked_mnemonic name_answered limits_in row rows
as_before b one =
    let none : (limits_in b).overlap ≡ 0 = ap (λ (f : ℕ). (limits_of f).overlap) one in
    record {
      checks = base_kept b one (λ t c. cond t (Ok tt) (Err NoTable)) (λ c d. refl);
      reads = λ f p s. plain_reads b none f p s ∙ base_kept b one (λ t c. base_read c f (cond t (wanted_in c f p s) (Err NoTable))) (λ c d. refl);
      places = λ f p s v. plain_places b none f p s v ∙ base_kept b one (λ t c. base_place c (cond t (wanted_in c f p s) (Err NoTable)) v) (λ c d. refl);
      placed = λ f p s v. plain_leaves b none f p s v ∙ base_kept b one (λ t c. base_placed c f (cond t (wanted_in c f p s) (Err NoTable)) v) (λ c d. refl);
      compares = λ f. plain_compares b none f ∙ base_kept b one (λ t c. cond t (fitted_compared (fit_of c f) (base_compared c f)) (Err NoTable)) (λ c d. refl);
      asks = λ p. base_kept b one (λ t c. cond t (numbered c p) (Err NoTable)) (λ c d. refl);
      asks_by = λ m. base_kept b one (λ t c. cond t (called c m) (Err NoTable)) (λ c d. refl);
      names = λ i h. ap (λ (c : Content). (parameter c i).name) (base_view_lem b one (base_accepts_lem b one ∙ h));
    }
