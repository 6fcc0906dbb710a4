-- Useless versions of a page: no bench that has one meets the demands. Each is put as what it would answer or leave for every table,
-- frame, list of requests and list of results. Assumes nothing.
use Prim.Native.Nat.{ℕ, suc, ◌≤◌, ◌<◌}
use native.Mathlib.Omega.{arith}
use mathlib.Core.Bool.{Bool, true, false, cond}
use mathlib.Core.Path.{◌≡◌, refl, sym, ap, ◌∙◌}
use mathlib.Core.List.{List, [], ◌∷◌}
use lib.Dec.{leb}
use lib.IntN.{pos}
use lib.ListN.{length, get_or, replicate}
use Rattle.model.specs.Accepts.{accepts}
use Rattle.framing.specs.Reading.{read_number}
use Rattle.framing.specs.Outcomes.{outcome_of}
use Rattle.framing.specs.declared.page.Request.{Request}
use Rattle.framing.specs.declared.page.Outcome.{Outcome}
use Rattle.demands.specs.Calls.{Calls}
use Rattle.demands.specs.Refusing.{first_broken, page_rules}
use Rattle.demands.specs.Demands.{PageRead, Demands}
use Rattle.demands.proofs.Wall.{words, wall_table, reads_sync, reads_pitch}

-- Sync and Pitch of the wall, and a parameter that no table has
abbrev sync : Request
sync = record { parameter = 1; sample = 1 }

abbrev pitch : Request
pitch = record { parameter = 2; sample = 1 }

abbrev nobody : Request
nobody = record { parameter = 0; sample = 0 }

abbrev old : Outcome
old = record { number = 7; kind = 7; width = 7; raw = 7; value = pos 7 }

-- two requests with room for two, and one
abbrev two_asked : List Request
two_asked = sync ∷ pitch ∷ []

abbrev two_old : List Outcome
two_old = old ∷ old ∷ []

abbrev after_refused : List Request
after_refused = nobody ∷ pitch ∷ []

abbrev raw_of : Outcome → ℕ
raw_of o = o.raw

abbrev number_of : Outcome → ℕ
number_of o = o.number

two_pass : first_broken (page_rules two_asked two_old) ≡ 0
unfolding first_broken
two_pass = refl

refused_pass : first_broken (page_rules after_refused two_old) ≡ 0
unfolding first_broken
refused_pass = refl

one_pass : first_broken (page_rules (sync ∷ []) two_old) ≡ 0
unfolding first_broken
one_pass = refl

few_told : first_broken (page_rules two_asked (old ∷ [])) ≡ 28
unfolding first_broken
few_told = refl

full_pass : first_broken (page_rules (replicate 256 sync) (replicate 256 old)) ≡ 0
unfolding first_broken
full_pass = refl

many_first : first_broken (page_rules (replicate 257 sync) []) ≡ 29
unfolding first_broken
many_first = refl

module _ (B : Calls) (D : Demands B) where
  asked : (qs : List Request) (rs : List Outcome) → first_broken (page_rules qs rs) ≡ 0 → PageRead B (wall_table B) words qs rs
  asked qs rs h = D.two.pages (wall_table B) words qs rs h

  -- what Pitch's result is
  pitch_outcome : (outcome_of (B.read (wall_table B) words 2 1)).raw ≡ 53
  unfolding outcome_of
  pitch_outcome = ap (λ (x : _). (outcome_of x).raw) (reads_pitch B D)

  sync_outcome : (outcome_of (B.read (wall_table B) words 1 1)).raw ≡ 583
  unfolding outcome_of
  sync_outcome = ap (λ (x : _). (outcome_of x).raw) (reads_sync B D)

  -- 18 or 21, whatever the table is
  nobody_refused : read_number (B.read (wall_table B) words 0 0) ≡ 0 → ⊥
  unfolding first_broken
  nobody_refused e = go (accepts (wall_table B)) (sym (D.one.reads (wall_table B) words 0 0) ∙ e)
    where
      go : (a : Bool) → ◌≡◌ {A = ℕ} (cond a 21 18) 0 → ⊥
      go true z = omega (arith, z)
      go false z = omega (arith, z)

  -- results shifted by one: each is the next request's
  pub not_shifted : ((t f : List ℕ) (qs : List Request) (rs : List Outcome) (i : ℕ) (q : Request) (r : Outcome) → first_broken (page_rules qs rs) ≡ 0 → i < length qs
      → get_or (B.paged t f qs rs) i r ≡ outcome_of (B.read t f (get_or qs (suc i) q).parameter (get_or qs (suc i) q).sample)) → ⊥
  not_shifted u = omega (arith, ap raw_of (sym ((asked two_asked two_old two_pass).each 0 nobody old (omega arith)) ∙ u (wall_table B) words two_asked two_old 0 nobody old two_pass (omega arith)), sync_outcome, pitch_outcome)

  -- it stops at the first refusal: what stands behind a refused request stays
  pub not_stopped : ((t f : List ℕ) (qs : List Request) (rs : List Outcome) (i : ℕ) (q : Request) (r : Outcome) → first_broken (page_rules qs rs) ≡ 0
      → (read_number (B.read t f (get_or qs i q).parameter (get_or qs i q).sample) ≡ 0 → ⊥) → get_or (B.paged t f qs rs) (suc i) r ≡ get_or rs (suc i) r) → ⊥
  not_stopped u = omega (arith, ap raw_of (sym ((asked after_refused two_old refused_pass).each 1 nobody old (omega arith)) ∙ u (wall_table B) words after_refused two_old 0 nobody old refused_pass nobody_refused), pitch_outcome)

  -- 255 requests at most
  pub not_255 : ((t f : List ℕ) (qs : List Request) (rs : List Outcome) → 255 < length qs → (B.page t f qs rs).number ≡ 29) → ⊥
  not_255 u = omega (arith, sym (D.one.pages [] [] (replicate 256 sync) (replicate 256 old)) ∙ u [] [] (replicate 256 sync) (replicate 256 old) (omega arith), full_pass)

  -- 28 before 29
  pub many_before_few : ((t f : List ℕ) (qs : List Request) (rs : List Outcome) → length rs < length qs → (B.page t f qs rs).number ≡ 28) → ⊥
  many_before_few u = omega (arith, sym (D.one.pages [] [] (replicate 257 sync) []) ∙ u [] [] (replicate 257 sync) [] (omega arith), many_first)

  -- results beyond the requests cleared
  pub not_cleared : ((t f : List ℕ) (qs : List Request) (rs : List Outcome) (i : ℕ) (r : Outcome) → first_broken (page_rules qs rs) ≡ 0 → length qs ≤ i → i < length rs
      → (get_or (B.paged t f qs rs) i r).number ≡ 0) → ⊥
  not_cleared u = omega (arith, ap number_of (sym ((asked (sync ∷ []) two_old one_pass).beyond 1 old (omega arith))) ∙ u (wall_table B) words (sync ∷ []) two_old 1 old one_pass (omega arith) (omega arith))

  -- the page itself refused for a bad table, frame or number: its own number is 0, 28 or 29, and 18 stands in the results
  pub own_number : (t f : List ℕ) (qs : List Request) (rs : List Outcome) → (B.page t f qs rs).number ≡ 18 → ⊥
  unfolding first_broken
  own_number t f qs rs e = go (leb (length qs) 256) (leb (length qs) (length rs)) (sym (D.one.pages t f qs rs) ∙ e)
    where
      go : (a b : Bool) → ◌≡◌ {A = ℕ} (cond a (cond b 0 28) 29) 18 → ⊥
      go true true z = omega (arith, z)
      go true false z = omega (arith, z)
      go false b z = omega (arith, z)

  -- a refusal that writes: too few results are filled as far as they go
  pub not_filled : ((t f : List ℕ) (qs : List Request) (rs : List Outcome) (i : ℕ) (q : Request) (r : Outcome) → length rs < length qs → i < length rs
      → get_or (B.paged t f qs rs) i r ≡ outcome_of (B.read t f (get_or qs i q).parameter (get_or qs i q).sample)) → ⊥
  not_filled u =
      let e = u (wall_table B) words two_asked (old ∷ []) 0 nobody old (omega arith) (omega arith) in
      let k = (D.one.page_unchanged (wall_table B) words two_asked (old ∷ []) (λ z. omega (arith, sym few_told ∙ z))).results in
      omega (arith, ap (λ (ys : List Outcome). raw_of (get_or ys 0 old)) (sym k) ∙ ap raw_of e, sync_outcome)
