-- A listed sample takes a value that fits; anything else leaves every word.
use mathlib.Core.Path.{◌≡◌, sym, ap, ap₂, ◌∙◌}
use mathlib.Core.Bool.{Bool, ◌&&◌}
use native.Mathlib.Omega.{arith}
use Prim.Native.Nat.{ℕ, ◌^◌}
use Rattle.model.specs.View.{view}
use Rattle.model.specs.Accepts.{accepts}
use Rattle.framing.specs.Fitting.{Fit}
use Rattle.framing.specs.Wanted.{wanted_by, wanted_in, wanted_of}
use Rattle.framing.specs.Placing.{laps_in}
use Rattle.framing.proofs.Exits.{none_out}
use Rattle.framing.proofs.PlaceCases.{laps, too_large, done, not_wanted}
use Rattle.framing.proofs.WantCases.{want_no_table, want_table, wanted_found}
use mathlib.Core.List.{List}
use Rattle.std.specs.Prelude.{Option, Some}
use Rattle.sample.specs.Placing.{place as placed}
use Rattle.model.specs.Content.{parameter, sample}
use Rattle.model.specs.Samples.{pieces}
use Rattle.std.specs.Borrow.{Bor}
use mathlib.Core.Bool.{true}
use Rattle.stored.specs.Entry.{OpeningOf}
use Rattle.std.proofs.lemmas.Result.{err_from_is_err_and}
use Rattle.stored.proofs.Openings.{was_opened, was_not}
use Rattle.rules.specs.declared.ruled.RuledTable.{RuledTable}
use Rattle.framing.specs.Fitting.{fit_of}
use Rattle.framing.specs.Wanted.{Wanted}
use Rattle.framing.specs.Reading.{width_is}
use Rattle.frame.proofs.place.place.Goals as goal

-- the lent bytes, opened
module _ {b : Bor (List ℕ)} {k : Option RuledTable} {o : RuledTable} (h : OpeningOf (λ (r : RuledTable). r.declared.table.bytes) b (accepts b.now) k) (e : k ≡ Some o) where
  here : accepts b.now ≡ true
  here = was_opened h e

  same : o.declared.table.bytes.now ≡ b.now
  same = ap (λ (x : Bor (List ℕ)). x.now) (h.of o e)

  -- what was wanted, by the opened table and of the lent bytes
  module _ (f : List ℕ) (p s : ℕ) {d : Fit} {w : Wanted} (g : d ≡ fit_of (view o.declared.table.bytes.now) f) (v : w ≡ wanted_by (view o.declared.table.bytes.now) d p s) where
    wanted_there : w ≡ wanted_in (view o.declared.table.bytes.now) f p s
    wanted_there = v ∙ ap (λ (x : Fit). wanted_by (view o.declared.table.bytes.now) x p s) g

    sought : w ≡ wanted_of b.now f p s
    sought = wanted_there ∙ ap (λ (x : List ℕ). wanted_in (view x) f p s) same ∙ sym (want_table _ _ _ _ here)

  -- and whether it overlaps
  lapped : (p s : ℕ) {t l : Bool} → l ≡ laps_in (view o.declared.table.bytes.now) p s → l ≡ t → (accepts b.now && laps_in (view b.now) p s) ≡ t
  lapped p s v t = ap₂ ◌&&◌ here (sym (ap (λ (x : List ℕ). laps_in (view x) p s) same) ∙ sym v ∙ t)

pub returns-in_err-r : goal.returns-in_err-r
returns-in_err-r c =
    let n = was_not c.opening.ensures c.in_err-r.ensures.ok_part in
    let h = not_wanted c.args.t.now c.args.words.now c.args.parameter c.args.sample c.args.value (ap (λ (t : Bool). t && laps_in (view c.args.t.now) c.args.parameter c.args.sample) n) _ (want_no_table c.args.t.now c.args.words.now c.args.parameter c.args.sample n) in
    rw (none_out c.opening.result c.from_residual.result c.from_residual.ensures.1 c.in_err-r.ensures.value) (sym h.answer, sym h.frame)

pub returns-then-laps_in : goal.returns-then-laps_in
returns-then-laps_in c =
    let h = laps c.args.t.now c.args.words.now c.args.parameter c.args.sample c.args.value (lapped c.opening.ensures c.in_ok-r.ensures.ok_part _ _ c.laps_in.ensures c.if-laps_in.true) in
    (sym h.answer, sym h.frame)

pub returns-in_err-i : goal.returns-in_err-i
returns-in_err-i c =
    let q = err_from_is_err_and c.from_residual-in_err-i.result c.from_residual-in_err-i.ensures.1 in
    let h = not_wanted _ _ _ _ c.args.value (lapped c.opening.ensures c.in_ok-r.ensures.ok_part _ _ c.laps_in.ensures c.if-laps_in.false) _ (sym (sought c.opening.ensures (c.in_ok-r.ensures.ok_part ∙ ap Some (sym c.based-b.ensures)) _ _ _ c.fit_of.ensures c.in_err-i.ensures)) in
    rw (q.1, q.2) (sym h.answer, sym h.frame)

pub width_in-requires : goal.width_in-requires
width_in-requires c =
    let h = wanted_found _ _ _ _ _ _ (sym (wanted_there c.opening.ensures (c.in_ok-r.ensures.ok_part ∙ ap Some (sym c.based-b.ensures)) _ _ _ c.fit_of.ensures c.in_ok-i.ensures)) in
    record { i_bound = h.parameter; j_bound = h.sample }

pub power_of_two-requires : goal.power_of_two-requires
power_of_two-requires c = omega (arith, c.width_in.ensures.1)

pub returns-then-power_of_two-value : goal.returns-then-power_of_two-value
returns-then-power_of_two-value c =
    let n = same c.opening.ensures (c.in_ok-r.ensures.ok_part ∙ ap Some (sym c.based-b.ensures)) in
    let e = ap (λ (n : ℕ). 2 ^ n) (c.width_in.ensures.0 ∙ ap (λ (x : List ℕ). width_is (view x) c.in_ok-i.i c.in_ok-i.j) n) in
    let h = too_large _ _ _ _ c.args.value (lapped c.opening.ensures c.in_ok-r.ensures.ok_part _ _ c.laps_in.ensures c.if-laps_in.false) _ _ (sym (sought c.opening.ensures (c.in_ok-r.ensures.ok_part ∙ ap Some (sym c.based-b.ensures)) _ _ _ c.fit_of.ensures c.in_ok-i.ensures)) (omega (arith, c.power_of_two.ensures, e, c.if-power_of_two-value.true)) in
    (sym h.answer, sym h.frame)

pub place_in-requires : goal.place_in-requires
place_in-requires c =
    let h = wanted_found _ _ _ _ _ _ (sym (wanted_there c.opening.ensures (c.in_ok-r.ensures.ok_part ∙ ap Some (sym c.based-b.ensures)) _ _ _ c.fit_of.ensures c.in_ok-i.ensures)) in
    record { i_bound = h.parameter; j_bound = h.sample; words_len = h.long }

pub returns : goal.returns
returns c =
    let n = same c.opening.ensures (c.in_ok-r.ensures.ok_part ∙ ap Some (sym c.based-b.ensures)) in
    let e = ap (λ (n : ℕ). 2 ^ n) (c.width_in.ensures.0 ∙ ap (λ (x : List ℕ). width_is (view x) c.in_ok-i.i c.in_ok-i.j) n) in
    let h = done _ _ _ _ c.args.value (lapped c.opening.ensures c.in_ok-r.ensures.ok_part _ _ c.laps_in.ensures c.if-laps_in.false) _ _ (sym (sought c.opening.ensures (c.in_ok-r.ensures.ok_part ∙ ap Some (sym c.based-b.ensures)) _ _ _ c.fit_of.ensures c.in_ok-i.ensures)) (omega (arith, c.power_of_two.ensures, e, c.if-power_of_two-value.false)) in
    (sym h.answer, c.place_in.ensures ∙ ap (λ (x : List ℕ). placed c.args.words.now (pieces (view x).subframes (sample (parameter (view x) c.in_ok-i.i) c.in_ok-i.j)) c.args.value) n ∙ sym h.frame)
