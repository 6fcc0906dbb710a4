-- Where a name stands and how long it is, by the items that the table stores. Assumes nothing.
use mathlib.Core.Path.{◌≡◌, refl, sym, ap, ◌∙◌}
use mathlib.Core.List.{List}
use Prim.Native.Nat.{ℕ, ◌+◌}
use lib.ListN.{length}
use Rattle.lay.specs.Bytes.{part}
use Rattle.model.specs.Content.{Parameter}
use Rattle.model.specs.Stored.{text_part, text_start_in, name_length_in, name_in}
use Rattle.model.specs.View.{parameter_at}
use Rattle.model.proofs.Laying.{accepted_laid, parameter_here}
use Rattle.model.proofs.Views.{parameter_view, name_length_lem}
use Rattle.table.specs.Answers.{asked_number, asked_mnemonic, asked_refusal, name_answered, place_answered, Here, AskedHere}
use Rattle.table.specs.declared.reason.Reason.{Reason}
use Rattle.table.proofs.Asking.{number_asked, mnemonic_asked}
use Rattle.ffi.specs.Structs.{no_name_out, name_out}
use Rattle.ffi.specs.declared.tables.OrbName.{OrbName}
use Rattle.std.specs.Prelude.{Ok, Err}
use Rattle.table.specs.Answers.{Asked}

abbrev name_struct : ℕ → ℕ → ℕ → OrbName
name_struct number start long = record { number = number; start = start; length = long }

module _ (b : List ℕ) where
  answered_in : (i : ℕ) → Here b i → name_answered b (Ok i) ≡ name_in b i
  unfolding name_answered parameter_at
  answered_in i h = ap (λ (p : Parameter). p.name) (parameter_view b i h.here)

  answered_long : (i : ℕ) → Here b i → length (name_answered b (Ok i)) ≡ name_length_in b i
  answered_long i h =
      ap length (answered_in i h)
      ∙ name_length_lem b i (parameter_here b (accepted_laid b h.accepted).entries i h.here)

  pub named_out : (a : Asked) (i start long : ℕ) → a ≡ Ok i → Here b i → start ≡ text_part b + text_start_in b i → long ≡ name_length_in b i → name_struct 0 start long ≡ name_out b a
  unfolding name_out asked_refusal place_answered
  named_out a i start long e h p q = rw (e, p, q, answered_long i h)

  pub no_name_out_lem : (a : Asked) (q : Reason) → a ≡ Err q → no_name_out q ≡ name_out b a
  unfolding name_out asked_refusal place_answered name_answered
  no_name_out_lem a q e = sym (ap (name_out b) e)

  -- ---- the table's bytes at that place are the name

  named_there : (i : ℕ) → Here b i → part b (name_out b (Ok i)).start (name_out b (Ok i)).length ≡ name_answered b (Ok i)
  unfolding name_out place_answered name_in
  named_there i h = rw (answered_long i h) (sym (answered_in i h))

  answered_there : (a : Asked) → AskedHere b a → part b (name_out b a).start (name_out b a).length ≡ name_answered b a
  answered_there (Ok i) h = named_there i (h.each i refl)
  answered_there (Err q) h = unfold name_out place_answered name_answered in refl

  pub number_there : (p : ℕ) → part b (name_out b (asked_number b p)).start (name_out b (asked_number b p)).length ≡ name_answered b (asked_number b p)
  number_there p = answered_there (asked_number b p) (number_asked b p)

  pub mnemonic_there : (m : List ℕ) → part b (name_out b (asked_mnemonic b m)).start (name_out b (asked_mnemonic b m)).length ≡ name_answered b (asked_mnemonic b m)
  mnemonic_there m = answered_there (asked_mnemonic b m) (mnemonic_asked b m)
