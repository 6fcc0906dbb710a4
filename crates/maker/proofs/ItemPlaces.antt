-- What the functions that write an entry need: its room, and each item's. Assumes nothing.
use Prim.Native.Nat.{ℕ, ◌+◌, ◌*◌, ◌≤◌}
use mathlib.Core.Path.{◌≡◌, sym, ap, ap₂, ◌∙◌}
use mathlib.Core.Bool.{Bool, true}
use mathlib.Core.List.{List}
use native.Mathlib.Omega.{arith}
use Rattle.lay.specs.Slots.{Slot, span, wide_of}
use Rattle.lay.specs.Reading.{place_of}
use Rattle.lay.specs.declared.item.Place.{Place}
use Rattle.lay.proofs.Slots.{item_ends}
use Rattle.model.specs.Items as item
use Rattle.model.specs.Forms.{newest, limits_of, form_at, form_wide}
use Rattle.model.specs.Sound.{Sound}
use Rattle.model.proofs.Rows.{known_sound, known_newest}
use Rattle.laying.specs.Parts.{new_layout, size}

pub new_sound : Sound newest new_layout (limits_of newest)
new_sound = known_sound newest known_newest

place : ℕ → ℕ → Place
place a w = record { at = a; wide = w }

-- the form stands where every form has it
pub form_place : record { at = form_at; wide = form_wide } ≡ place_of new_layout.header item.form
unfolding place
form_place = ap₂ place (sym new_sound.form_stands) (sym new_sound.form_is_wide)

-- entry i of a part that begins at start, where the code has the entry's size w
pub record EntryAt (p start w i m : ℕ) : Type 0 where
  pub is : start + w * i ≡ start + size p * i
  pub ends : start + w * i + size p ≤ m

pub entry_at : (p start w i m : ℕ) → w ≡ size p → start + size p * i + size p ≤ m → EntryAt p start w i m
entry_at p start w i m e h = let d = ap (λ (s : ℕ). start + s * i) e in record { is = d; ends = omega arith }

-- an item of an entry that ends before m
pub place_room : (t : ℕ → Bool) (ss : List Slot) (o m k : ℕ) (x : Place) → o + span ss ≤ m → x ≡ place_of ss k → t (wide_of ss k) ≡ true → (o + x.at + x.wide ≤ m) × (t x.wide ≡ true)
place_room t ss o m k x h e w =
    let i = item_ends ss k in
    let a = ap (λ (p : Place). p.at) e in
    let b = ap (λ (p : Place). p.wide) e in
    (omega arith, ap t b ∙ w)
