-- Not part of the meaning: texts of a sheet by their places, as the code keeps those of earlier parameters.
use Rattle.std.specs.Prelude.{ℕ, ◌+◌, ◌-◌, List, [], Bool, cond, not, ◌&&◌, ◌||◌, ltb, length, Ok}
use Rattle.std.specs.List.{list_all}
use Rattle.lay.specs.Bytes.{same, part}
use Rattle.text.specs.Blanks.{is_empty}
use Rattle.text.specs.Fields.{field_of, field_at}
use Rattle.text.specs.Refusals.{Judged, when}
use Rattle.text.specs.declared.refusal.Refusal.TheVariants.{Repeated}
use Rattle.lineforms.specs.declared.due.Form.{Form}
use Rattle.lineforms.specs.declared.due.Form.TheVariants.{Stray, Superframe, HeaderWord, HeaderLine, RecordWord, RecordLine, NoneWord, ParameterWord, NameLine, OpeningComponent, ComponentLine, TimeLine, SamplesEnd, SignedLine, RangeLine, SourceLine, LabelLine, SourceEnd, ParameterEnd}
use Rattle.judge.specs.declared.names.Place.{Place}
use Rattle.judge.specs.declared.names.Places.{Places}
use Rattle.judge.specs.declared.rows.Kept.{Kept}

unfoldable pub text_at : List ℕ → Place → List ℕ
text_at s p = cond (ltb p.end p.start || ltb (length s) p.end) [] (part s p.start (p.end - p.start))

-- another text than t stands at p
abbrev pub differs_in : List ℕ → List ℕ → Place → Bool
differs_in s t p = not (same (text_at s p) t)

-- no parameter has this name, mnemonic or identification
abbrev pub new_name_in : List ℕ → List Kept → List ℕ → Bool
new_name_in s ks t = list_all (λ k. differs_in s t k.places.name) ks

abbrev pub new_mnemonic_in : List ℕ → List Kept → List ℕ → Bool
new_mnemonic_in s ks t = list_all (λ k. differs_in s t k.places.mnemonic) ks

abbrev pub new_identification_in : List ℕ → List Kept → List ℕ → Bool
new_identification_in s ks t = list_all (λ k. differs_in s t k.places.identification) ks

-- a 7-field line's name, and its mnemonic and identification where they are not empty, are none of these parameters'
unfoldable pub unlike_names : List ℕ → List Kept → List ℕ → Bool
unlike_names s ks l =
    new_name_in s ks (field_of 0 l)
    && ((is_empty (field_of 1 l) || new_mnemonic_in s ks (field_of 1 l)) && (is_empty (field_of 2 l) || new_identification_in s ks (field_of 2 l)))

abbrev pub names_in : Form → List ℕ → List Kept → List ℕ → Judged
names_in Stray s ks l = Ok tt
names_in Superframe s ks l = Ok tt
names_in HeaderWord s ks l = Ok tt
names_in HeaderLine s ks l = Ok tt
names_in RecordWord s ks l = Ok tt
names_in RecordLine s ks l = Ok tt
names_in NoneWord s ks l = Ok tt
names_in ParameterWord s ks l = Ok tt
names_in NameLine s ks l = when (not (unlike_names s ks l)) Repeated
names_in OpeningComponent s ks l = Ok tt
names_in ComponentLine s ks l = Ok tt
names_in TimeLine s ks l = Ok tt
names_in SamplesEnd s ks l = Ok tt
names_in SignedLine s ks l = Ok tt
names_in RangeLine s ks l = Ok tt
names_in SourceLine s ks l = Ok tt
names_in LabelLine s ks l = Ok tt
names_in SourceEnd s ks l = Ok tt
names_in ParameterEnd s ks l = Ok tt

-- ---- places of the open parameter's texts

-- field k of a line that begins at a in the sheet
abbrev pub place_in : List ℕ → ℕ → ℕ → Place
place_in l a k = record { start = a + (field_at k l).start; end = a + (field_at k l).end }

abbrev pub no_place : Place
no_place = record { start = 0; end = 0 }

abbrev pub no_places : Places
no_places = record { name = no_place; mnemonic = no_place; identification = no_place }

abbrev pub places_after : Form → List ℕ → ℕ → Places → Places
places_after Stray l a h = h
places_after Superframe l a h = h
places_after HeaderWord l a h = h
places_after HeaderLine l a h = h
places_after RecordWord l a h = h
places_after RecordLine l a h = h
places_after NoneWord l a h = h
places_after ParameterWord l a h = h
places_after NameLine l a h = record { name = place_in l a 0; mnemonic = place_in l a 1; identification = place_in l a 2 }
places_after OpeningComponent l a h = h
places_after ComponentLine l a h = h
places_after TimeLine l a h = h
places_after SamplesEnd l a h = h
places_after SignedLine l a h = h
places_after RangeLine l a h = h
places_after SourceLine l a h = h
places_after LabelLine l a h = h
places_after SourceEnd l a h = h
places_after ParameterEnd l a h = no_places
