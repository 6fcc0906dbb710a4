-- Our calls, as the promises of bench determine them, and that they meet the demands. Assumes nothing.
use Prim.Native.Nat.{ℕ, ◌+◌}
use mathlib.Core.Path.{refl}
use mathlib.Core.List.{List}
use denote.Ref.{Bor}
use lib.ListN.{length}
use Rattle.gather.specs.Ruling.{judge_of}
use Rattle.maker.specs.Made.{made_of, left_of}
use Rattle.table.specs.Answers.{check_of, asked_number, asked_mnemonic, asked_refusal, name_answered, place_answered}
use Rattle.framing.specs.Reading.{read_of}
use Rattle.framing.specs.Placing.{place_of, placed_of}
use Rattle.framing.specs.Comparing.{compared_of}
use Rattle.framing.specs.Paging.{paged_of, results_of}
use Rattle.carding.specs.Answer.{carded_of, handed_of, bits_of_frame}
use Rattle.demands.specs.Calls.{Calls, Kept}
use Rattle.demands.specs.Demands.{Demands}
use Rattle.demands.proofs.Meeting.{demands_met}
use Rattle.table.specs.Answers.{Asked}

-- the table's own bytes from where the name stands
abbrev answered_part : Bor (List ℕ) → Asked → Bor (List ℕ)
answered_part t a = record { ref_ptr = (t.ref_ptr.0, t.ref_ptr.1 + place_answered t.now a); now = name_answered t.now a }

abbrev pub ours : Calls
ours =
    record {
      make = λ s l. made_of (judge_of s) (length l);
      made = λ s l. left_of (judge_of s) l;
      check = check_of;
      read = read_of;
      place = place_of;
      placed = placed_of;
      compare = compared_of;
      page = λ t f qs rs. paged_of (length qs) (length rs);
      paged = results_of;
      name = λ t p. answered_part t (asked_number t.now p);
      name_number = λ t p. asked_refusal (asked_number t p);
      name_by = λ t m. answered_part t (asked_mnemonic t.now m);
      name_by_number = λ t m. asked_refusal (asked_mnemonic t m);
      card_from = carded_of;
      handed_from = handed_of;
      card = λ t y w. carded_of t y 0 w;
      handed = λ t y w. handed_of t y 0 w;
      frame_bits = bits_of_frame;
    }

pub ours_kept : Kept ours
ours_kept =
    record {
      makes = λ s l. (refl, refl);
      checks = λ t. refl;
      reads = λ t f p s. refl;
      places = λ t f p s v. (refl, refl);
      compares = λ t f. refl;
      pages = λ t f qs rs. (refl, refl);
      names = λ t p. record { bytes = refl; own = record { block = refl; place = refl } };
      names_numbered = λ t p. refl;
      names_by = λ t m. record { bytes = refl; own = record { block = refl; place = refl } };
      names_by_numbered = λ t m. refl;
      cards_from = λ t y from w. (refl, refl);
      cards = λ t y w. (refl, refl);
      counts_bits = λ t. refl;
    }

pub ours_meets : Demands ours
ours_meets = demands_met ours ours_kept
