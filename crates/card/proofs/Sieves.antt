-- The sieve, row by row. Assumes nothing.
use mathlib.Core.Path.{◌≡◌, sym, ap, ap₂, ◌∙◌}
use mathlib.Core.Bool.{true}
use mathlib.Core.List.{List}
use Prim.Native.Nat.{ℕ, ◌+◌, ◌<◌}
use native.Mathlib.Omega.{arith}
use Rattle.bits.specs.Word.{field}
use Rattle.lay.proofs.Below.{all_below}
use Rattle.stream.specs.Stream.{bits_from}
use Rattle.model.specs.Content.{Sample}
use Rattle.model.specs.Samples.{holds_at, holds}
use Rattle.model.specs.Stored.{component_count_in, parameters_in, first_sample_in, value_in}
use Rattle.model.specs.View.{view, sample_at, identifier_in}
use Rattle.rules.specs.Ruled.{subframes_of, Ruled}
use Rattle.rules.proofs.Identifying.{first}
use Rattle.card.specs.declared.spans.Run.{Run}
use Rattle.carding.specs.Layout.{frame_at}
use Rattle.carding.specs.Search.{agrees_at, reads_at}
use Rattle.card.specs.Promise.{RunOf}
use Rattle.framing.proofs.Held.{holds_all}
use Rattle.carding.proofs.Agreeing.{agrees_all, identifier_reads}
use Rattle.card.specs.declared.rows.Row.{Row}
use Rattle.card.specs.Sieve.{SieveOf, row_holds, With}
use Rattle.card.proofs.Runs.{Along, along_more, tested}

-- ---- the rows of an identifier

-- the rows so far; and in every frame that agrees, each component of sample j is its bits of v
pub record Sifting (b : List ℕ) (j v : ℕ) (s : List Row) (first count at k : ℕ) : Type 0 where
  pub along : Along b j first count at k
  pub sieve : SieveOf b s
  pub held : (y : List ℕ) (p : ℕ) → agrees_at (view b) y p ≡ true → holds (subframes_of b) (frame_at (view b) y p) (sample_at b j) v ≡ true

pub sifting_more : {b : List ℕ} {j v : ℕ} {s : List Row} {first count at k : ℕ} (t : Sifting b j v s first count at k) → k < count → {c : Run} → RunOf b (first + k) c → {row : Row} → row.at ≡ c.at → row.width ≡ c.bits → row.want ≡ field v at c.bits → {r : List Row} → With s row r → Sifting b j v r first count (at + c.given) (k + 1)
unfolding row_holds
sifting_more {b} {j} {v} {k = k} t l {c} e {row} a w q h =
    record {
      along = along_more t.along l e;
      sieve = record { needed = λ y p g. h.sifts y p (t.sieve.needed y p g) (row_wanted y p g) };
      held = t.held;
    }
  where
    -- every such frame has component k's row
    row_wanted : (y : List ℕ) (p : ℕ) → agrees_at (view b) y p ≡ true → row_holds y p row ≡ true
    row_wanted y p g =
        let f = frame_at (view b) y p in
        let each = all_below (component_count_in b j) (holds_at (subframes_of b) f (sample_at b j) v) (holds_all b j f v ∙ t.held y p g) in
        (tested t.along l e y p v (ap₂ (λ (m n : ℕ). bits_from y (p + m) n) a w) q ∙ each k (omega (arith, t.along.counted)))

-- an identifier is its value in every frame that agrees
pub value_held : (b : List ℕ) (i : ℕ) → Ruled b → i < parameters_in b → identifier_in b i ≡ true → (y : List ℕ) (p : ℕ) → agrees_at (view b) y p ≡ true → holds (subframes_of b) (frame_at (view b) y p) (sample_at b (first_sample_in b i)) (value_in b i) ≡ true
value_held b i r l e y p h =
    let f = frame_at (view b) y p in
    let reads = all_below (parameters_in b) (reads_at (view b) f) (sym (agrees_all b y p r) ∙ h) i l in
    ap (λ (s : Sample). holds (subframes_of b) f s (value_in b i)) (sym (first b i r l).is) ∙ sym (identifier_reads b f i l e) ∙ reads
