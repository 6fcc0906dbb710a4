-- Not part of the meaning: a new table's entries by the numbers that the code has, each in the order of its items' numbers.
use Rattle.std.specs.Prelude.{ℕ, ◌+◌, ◌*◌, Bool, List, [], ◌∷◌}
use Rattle.model.specs.Margin.{margin_as}
use Rattle.model.specs.Content.{Subframe, Component}
use Rattle.model.specs.Forms.{newest}
use Rattle.model.specs.Write.{bit}
use Rattle.lineforms.specs.declared.said.Pair.{Pair}
use Rattle.lineforms.specs.declared.said.Part.{Part}
use Rattle.judge.specs.declared.tally.Tally.{Tally}
use Rattle.stored.specs.declared.items.Counts.{Counts}
use Rattle.stored.specs.declared.items.Starts.{Starts}
use Rattle.maker.specs.declared.entries.Described.{Described}

abbrev pub counts_of : Tally → Counts
counts_of x =
    record { subframes = x.declared; parameters = x.parameters; samples = x.samples; components = x.components }

-- the header: the total, the form, whether sequential, zeros and where the text begins; then of each part how many entries it
-- has, and where it begins
unfoldable pub head_by : Counts → Starts → ℕ → Bool → List ℕ
head_by n a total sequential =
    total
    ∷ newest
    ∷ bit sequential
    ∷ 0
    ∷ a.text
    ∷ n.subframes
    ∷ a.subframes
    ∷ n.parameters
    ∷ a.parameters
    ∷ n.samples
    ∷ a.samples
    ∷ n.components
    ∷ a.components
    ∷ []

-- what a line says, as Content has it
abbrev pub said_subframe : Pair → Subframe
said_subframe p =
    record {
      bits = p.bits;
      words = p.words;
      leading = margin_as p.leading;
      trailing = margin_as p.trailing;
      numerator = p.numerator;
      denominator = p.denominator;
    }

abbrev pub said_component : Part → Component
said_component p = record { subframe = p.subframe; word = p.word; low = p.low; high = p.high; overlap = p.overlap }

unfoldable pub parameter_by : Described → List ℕ
parameter_by d =
    d.name
    ∷ d.mnemonic
    ∷ d.identification
    ∷ (bit d.signed + 2 * bit d.identifier)
    ∷ d.text
    ∷ d.first
    ∷ d.count
    ∷ d.value
    ∷ []

-- time, first component, how many components
unfoldable pub sample_by : ℕ → ℕ → ℕ → List ℕ
sample_by time first count = time ∷ first ∷ count ∷ []
