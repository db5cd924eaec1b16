-- What is decided of a segment, what that means for the numbers within its bounds, and the tally that is printed. Assumes nothing.
use Rattle.std.specs.Prelude.{ℕ, ◌+◌, ◌-◌, ◌^◌, min, List, ◌++◌, ℤ, Some, codes, decimal}
use Rattle.interval_arithmetic.specs.declared.compare.Comparison.{Comparison}
use Rattle.answers.specs.declared.truth.Truth.{Truth}
use Rattle.answers.specs.declared.truth.Truth.TheVariants.{True, False, Unsure}
use Rattle.interval_arithmetic.specs.Ends.{Within}
use Rattle.interval_arithmetic.specs.Compare.{Bounded, Compares, compare_of}
use Rattle.kinds.specs.declared.whole.WholeRange.{WholeRange}
use Rattle.kinds.specs.Whole.{range, whole_order}
use Rattle.decisions.specs.declared.Decision.{Decision}
use Rattle.decisions.specs.declared.Decision.TheVariants.{Skip, Read, Whole}
use Rattle.decisions.specs.declared.Tally.{Tally}

abbrev pub decision_of : Truth → Decision
decision_of True = Whole
decision_of False = Skip
decision_of Unsure = Read

-- by what is known of the comparison of the bounds with the range of one number
abbrev pub decide_of : Comparison → WholeRange → ℤ → Decision
decide_of c b v = decision_of (compare_of whole_order c b (range (Some v) (Some v)))

-- Skip only if no number within the bounds compares so with v, Whole only if every one does; Read between ends that are numbers only if some do and some do not
abbrev pub Decides : Comparison → WholeRange → ℤ → Decision → Type 0
Decides c b v Skip = (x : ℤ) → Within whole_order b x → Compares whole_order c x v → ⊥
Decides c b v Read = Bounded whole_order b → ((x : ℤ) × Within whole_order b x × Compares whole_order c x v) × ((x : ℤ) × Within whole_order b x × (Compares whole_order c x v → ⊥))
Decides c b v Whole = (x : ℤ) → Within whole_order b x → Compares whole_order c x v

-- the word that is printed
abbrev pub word_of : Decision → List ℕ
word_of Skip = codes "skip"
word_of Read = codes "read"
word_of Whole = codes "whole"

-- a sum of 64 bits that stays at the greatest
abbrev pub plus : ℕ → ℕ → ℕ
plus m n = min (m + n) (2 ^ 64 - 1)

-- the tally with one decision more
abbrev pub counted : Tally → Decision → Tally
counted t Skip = record { skipped = plus t.skipped 1; to_read = t.to_read; whole = t.whole }
counted t Read = record { skipped = t.skipped; to_read = plus t.to_read 1; whole = t.whole }
counted t Whole = record { skipped = t.skipped; to_read = t.to_read; whole = plus t.whole 1 }

abbrev pub total_of : Tally → ℕ
total_of t = plus (plus t.skipped t.to_read) t.whole

-- the line that is printed
abbrev pub tally_text : Tally → List ℕ
tally_text t =
    decimal (total_of t) ++ (codes " segments: " ++ (decimal t.skipped ++ (codes " skipped, "
    ++ (decimal t.to_read ++ (codes " to read, " ++ (decimal t.whole ++ codes " match whole"))))))
