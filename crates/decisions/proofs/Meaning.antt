-- A decision says what it means for the numbers within the bounds. Assumes nothing.
use Rattle.std.proofs.Common.{◌≡◌, true, ℤ, is_some, Some, refl, ap, arith}
use lib.Signed.{le_z}
use Rattle.interval_arithmetic.specs.declared.compare.Comparison.{Comparison}
use Rattle.answers.specs.declared.truth.Truth.{Truth}
use Rattle.answers.specs.declared.truth.Truth.TheVariants.{True, False, Unsure}
use Rattle.interval_arithmetic.specs.Ends.{Within}
use Rattle.interval_arithmetic.specs.Laws.{Made}
use Rattle.interval_arithmetic.proofs.Meets.{fair_from}
use Rattle.interval_arithmetic.specs.Compare.{Compared}
use Rattle.kinds.specs.declared.whole.WholeRange.{WholeRange}
use Rattle.kinds.specs.declared.whole.WholeSort.TheVariants.{Whole}
use Rattle.kinds.specs.Whole.{inside, range, whole_order}
use Rattle.kinds.specs.Integers.{leq_refl, leq_antisym}
use Rattle.kinds.specs.WholeEnds.{range_made, range_within}
use Rattle.decisions.specs.Decisions.{decision_of, Decides}

-- the range of one number holds it
one_within : (v : ℤ) → inside v ≡ true → Within whole_order (range (Some v) (Some v)) v
one_within v i = range_within (Some v) (Some v) v i i i (leq_refl v) (leq_refl v)

one_made : (v : ℤ) → inside v ≡ true → Made whole_order Whole (Some v) (Some v) (range (Some v) (Some v))
one_made v i = range_made Whole (Some v) (Some v) (fair_from inside le_z (Some v) (Some v) i i (leq_refl v))

-- and nothing else
one_only : (v y : ℤ) → inside v ≡ true → Within whole_order (range (Some v) (Some v)) y → y ≡ v
one_only v y i w = grind (arith, one_made v i, leq_antisym y v, w.below, w.above)

-- a decision by what is known of the comparison with that range means what is decided
pub decides : (c : Comparison) (b : WholeRange) (v : ℤ) (t : Truth) → inside v ≡ true → Compared whole_order c b (range (Some v) (Some v)) t → Decides c b v (decision_of t)
decides c b v True i h = search (arith, h, one_within)
decides c b v False i h = search (arith, h, one_within)
decides c b v Unsure i h = λ bounded.
    let m = one_made v i in
    let some = h refl bounded (ap is_some m.low, ap is_some m.high) in
    let p = some.0 in
    let q = some.1 in
    let one = one_only v p.right i p.right_held in
    let other = one_only v q.right i q.right_held in
    ((p.left, p.left_held, rw one at p.relates), (q.left, q.left_held, rw other at q.relates))
