-- How a range of whole numbers reads, and the laws of its order. Assumes nothing.
use Rattle.std.specs.Prelude.{◌≡◌, true, cond, ℤ, Some, None, Option, int_le, refl}
use Rattle.std.proofs.Common.{ap}
use Rattle.interval_arithmetic.specs.Ends.{Above, Below, Within, end_is, fair}
use Rattle.interval_arithmetic.specs.Laws.{OrderLaws, Made}
use Rattle.interval_arithmetic.proofs.Meets.{fair_from, between, made_within}
use Rattle.interval_arithmetic.proofs.Plain.{reads_fair, reads_same}
use Rattle.kinds.specs.declared.whole.WholeSort.{WholeSort}
use Rattle.kinds.specs.declared.whole.WholeSort.TheVariants.{Whole}
use Rattle.kinds.specs.Whole.{inside, range, whole_order}
use Rattle.kinds.specs.Integers.{leq_total, leq_refl, leq_antisym, leq_trans}

pub range_made : (s : WholeSort) (l u : Option ℤ) → fair inside int_le l u ≡ true → Made whole_order s l u (range l u)
range_made Whole l u h =
    let e = reads_same inside int_le leq_total l u h in
    record { made = ap (λ t. cond t (Some (range l u)) None) h; sorts = refl; low = e.0; high = e.1 }

pub order_laws : OrderLaws whole_order
order_laws = record {
  same_is = λ s t h. only s t;
  same_self = λ s. refl;
  sorted = λ s v p. only Whole s;
  total = λ s a b p q h. leq_total a b h;
  reflexive = λ s a p. leq_refl a;
  antisymmetric = λ s a b p q h k. leq_antisym a b h k;
  transitive = λ s a b c p q i h k. leq_trans a b c h k;
  ends = λ r. reads_fair inside int_le leq_total r.low r.high;
  makes = λ s l u h. (range l u, range_made s l u h);
  refuses = λ s l u h. ap (λ t. cond t (Some (range l u)) None) h;
}
  where
    only : (s t : WholeSort) → s ≡ t
    only Whole Whole = refl

-- a range holds the numbers between the ends that it is made of
pub range_within : (l u : Option ℤ) (z : ℤ) → end_is inside l ≡ true → end_is inside u ≡ true → inside z ≡ true → Above whole_order l z → Below whole_order u z → Within whole_order (range l u) z
range_within l u z p q i h k =
    let f : fair inside int_le l u ≡ true = fair_from inside int_le l u p q (between order_laws Whole l u z p q i h k) in
    made_within order_laws Whole l u (range l u) z (range_made Whole l u f) i h k
