-- Times as nanoseconds of a sort: how a range of them reads, and the laws of their order. Assumes nothing.
use Rattle.std.specs.Prelude.{◌≡◌, true, cond, ℤ, Some, None, Option, int_le, refl}
use Rattle.std.proofs.Common.{sym, ◌∙◌, ap, subst}
use Rattle.std.specs.Option.{option_map}
use Rattle.std.proofs.lemmas.Bool.{and_parts, and_from, false≢true}
use Rattle.interval_arithmetic.specs.Ends.{Within, One, Inside, end_is, uncrossed, fair}
use Rattle.interval_arithmetic.specs.Laws.{OrderLaws, Made}
use Rattle.interval_arithmetic.proofs.Meets.{fair_parts, fair_from}
use Rattle.interval_arithmetic.proofs.Plain.{open_map, open_unmap}
use Rattle.std.proofs.lemmas.Option.{none-some, same_Some}
use Rattle.kinds.specs.declared.whole.WholeRange.{WholeRange}
use Rattle.kinds.specs.declared.whole.WholeSort.TheVariants.{Whole}
use Rattle.kinds.specs.Whole.{inside, range, lower_of, upper_of, whole_order}
use Rattle.kinds.specs.Integers.{leq_total, leq_refl, leq_antisym, leq_trans}
use Rattle.kinds.specs.WholeEnds as W
use Rattle.time.specs.declared.TimeSort.{TimeSort}
use Rattle.time.specs.declared.TimeSort.TheVariants.{Stamp, Span, Step}
use Rattle.time.specs.declared.Time.{Time}
use Rattle.time.specs.declared.TimeRange.{TimeRange}
use Rattle.time.specs.Time.{same_sort, of_sort, range_of, number, is_time, at_most, time_order}

same_is : (s t : TimeSort) → same_sort s t ≡ true → s ≡ t
same_is Stamp Stamp h = refl
same_is Stamp Span h = absurd (false≢true h)
same_is Stamp Step h = absurd (false≢true h)
same_is Span Stamp h = absurd (false≢true h)
same_is Span Span h = refl
same_is Span Step h = absurd (false≢true h)
same_is Step Stamp h = absurd (false≢true h)
same_is Step Span h = absurd (false≢true h)
same_is Step Step h = refl

pub same_self : (s : TimeSort) → same_sort s s ≡ true
same_self Stamp = refl
same_self Span = refl
same_self Step = refl

-- a value is of its sort, with nanoseconds that fit
pub is_parts : (s : TimeSort) (v : Time) → is_time s v ≡ true → (s ≡ v.sort) × (inside v.nanoseconds ≡ true)
is_parts s v h = let p = and_parts (same_sort s v.sort) (inside v.nanoseconds) h in (same_is s v.sort p.0, p.1)

pub is_from : (s : TimeSort) (v : Time) → s ≡ v.sort → inside v.nanoseconds ≡ true → is_time s v ≡ true
is_from s v e i = and_from (same_sort s v.sort) (inside v.nanoseconds) (subst (λ t. same_sort s t ≡ true) e (same_self s)) i

-- a value is its sort and its nanoseconds
pub value_is : (s : TimeSort) (n : ℤ) (v : Time) → s ≡ v.sort → n ≡ v.nanoseconds → of_sort s n ≡ v
value_is s n v e f = ap (λ t. of_sort t n) e ∙ ap (λ m. of_sort v.sort m) f

-- a value came out of nanoseconds
pub sort_parts : (s : TimeSort) (n : Option ℤ) (v : Time) → option_map (of_sort s) n ≡ Some v → (s ≡ v.sort) × (n ≡ Some v.nanoseconds)
sort_parts s None v h = absurd (none-some _ h)
sort_parts s (Some n) v h = let e : of_sort s n ≡ v = same_Some _ _ h in (ap (λ x. x.sort) e, ap (λ x. Some x.nanoseconds) e)

pub sort_from : (s : TimeSort) (n : Option ℤ) (v : Time) → s ≡ v.sort → n ≡ Some v.nanoseconds → option_map (of_sort s) n ≡ Some v
sort_from s n v e f = ◌∙◌ {b = Some (of_sort s v.nanoseconds)} (ap (option_map (of_sort s)) f) (ap Some (value_is s v.nanoseconds v e refl))

-- ---- ends

end_up : (s : TimeSort) (e : Option ℤ) → end_is inside e ≡ true → end_is (is_time s) (option_map (of_sort s) e) ≡ true
end_up s None h = refl
end_up s (Some n) h = is_from s (of_sort s n) refl h

end_down : (s : TimeSort) (e : Option Time) → end_is (is_time s) e ≡ true → (end_is inside (number e) ≡ true) × (option_map (of_sort s) (number e) ≡ e)
end_down s None h = (refl, refl)
end_down s (Some v) h = let p = is_parts s v h in (p.1, ap Some (value_is s v.nanoseconds v p.0 refl))

uncrossed_up : (s : TimeSort) (l u : Option ℤ) → uncrossed int_le l u ≡ true → uncrossed at_most (option_map (of_sort s) l) (option_map (of_sort s) u) ≡ true
uncrossed_up s None u h = refl
uncrossed_up s (Some a) None h = refl
uncrossed_up s (Some a) (Some b) h = h

uncrossed_down : (l u : Option Time) → uncrossed at_most l u ≡ true → uncrossed int_le (number l) (number u) ≡ true
uncrossed_down None u h = refl
uncrossed_down (Some a) None h = refl
uncrossed_down (Some a) (Some b) h = h

fair_down : (s : TimeSort) (l u : Option Time) → fair (is_time s) at_most l u ≡ true → fair inside int_le (number l) (number u) ≡ true
fair_down s l u h =
    let p = fair_parts (is_time s) at_most l u h in
    fair_from inside int_le (number l) (number u) (end_down s l p.0).0 (end_down s u p.1).0 (uncrossed_down l u p.2)

range_made : (s : TimeSort) (l u : Option Time) → fair (is_time s) at_most l u ≡ true → Made time_order s l u (range_of s (range (number l) (number u)))
range_made s l u h =
    let p = fair_parts (is_time s) at_most l u h in
    let m = W.range_made Whole (number l) (number u) (fair_down s l u h) in
    record {
      made = ap (λ t. cond t (Some (range_of s (range (number l) (number u)))) None) h;
      sorts = refl;
      low = ap (option_map (of_sort s)) m.low ∙ (end_down s l p.0).1;
      high = ap (option_map (of_sort s)) m.high ∙ (end_down s u p.1).1;
    }

pub order_laws : OrderLaws time_order
order_laws = record {
  same_is = same_is;
  same_self = same_self;
  sorted = λ s v p. sym (is_parts s v p).0;
  total = λ s a b p q h. leq_total a.nanoseconds b.nanoseconds h;
  reflexive = λ s a p. leq_refl a.nanoseconds;
  antisymmetric = λ s a b p q h k. value_is a.sort a.nanoseconds b (sym (is_parts s a p).0 ∙ (is_parts s b q).0) (leq_antisym a.nanoseconds b.nanoseconds h k);
  transitive = λ s a b c p q i h k. leq_trans a.nanoseconds b.nanoseconds c.nanoseconds h k;
  ends = ends;
  makes = λ s l u h. (range_of s (range (number l) (number u)), range_made s l u h);
  refuses = λ s l u h. ap (λ t. cond t (Some (range_of s (range (number l) (number u)))) None) h;
}
  where
    ends : (r : TimeRange) → fair (is_time r.sort) at_most (option_map (of_sort r.sort) (lower_of r.nanoseconds)) (option_map (of_sort r.sort) (upper_of r.nanoseconds)) ≡ true
    ends r =
        let l = lower_of r.nanoseconds in
        let u = upper_of r.nanoseconds in
        let p = fair_parts inside int_le l u ((W.order_laws).ends r.nanoseconds) in
        fair_from (is_time r.sort) at_most (option_map (of_sort r.sort) l) (option_map (of_sort r.sort) u) (end_up r.sort l p.0) (end_up r.sort u p.1) (uncrossed_up r.sort l u p.2)

-- ---- a range of a sort holds the values of the sort whose nanoseconds its range of nanoseconds holds

pub within_up : (r : TimeRange) (v : Time) → r.sort ≡ v.sort → Within whole_order r.nanoseconds v.nanoseconds → Within time_order r v
within_up r v e w = record {
  of = is_from r.sort v e w.of;
  above = open_map (of_sort r.sort) (λ a. at_most a v ≡ true) (lower_of r.nanoseconds) w.above;
  below = open_map (of_sort r.sort) (λ b. at_most v b ≡ true) (upper_of r.nanoseconds) w.below;
}

pub within_down : (r : TimeRange) (v : Time) → Within time_order r v → (r.sort ≡ v.sort) × Within whole_order r.nanoseconds v.nanoseconds
within_down r v w =
    let p = is_parts r.sort v w.of in
    (p.0, record { of = p.1; above = open_unmap (of_sort r.sort) (λ a. at_most a v ≡ true) (lower_of r.nanoseconds) w.above; below = open_unmap (of_sort r.sort) (λ b. at_most v b ≡ true) (upper_of r.nanoseconds) w.below })

pub one_up : (r : TimeRange) (v : Time) → r.sort ≡ v.sort → One whole_order r.nanoseconds v.nanoseconds → One time_order r v
one_up r v e w = record { from = sort_from r.sort (lower_of r.nanoseconds) v e w.from; to = sort_from r.sort (upper_of r.nanoseconds) v e w.to }

pub one_down : (r : TimeRange) (v : Time) → One time_order r v → (r.sort ≡ v.sort) × One whole_order r.nanoseconds v.nanoseconds
one_down r v w =
    let p = sort_parts r.sort (lower_of r.nanoseconds) v w.from in
    (p.0, record { from = p.1; to = (sort_parts r.sort (upper_of r.nanoseconds) v w.to).1 })

pub inside_up : (s : TimeSort) (a b : WholeRange) → Inside whole_order a b → Inside time_order (range_of s a) (range_of s b)
inside_up s a b i = record { sorts = refl; holds = λ v w. let p = within_down (range_of s a) v w in within_up (range_of s b) v p.0 (i.holds v.nanoseconds p.1) }
