-- Stamps, spans and steps of time, as a kind: whole numbers of nanoseconds, each of a sort. Assumes nothing.
use Rattle.std.specs.Prelude.{Bool, true, false, cond, ◌&&◌, ℤ, pos, negsuc, is_some, Some, None, Option, ◌==◌, int_le}
use Rattle.std.specs.Option.{option_map, unwrap_or, option_zip}
use Rattle.interval_arithmetic.specs.declared.kind.Arithmetic.{Arithmetic}
use Rattle.interval_arithmetic.specs.declared.kind.Arithmetic.TheVariants.{Plus, Minus}
use Rattle.interval_arithmetic.specs.Model.{Order, Operations}
use Rattle.interval_arithmetic.specs.Ends.{fair}
use Rattle.kinds.specs.declared.whole.WholeRange.{WholeRange}
use Rattle.kinds.specs.Whole.{inside, fit64, range, lower_of, upper_of, cut_left, cut_right, whole}
use Rattle.time.specs.declared.TimeSort.{TimeSort}
use Rattle.time.specs.declared.TimeSort.TheVariants.{Stamp, Span, Step}
use Rattle.time.specs.declared.Time.{Time}
use Rattle.time.specs.declared.TimeRange.{TimeRange}
use Rattle.time.specs.declared.TimeLiteral.{TimeLiteral}
use Rattle.time.specs.declared.TimeLiteral.TheVariants as literal

abbrev pub same_sort : TimeSort → TimeSort → Bool
same_sort Stamp Stamp = true
same_sort Stamp Span = false
same_sort Stamp Step = false
same_sort Span Stamp = false
same_sort Span Span = true
same_sort Span Step = false
same_sort Step Stamp = false
same_sort Step Span = false
same_sort Step Step = true

-- the value, and the range, of a sort with these nanoseconds
abbrev pub of_sort : TimeSort → ℤ → Time
of_sort s n = record { sort = s; nanoseconds = n }

abbrev pub range_of : TimeSort → WholeRange → TimeRange
range_of s r = record { sort = s; nanoseconds = r }

-- an end's nanoseconds
abbrev pub number : Option Time → Option ℤ
number e = option_map (λ v. v.nanoseconds) e

abbrev pub is_time : TimeSort → Time → Bool
is_time s v = same_sort s v.sort && inside v.nanoseconds

-- values of one sort are ordered by their nanoseconds
abbrev pub at_most : Time → Time → Bool
at_most a b = int_le a.nanoseconds b.nanoseconds

-- the range with these ends, unless one is of another sort or they are crossed
abbrev pub make_of : TimeSort → Option Time → Option Time → Option TimeRange
make_of s l u = cond (fair (is_time s) at_most l u) (Some (range_of s (range (number l) (number u)))) None

abbrev pub time_order : Order Time TimeRange TimeSort
time_order = record {
  is = is_time;
  sort_of = λ v. v.sort;
  same = same_sort;
  leq = at_most;
  sort = λ r. r.sort;
  lower = λ r. option_map (of_sort r.sort) (lower_of r.nanoseconds);
  upper = λ r. option_map (of_sort r.sort) (upper_of r.nanoseconds);
  make = make_of;
}

-- the sort that results, a step counting as a span beside a stamp
abbrev pub fits_of : Arithmetic → TimeSort → TimeSort → Option TimeSort
fits_of Plus Stamp Stamp = None
fits_of Plus Stamp Span = Some Stamp
fits_of Plus Stamp Step = Some Stamp
fits_of Plus Span Stamp = Some Stamp
fits_of Plus Span Span = Some Span
fits_of Plus Span Step = None
fits_of Plus Step Stamp = Some Stamp
fits_of Plus Step Span = None
fits_of Plus Step Step = None
fits_of Minus Stamp Stamp = Some Span
fits_of Minus Stamp Span = Some Stamp
fits_of Minus Stamp Step = Some Stamp
fits_of Minus Span Stamp = None
fits_of Minus Span Span = Some Span
fits_of Minus Span Step = None
fits_of Minus Step Stamp = None
fits_of Minus Step Span = None
fits_of Minus Step Step = None

-- only spans are negated; steps are neither compared nor columns
abbrev pub is_span : TimeSort → Bool
is_span Stamp = false
is_span Span = true
is_span Step = false

abbrev pub is_no_step : TimeSort → Bool
is_no_step Stamp = true
is_no_step Span = true
is_no_step Step = false

-- a value of the sort that results
abbrev pub resulting : Option TimeSort → Option ℤ → Option Time
resulting None n = None
resulting (Some s) n = option_map (of_sort s) n

abbrev pub applied : Arithmetic → Time → Time → Option Time
applied op a b = resulting (fits_of op a.sort b.sort) (whole.apply op a.nanoseconds b.nanoseconds)

abbrev pub negated : Time → Option Time
negated a = cond (is_span a.sort) (option_map (of_sort a.sort) (whole.negate a.nanoseconds)) None

abbrev pub forward_of : Arithmetic → TimeRange → TimeRange → TimeRange
forward_of op l r = range_of (unwrap_or (fits_of op l.sort r.sort) l.sort) (whole.forward op l.nanoseconds r.nanoseconds)

-- does the operation on these two sorts result in that one?
abbrev pub is_sort : Option TimeSort → TimeSort → Bool
is_sort None s = false
is_sort (Some r) s = same_sort r s

abbrev pub results_in : Arithmetic → TimeSort → TimeSort → TimeSort → Bool
results_in op s t u = is_sort (fits_of op s t) u

abbrev pub bounded : WholeRange → Bool
bounded r = is_some (lower_of r) && is_some (upper_of r)

-- a step with an open end stays, and only the stamp is cut; a step at the right is cut by the stamp as it was
abbrev pub at_left : Arithmetic → WholeRange → WholeRange → WholeRange → Option (WholeRange × WholeRange)
at_left op p l r = cond (bounded l) (whole.backward op p l r) (option_zip (Some l) (cut_right op p l r))

abbrev pub at_right : Arithmetic → WholeRange → WholeRange → WholeRange → Option (WholeRange × WholeRange)
at_right op p l r = cond (bounded r) (option_zip (cut_left op p l r) (cut_right op p l r)) (option_zip (cut_left op p l r) (Some r))

-- what is left of both children's nanoseconds, by their sorts
abbrev pub arm : TimeSort → TimeSort → Arithmetic → WholeRange → WholeRange → WholeRange → Option (WholeRange × WholeRange)
arm Stamp Stamp = whole.backward
arm Stamp Span = whole.backward
arm Stamp Step = at_right
arm Span Stamp = whole.backward
arm Span Span = whole.backward
arm Span Step = whole.backward
arm Step Stamp = at_left
arm Step Span = whole.backward
arm Step Step = whole.backward

abbrev pub of_sorts : TimeSort → TimeSort → WholeRange × WholeRange → TimeRange × TimeRange
of_sorts s t p = (range_of s p.0, range_of t p.1)

-- none where the parent has another sort than results
abbrev pub backward_of : Arithmetic → TimeRange → TimeRange → TimeRange → Option (TimeRange × TimeRange)
backward_of op p l r =
    cond (results_in op l.sort r.sort p.sort)
    (option_map (of_sorts l.sort r.sort) (arm l.sort r.sort op p.nanoseconds l.nanoseconds r.nanoseconds))
    None

abbrev pub is_zero : ℤ → Bool
is_zero (pos n) = n == 0
is_zero (negsuc n) = false

-- a step is admitted only with zero months and days
abbrev pub admitted : TimeLiteral → Option Time
admitted (literal.Stamp n) = option_map (of_sort Stamp) (fit64 n)
admitted (literal.Span n) = option_map (of_sort Span) (fit64 n)
admitted (literal.Step m d n) = cond (is_zero m && is_zero d) (option_map (of_sort Step) (fit64 n)) None

abbrev pub time : Operations Time TimeRange TimeSort TimeLiteral
time = record {
  apply = applied;
  negate = negated;
  fits = fits_of;
  negates = is_span;
  compares = is_no_step;
  columns = is_no_step;
  forward = forward_of;
  arithmetic_negate = λ r. range_of r.sort (whole.arithmetic_negate r.nanoseconds);
  backward = backward_of;
  next = λ v. option_map (of_sort v.sort) (whole.next v.nanoseconds);
  previous = λ v. option_map (of_sort v.sort) (whole.previous v.nanoseconds);
  count = λ r. whole.count r.nanoseconds;
  admit = admitted;
}
