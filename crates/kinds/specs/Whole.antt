-- Whole numbers of 64 bits, as a kind. Assumes nothing.
use Rattle.std.specs.Prelude.{◌≡◌, ℕ, suc, ◌^◌, Bool, true, cond, ℤ, pos, ◌+ℤ◌, ◌-ℤ◌, neg_ℤ, Some, None, Option, int_le, nat_lt, unsigned_abs}
use Rattle.std.specs.Int.Signed.{mag}
use Rattle.interval_arithmetic.specs.declared.kind.Arithmetic.{Arithmetic}
use Rattle.interval_arithmetic.specs.declared.kind.Arithmetic.TheVariants.{Plus, Minus}
use Rattle.interval_arithmetic.specs.Model.{Order, Operations}
use Rattle.interval_arithmetic.specs.Ends.{fair, fit, kept, low_end, high_end, meet}
use Rattle.kinds.specs.declared.whole.WholeRange.{WholeRange}
use Rattle.kinds.specs.declared.whole.WholeSort.{WholeSort}
use Rattle.kinds.specs.declared.whole.WholeSort.TheVariants.{Whole}

-- does the number fit 64 bits: is it from -2^63 to 2^63 - 1? (the magnitude of -1 is 0)
abbrev pub inside : ℤ → Bool
inside z = nat_lt (mag z) (2 ^ 63)

-- the number, if it fits
abbrev pub fit64 : ℤ → Option ℤ
fit64 = fit inside

-- a range as the struct keeps it, and its ends as they are read
abbrev pub range : Option ℤ → Option ℤ → WholeRange
range l u = record { low = l; high = u }

abbrev pub lower_of : WholeRange → Option ℤ
lower_of r = low_end int_le (kept inside r.low) (kept inside r.high)

abbrev pub upper_of : WholeRange → Option ℤ
upper_of r = high_end int_le (kept inside r.low) (kept inside r.high)

-- the range with these ends, unless they are crossed
abbrev pub make_of : Option ℤ → Option ℤ → Option WholeRange
make_of l u = cond (fair inside int_le l u) (Some (range l u)) None

abbrev pub whole_order : Order ℤ WholeRange WholeSort
whole_order = record {
  is = λ s. inside;
  sort_of = λ v. Whole;
  same = λ s t. true;
  leq = int_le;
  sort = λ r. Whole;
  lower = lower_of;
  upper = upper_of;
  make = λ s. make_of;
}

-- an end made of an open one, or that does not fit, is open
abbrev pub end_by : (ℤ → ℤ → ℤ) → Option ℤ → Option ℤ → Option ℤ
end_by f None b = None
end_by f (Some a) None = None
end_by f (Some a) (Some b) = fit64 (f a b)

-- the same, where `gives` says what the rule answers
abbrev pub EndBy : (ℤ → ℤ → Option ℤ → Type 0) → Option ℤ → Option ℤ → Option ℤ → Type 0
EndBy gives None b r = r ≡ None
EndBy gives (Some a) None r = r ≡ None
EndBy gives (Some a) (Some b) r = gives a b r

abbrev pub sum_end : Option ℤ → Option ℤ → Option ℤ
sum_end = end_by (λ a b. a +ℤ b)

abbrev pub difference_end : Option ℤ → Option ℤ → Option ℤ
difference_end = end_by (λ a b. a -ℤ b)

abbrev pub negated_end : Option ℤ → Option ℤ
negated_end None = None
negated_end (Some a) = fit64 (neg_ℤ a)

abbrev pub sum : WholeRange → WholeRange → WholeRange
sum l r = range (sum_end (lower_of l) (lower_of r)) (sum_end (upper_of l) (upper_of r))

abbrev pub difference : WholeRange → WholeRange → WholeRange
difference l r = range (difference_end (lower_of l) (upper_of r)) (difference_end (upper_of l) (lower_of r))

abbrev pub negated_range : WholeRange → WholeRange
negated_range r = range (negated_end (upper_of r)) (negated_end (lower_of r))

abbrev pub applied : Arithmetic → ℤ → ℤ → Option ℤ
applied Plus a b = fit64 (a +ℤ b)
applied Minus a b = fit64 (a -ℤ b)

abbrev pub forward_of : Arithmetic → WholeRange → WholeRange → WholeRange
forward_of Plus = sum
forward_of Minus = difference

-- where the left operand can lie, by the result and the right one
abbrev pub left_of : Arithmetic → WholeRange → WholeRange → WholeRange
left_of Plus p r = difference p r
left_of Minus p r = sum p r

-- where the right operand can lie, by the result and the left one
abbrev pub right_of : Arithmetic → WholeRange → WholeRange → WholeRange
right_of Plus p l = difference p l
right_of Minus p l = difference l p

-- what is left of one operand by the result and the other operand
abbrev pub cut_left : Arithmetic → WholeRange → WholeRange → WholeRange → Option WholeRange
cut_left op p l r = meet whole_order (left_of op p r) l

abbrev pub cut_right : Arithmetic → WholeRange → WholeRange → WholeRange → Option WholeRange
cut_right op p l r = meet whole_order (right_of op p l) r

-- what is left of both, of the right one by what is left of the left one
abbrev pub paired : WholeRange → Option WholeRange → Option (WholeRange × WholeRange)
paired l None = None
paired l (Some r) = Some (l, r)

abbrev pub then_right : Arithmetic → WholeRange → WholeRange → Option WholeRange → Option (WholeRange × WholeRange)
then_right op p r None = None
then_right op p r (Some l) = paired l (cut_right op p l r)

abbrev pub backward_of : Arithmetic → WholeRange → WholeRange → WholeRange → Option (WholeRange × WholeRange)
backward_of op p l r = then_right op p r (cut_left op p l r)

-- the number of values, if it is at most 2^53
abbrev pub count_ends : Option ℤ → Option ℤ → Option ℕ
count_ends None u = None
count_ends (Some a) None = None
count_ends (Some a) (Some b) = cond (nat_lt (unsigned_abs (b -ℤ a)) (2 ^ 53)) (Some (suc (unsigned_abs (b -ℤ a)))) None

abbrev pub whole : Operations ℤ WholeRange WholeSort ℤ
whole = record {
  apply = applied;
  negate = λ a. fit64 (neg_ℤ a);
  fits = λ op s t. Some Whole;
  negates = λ s. true;
  compares = λ s. true;
  columns = λ s. true;
  forward = forward_of;
  arithmetic_negate = negated_range;
  backward = backward_of;
  next = λ a. fit64 (a +ℤ pos 1);
  previous = λ a. fit64 (a -ℤ pos 1);
  count = λ r. count_ends (lower_of r) (upper_of r);
  admit = fit64;
}
