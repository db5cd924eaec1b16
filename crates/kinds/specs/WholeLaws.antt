-- The laws of whole numbers as a kind. Assumes nothing.
use Rattle.std.specs.Prelude.{IfSome, ◌≡◌, ℕ, suc, ◌^◌, ◌<◌, ◌≤◌, Bool, true, false, cond, ℤ, pos, ◌+ℤ◌, ◌-ℤ◌, neg_ℤ, is_some, Some, None, Option, int_le, nat_lt, unsigned_abs, refl}
use Rattle.std.proofs.Common.{sym, ◌∙◌, ap, subst, inl, inr, arith}
use Rattle.std.proofs.lemmas.Bool.{ltb-true, ltb-false}
use Rattle.interval_arithmetic.specs.declared.kind.Arithmetic.{Arithmetic}
use Rattle.interval_arithmetic.specs.declared.kind.Arithmetic.TheVariants.{Plus, Minus}
use Rattle.interval_arithmetic.specs.Ends.{Above, Below, Within, One, Inside, end_is, meet}
use Rattle.interval_arithmetic.specs.Laws.{Laws, Next, Previous, Numbered, Counted}
use Rattle.interval_arithmetic.specs.Sound.{of_two, Yields}
use Rattle.interval_arithmetic.proofs.Pairs.{Keeps, PairInside, covers_one, covers_two, narrows_two}
use Rattle.interval_arithmetic.proofs.Meets.{fair_from, lower_is, upper_is, meet_keeps, meet_right, ends_ordered}
use Rattle.kinds.specs.declared.whole.WholeRange.{WholeRange}
use Rattle.kinds.specs.declared.whole.WholeSort.{WholeSort}
use Rattle.kinds.specs.declared.whole.WholeSort.TheVariants.{Whole}
use Rattle.kinds.specs.Whole.{inside, fit64, range, lower_of, upper_of, whole_order, end_by, sum_end, difference_end, negated_end, sum, difference, negated_range, applied, forward_of, left_of, right_of, paired, then_right, backward_of, count_ends, whole}
use Rattle.kinds.specs.Integers as Z
use Rattle.interval_arithmetic.proofs.Plain.{fit_was, fit_is, fit_end, open_fit}
use Rattle.kinds.specs.WholeEnds.{range_made, range_within, order_laws}

-- ---- forward

end_by_is : (f : ℤ → ℤ → ℤ) (a b : Option ℤ) → end_is inside (end_by f a b) ≡ true
end_by_is f None b = refl
end_by_is f (Some a) None = refl
end_by_is f (Some a) (Some b) = fit_end inside (f a b)

negated_end_is : (a : Option ℤ) → end_is inside (negated_end a) ≡ true
negated_end_is None = refl
negated_end_is (Some a) = fit_end inside (neg_ℤ a)

-- an end made of two keeps what f keeps of numbers
end_by_open : (f : ℤ → ℤ → ℤ) (p q r : ℤ → Type 0) → ((a b : ℤ) → p a → q b → r (f a b)) → (a b : Option ℤ) → IfSome a p → IfSome b q → IfSome (end_by f a b) r
end_by_open f p q r keeps None b h k = tt
end_by_open f p q r keeps (Some a) None h k = tt
end_by_open f p q r keeps (Some a) (Some b) h k = open_fit inside r (f a b) (keeps a b h k)

negated_open : (p r : ℤ → Type 0) → ((a : ℤ) → p a → r (neg_ℤ a)) → (a : Option ℤ) → IfSome a p → IfSome (negated_end a) r
negated_open p r keeps None h = tt
negated_open p r keeps (Some a) h = open_fit inside r (neg_ℤ a) (keeps a h)

sum_above : (a b : Option ℤ) (x y : ℤ) → Above whole_order a x → Above whole_order b y → Above whole_order (sum_end a b) (x +ℤ y)
sum_above a b x y = end_by_open (λ a b. a +ℤ b) _ _ (λ c. int_le c (x +ℤ y) ≡ true) (λ a b. Z.sum_mono a b x y) a b

sum_below : (a b : Option ℤ) (x y : ℤ) → Below whole_order a x → Below whole_order b y → Below whole_order (sum_end a b) (x +ℤ y)
sum_below a b x y = end_by_open (λ a b. a +ℤ b) _ _ (λ c. int_le (x +ℤ y) c ≡ true) (λ a b. Z.sum_mono x y a b) a b

difference_above : (a b : Option ℤ) (x y : ℤ) → Above whole_order a x → Below whole_order b y → Above whole_order (difference_end a b) (x -ℤ y)
difference_above a b x y = end_by_open (λ a b. a -ℤ b) _ _ (λ c. int_le c (x -ℤ y) ≡ true) (λ a b. Z.difference_mono a b x y) a b

difference_below : (a b : Option ℤ) (x y : ℤ) → Below whole_order a x → Above whole_order b y → Below whole_order (difference_end a b) (x -ℤ y)
difference_below a b x y = end_by_open (λ a b. a -ℤ b) _ _ (λ c. int_le (x -ℤ y) c ≡ true) (λ a b. Z.difference_mono x y a b) a b

negated_above : (b : Option ℤ) (x : ℤ) → Below whole_order b x → Above whole_order (negated_end b) (neg_ℤ x)
negated_above b x = negated_open _ (λ c. int_le c (neg_ℤ x) ≡ true) (λ b. Z.negated_mono x b) b

negated_below : (a : Option ℤ) (x : ℤ) → Above whole_order a x → Below whole_order (negated_end a) (neg_ℤ x)
negated_below a x = negated_open _ (λ c. int_le (neg_ℤ x) c ≡ true) (λ a. Z.negated_mono a x) a

sum_holds : (l r : WholeRange) (x y : ℤ) → Within whole_order l x → Within whole_order r y → inside (x +ℤ y) ≡ true → Within whole_order (sum l r) (x +ℤ y)
sum_holds l r x y p q i =
    range_within _ _ (x +ℤ y) (end_by_is (λ a b. a +ℤ b) (lower_of l) (lower_of r)) (end_by_is (λ a b. a +ℤ b) (upper_of l) (upper_of r)) i
    (sum_above (lower_of l) (lower_of r) x y p.above q.above)
    (sum_below (upper_of l) (upper_of r) x y p.below q.below)

difference_holds : (l r : WholeRange) (x y : ℤ) → Within whole_order l x → Within whole_order r y → inside (x -ℤ y) ≡ true → Within whole_order (difference l r) (x -ℤ y)
difference_holds l r x y p q i =
    range_within _ _ (x -ℤ y) (end_by_is (λ a b. a -ℤ b) (lower_of l) (upper_of r)) (end_by_is (λ a b. a -ℤ b) (upper_of l) (lower_of r)) i
    (difference_above (lower_of l) (upper_of r) x y p.above q.below)
    (difference_below (upper_of l) (lower_of r) x y p.below q.above)

forward_holds : (op : Arithmetic) (l r : WholeRange) (x y z : ℤ) → Within whole_order l x → Within whole_order r y → applied op x y ≡ Some z → Within whole_order (forward_of op l r) z
forward_holds Plus l r x y z p q e = let f = fit_was inside (x +ℤ y) z e in subst (λ v. Within whole_order (sum l r) v) f.1 (sum_holds l r x y p q f.0)
forward_holds Minus l r x y z p q e = let f = fit_was inside (x -ℤ y) z e in subst (λ v. Within whole_order (difference l r) v) f.1 (difference_holds l r x y p q f.0)

negate_holds : (r : WholeRange) (x y : ℤ) → Within whole_order r x → fit64 (neg_ℤ x) ≡ Some y → Within whole_order (negated_range r) y
negate_holds r x y p e =
    let f = fit_was inside (neg_ℤ x) y e in
    subst (λ v. Within whole_order (negated_range r) v) f.1
    (range_within _ _ (neg_ℤ x) (negated_end_is (upper_of r)) (negated_end_is (lower_of r)) f.0
    (negated_above (upper_of r) x p.below) (negated_below (lower_of r) x p.above))

-- both ends are the value z, so the range is that value
one_from : (l u : Option ℤ) (z : ℤ) → inside z ≡ true → l ≡ Some z → u ≡ Some z → One whole_order (range l u) z
one_from l u z i e f =
    let m = range_made Whole (Some z) (Some z) (fair_from inside int_le (Some z) (Some z) i i (Z.leq_refl z)) in
    let o : One whole_order (range (Some z) (Some z)) z = record { from = m.low; to = m.high } in
    subst (λ x. One whole_order (range x u) z) (sym e) (subst (λ x. One whole_order (range (Some z) x) z) (sym f) o)

-- the number that came out fits
result_is : (z c : ℤ) → fit64 z ≡ Some c → inside c ≡ true
result_is z c e = let f = fit_was inside z c e in subst (λ v. inside v ≡ true) f.1 f.0

forward_one : (op : Arithmetic) (l r : WholeRange) (x y z : ℤ) → One whole_order l x → One whole_order r y → applied op x y ≡ Some z → One whole_order (forward_of op l r) z
forward_one Plus l r x y z p q e = one_from _ _ z (result_is (x +ℤ y) z e) (rw (p.from, q.from) e) (rw (p.to, q.to) e)
forward_one Minus l r x y z p q e = one_from _ _ z (result_is (x -ℤ y) z e) (rw (p.from, q.to) e) (rw (p.to, q.from) e)

negate_one : (r : WholeRange) (x y : ℤ) → One whole_order r x → fit64 (neg_ℤ x) ≡ Some y → One whole_order (negated_range r) y
negate_one r x y p e = one_from _ _ y (result_is (neg_ℤ x) y e) (rw p.to e) (rw p.from e)

-- ---- backward

pub left_holds : (op : Arithmetic) (p r : WholeRange) (x y z : ℤ) → inside x ≡ true → Within whole_order p z → Within whole_order r y → applied op x y ≡ Some z → Within whole_order (left_of op p r) x
left_holds Plus p r x y z i wp wr e =
    let back : z -ℤ y ≡ x = ap (λ v. v -ℤ y) (sym (fit_was inside (x +ℤ y) z e).1) ∙ Z.sum_undone x y in
    forward_holds Minus p r z y x wp wr (ap fit64 back ∙ fit_is inside x i)
left_holds Minus p r x y z i wp wr e =
    let back : z +ℤ y ≡ x = ap (λ v. v +ℤ y) (sym (fit_was inside (x -ℤ y) z e).1) ∙ Z.difference_undone x y in
    forward_holds Plus p r z y x wp wr (ap fit64 back ∙ fit_is inside x i)

pub right_holds : (op : Arithmetic) (p l : WholeRange) (x y z : ℤ) → inside y ≡ true → Within whole_order p z → Within whole_order l x → applied op x y ≡ Some z → Within whole_order (right_of op p l) y
right_holds Plus p l x y z i wp wl e =
    let back : z -ℤ x ≡ y = ap (λ v. v -ℤ x) (sym (fit_was inside (x +ℤ y) z e).1) ∙ Z.sum_undone_left x y in
    forward_holds Minus p l z x y wp wl (ap fit64 back ∙ fit_is inside y i)
right_holds Minus p l x y z i wp wl e =
    let back : x -ℤ z ≡ y = ap (λ v. x -ℤ v) (sym (fit_was inside (x -ℤ y) z e).1) ∙ Z.difference_undone_left x y in
    forward_holds Minus l p x z y wl wp (ap fit64 back ∙ fit_is inside y i)

backward_keeps : (op : Arithmetic) (p l r : WholeRange) (x y z : ℤ) → Within whole_order l x → Within whole_order r y → applied op x y ≡ Some z → Within whole_order p z → Keeps (Within whole_order) (Inside whole_order) (backward_of op p l r) x y
backward_keeps op p l r x y z wl wr e wp =
    let first = meet_keeps order_laws (left_of op p r) l x (left_holds op p r x y z wl.of wp wr e) wl in
    let second = meet_keeps order_laws (right_of op p first.0) r y (right_holds op p first.0 x y z wr.of wp first.2 e) wr in
    subst (λ m. Keeps (Within whole_order) (Inside whole_order) (then_right op p r m) x y) (sym first.1)
    (subst (λ m. Keeps (Within whole_order) (Inside whole_order) (paired first.0 m) x y) (sym second.1) (first.2, second.2))

backward_inside : (op : Arithmetic) (p l r : WholeRange) → PairInside (Within whole_order) (Inside whole_order) (backward_of op p l r) l r
backward_inside op p l r = by_left (meet whole_order (left_of op p r) l) refl
  where
    by_right : (l' : WholeRange) → Inside whole_order l' l → (m : Option WholeRange) → meet whole_order (right_of op p l') r ≡ m → PairInside (Within whole_order) (Inside whole_order) (paired l' m) l r
    by_right l' i None e = tt
    by_right l' i (Some r') e = (i, meet_right order_laws (right_of op p l') r r' e)

    by_left : (m : Option WholeRange) → meet whole_order (left_of op p r) l ≡ m → PairInside (Within whole_order) (Inside whole_order) (then_right op p r m) l r
    by_left None e = tt
    by_left (Some l') e = by_right l' (meet_right order_laws (left_of op p r) l l' e) (meet whole_order (right_of op p l') r) refl

-- ---- the other questions

next_pick : (s : WholeSort) (a : ℤ) (t : Bool) → inside (a +ℤ pos 1) ≡ t → inside a ≡ true → Next whole_order s a (cond t (Some (a +ℤ pos 1)) None)
next_pick s a true e i = (e, Z.next_greater a, λ b p h. Z.next_least a b h)
next_pick s a false e i = λ b p. Z.next_none a b i e p

previous_pick : (s : WholeSort) (a : ℤ) (t : Bool) → inside (a -ℤ pos 1) ≡ t → inside a ≡ true → Previous whole_order s a (cond t (Some (a -ℤ pos 1)) None)
previous_pick s a true e i = (e, Z.previous_smaller a, λ b p h. Z.previous_greatest a b h)
previous_pick s a false e i = λ b p. Z.previous_none a b i e p

holds : (r : WholeRange) (a b : ℤ) → lower_of r ≡ Some a → upper_of r ≡ Some b → Numbered whole_order r (suc (unsigned_abs (b -ℤ a)))
holds r a b el eu =
    let ia : inside a ≡ true = subst (λ e. end_is inside e ≡ true) el (lower_is order_laws r) in
    let ib : inside b ≡ true = subst (λ e. end_is inside e ≡ true) eu (upper_is order_laws r) in
    let ab : int_le a b ≡ true = ends_ordered order_laws r a b el eu in
    record {
      at = λ k. a +ℤ pos k;
      held = λ k h.
          let low = Z.counted_above a k in
          let high = Z.counted_below a b k ab h in
          record {
            of = Z.inside_between a (a +ℤ pos k) b ia ib low high;
            above = subst (λ e. Above whole_order e (a +ℤ pos k)) (sym el) low;
            below = subst (λ e. Below whole_order e (a +ℤ pos k)) (sym eu) high;
          };
      rises = λ j k h i. Z.counted_rises a j k h;
      all = λ v w.
          let low : int_le a v ≡ true = subst (λ e. Above whole_order e v) el w.above in
          let high : int_le v b ≡ true = subst (λ e. Below whole_order e v) eu w.below in
          (unsigned_abs (v -ℤ a), Z.counted_short a b v low high, Z.counted_there a v low);
    }

counted : (r : WholeRange) (l u : Option ℤ) → lower_of r ≡ l → upper_of r ≡ u → Counted whole_order r (count_ends l u)
counted r None u el eu = inl el
counted r (Some a) None el eu = inr (inl eu)
counted r (Some a) (Some b) el eu = by_size (nat_lt n (2 ^ 53)) refl
  where
    n : ℕ
    n = unsigned_abs (b -ℤ a)

    by_size : (t : Bool) → nat_lt n (2 ^ 53) ≡ t → Counted whole_order r (cond t (Some (suc n)) None)
    by_size true e = (holds r a b el eu, let h : n < 2 ^ 53 = ltb-true n (2 ^ 53) e in omega arith, ap is_some el, ap is_some eu)
    by_size false e = inr (inr (suc n, holds r a b el eu, let h : 2 ^ 53 ≤ n = ltb-false n (2 ^ 53) e in omega arith))

pub whole_laws : Laws whole_order whole
whole_laws = record {
  applied = λ op s t a b c p q e. (Whole, refl, applied_is op a b c e);
  negated = λ s a b p e. (refl, result_is (neg_ℤ a) b e, negated_back a b p e);
  forward_sort = λ op l r s e. only s;
  forward = λ op l r. covers_two (applied op) l r (forward_of op l r) (forward_holds op l r) (forward_one op l r);
  negate_sort = λ r e. refl;
  negate = λ r. covers_one (λ a. fit64 (neg_ℤ a)) r (negated_range r) (negate_holds r) (negate_one r);
  backward = λ op p l r. narrows_two (Within whole_order) (Inside whole_order) l r (Yields (Within whole_order) (of_two (applied op)) p) (backward_of op p l r) (backward_inside op p l r) (λ x y wl wr h. backward_keeps op p l r x y h.0 wl wr h.1 h.2);
  nexts = λ s a p. next_pick s a (inside (a +ℤ pos 1)) refl p;
  previouses = λ s a p. previous_pick s a (inside (a -ℤ pos 1)) refl p;
  counts = λ r. counted r (lower_of r) (upper_of r) refl refl;
  admits = λ l v e. (Whole, result_is l v e);
}
  where
    only : (s : WholeSort) → Whole ≡ s
    only Whole = refl

    applied_is : (op : Arithmetic) (a b c : ℤ) → applied op a b ≡ Some c → inside c ≡ true
    applied_is Plus a b c e = result_is (a +ℤ b) c e
    applied_is Minus a b c e = result_is (a -ℤ b) c e

    negated_back : (a b : ℤ) → inside a ≡ true → fit64 (neg_ℤ a) ≡ Some b → fit64 (neg_ℤ b) ≡ Some a
    negated_back a b i e = ap fit64 (ap neg_ℤ (sym (fit_was inside (neg_ℤ a) b e).1) ∙ Z.negated_undone a) ∙ fit_is inside a i
