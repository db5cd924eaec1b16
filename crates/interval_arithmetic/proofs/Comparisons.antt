-- What is known of a comparison of two ranges holds of their values. Assumes nothing.
use Rattle.std.proofs.Common.{◌≡◌, Bool, true, false, cond, not, ◌&&◌, ◌||◌, ◌⊎◌, is_some, Some, None, Option, sym, refl, ap, subst, inl, inr}
use Rattle.std.proofs.lemmas.Bool.{and_parts, and_cases, not-true, not-false, not_from_false, false_from_ne_true, both_ways, false≢true}
use Rattle.interval_arithmetic.specs.declared.compare.Comparison.{Comparison}
use Rattle.interval_arithmetic.specs.declared.compare.Comparison.TheVariants.{Gt, GtEq, Lt, LtEq, Eq}
use Rattle.answers.specs.declared.truth.Truth.{Truth}
use Rattle.answers.specs.declared.truth.Truth.TheVariants.{True, False, Unsure}
use Rattle.interval_arithmetic.specs.Model.{Order}
use Rattle.interval_arithmetic.specs.Ends.{Above, Below, Within, end_is}
use Rattle.interval_arithmetic.specs.Laws.{OrderLaws}
use Rattle.interval_arithmetic.specs.Compare.{is_over, Bounded, SomeTwo, Exceeds, Compares, all_over, over_truth, equal_truth, compare_ends, compare_of, Compared}
use Rattle.interval_arithmetic.proofs.Meets.{lower_is, upper_is, lower_within, upper_within}

module _ {V R S : Type 0} {o : Order V R S} (laws : OrderLaws o) where
  -- x is over y wherever a value at or below x is over one at or above y
  over_wider : (strict : Bool) (s : S) (l u x y : V) → o.is s l ≡ true → o.is s u ≡ true → o.is s x ≡ true → o.is s y ≡ true → is_over o strict l u ≡ true → o.leq l x ≡ true → o.leq y u ≡ true → is_over o strict x y ≡ true
  over_wider true s l u x y il iu ix iy h lx yu =
      not_from_false (o.leq x y) (false_from_ne_true (o.leq x y) (λ e. both_ways _ (not-true (o.leq l u) h) (laws.transitive s l y u il iy iu (laws.transitive s l x y il ix iy lx e) yu)))
  over_wider false s l u x y il iu ix iy h lx yu = laws.transitive s y u x iy iu ix yu (laws.transitive s u l x iu il ix h lx)

  all_over_values : (strict : Bool) (s : S) (l u : Option V) (x y : V) → end_is (o.is s) l ≡ true → end_is (o.is s) u ≡ true → o.is s x ≡ true → o.is s y ≡ true → all_over o strict l u ≡ true → Above o l x → Below o u y → is_over o strict x y ≡ true
  all_over_values strict s None u x y p q ix iy h k j = absurd (false≢true h)
  all_over_values strict s (Some l) None x y p q ix iy h k j = absurd (false≢true h)
  all_over_values strict s (Some l) (Some u) x y p q ix iy h k j = over_wider strict s l u x y p q ix iy h k j

  -- where the ends say so, every value of a exceeds every value of b
  exceeds : (a b : R) → o.sort a ≡ o.sort b → (strict : Bool) → all_over o strict (o.lower a) (o.upper b) ≡ true → (x y : V) → Within o a x → Within o b y → Exceeds o strict x y
  exceeds a b es strict h x y wa wb =
      let iy : o.is (o.sort a) y ≡ true = subst (λ t. o.is t y ≡ true) (sym es) wb.of in
      let ub : end_is (o.is (o.sort a)) (o.upper b) ≡ true = subst (λ t. end_is (o.is t) (o.upper b) ≡ true) (sym es) (upper_is laws b) in
      record { sort = o.sort a; left = wa.of; right = iy; over = all_over_values strict (o.sort a) (o.lower a) (o.upper b) x y (lower_is laws a) ub wa.of iy h wa.above wb.below }

  -- not both: x over y, and y over x, one of the two strictly
  opposed : (strict : Bool) (x y : V) → Exceeds o strict x y → Exceeds o (not strict) y x → ⊥
  opposed true x y p q = both_ways _ (not-true (o.leq x y) p.over) q.over
  opposed false x y p q = both_ways _ (not-true (o.leq y x) q.over) p.over

  -- what is known of a relation over two ranges
  abbrev Known : (V → V → Type 0) → R → R → Truth → Type 0
  Known related a b True = (x y : V) → Within o a x → Within o b y → related x y
  Known related a b False = (x y : V) → Within o a x → Within o b y → related x y → ⊥
  Known related a b Unsure = Bounded o a → Bounded o b → SomeTwo o a b related × SomeTwo o a b (λ x y. related x y → ⊥)

  -- and of the relation turned round
  turned_two : (related : V → V → Type 0) (a b : R) → SomeTwo o b a related → SomeTwo o a b (λ x y. related y x)
  turned_two related a b p = record { left = p.right; right = p.left; left_held = p.right_held; right_held = p.left_held; relates = p.relates }

  turned_known : (related : V → V → Type 0) (a b : R) (t : Truth) → Known related b a t → Known (λ x y. related y x) a b t
  turned_known related a b True h = λ x y wa wb. h y x wb wa
  turned_known related a b False h = λ x y wa wb. h y x wb wa
  turned_known related a b Unsure h = λ ba bb. let known = h bb ba in (turned_two related a b known.0, turned_two (λ x y. related x y → ⊥) a b known.1)

  some_end : (e : Option V) → is_some e ≡ true → (v : V) × (e ≡ Some v)
  some_end None h = absurd (false≢true h)
  some_end (Some v) h = (v, refl)

  -- where the ends do not put a's values over b's, the lower of a is not over the upper of b
  some_not_over : (a b : R) (strict : Bool) → all_over o strict (o.lower a) (o.upper b) ≡ false → Bounded o a → Bounded o b → SomeTwo o a b (λ x y. Exceeds o strict x y → ⊥)
  some_not_over a b strict h ba bb =
      let l = some_end (o.lower a) ba.0 in
      let u = some_end (o.upper b) bb.1 in
      let e : is_over o strict l.0 u.0 ≡ false = subst (λ x. all_over o strict (Some l.0) x ≡ false) u.1 (subst (λ x. all_over o strict x (o.upper b) ≡ false) l.1 h) in
      record { left = l.0; right = u.0; left_held = lower_within laws a l.0 l.1; right_held = upper_within laws b u.0 u.1; relates = λ x. both_ways _ e x.over }

  -- and where they do not put b's over a's the other way, the upper of a is over the lower of b
  turned : (strict : Bool) (x y : V) → is_over o (not strict) y x ≡ false → is_over o strict x y ≡ true
  turned true x y h = ap not h
  turned false x y h = not-false (o.leq y x) h

  some_over : (a b : R) → o.sort a ≡ o.sort b → (strict : Bool) → all_over o (not strict) (o.lower b) (o.upper a) ≡ false → Bounded o a → Bounded o b → SomeTwo o a b (Exceeds o strict)
  some_over a b es strict h ba bb =
      let u = some_end (o.upper a) ba.1 in
      let l = some_end (o.lower b) bb.0 in
      let e : is_over o (not strict) l.0 u.0 ≡ false = subst (λ x. all_over o (not strict) (Some l.0) x ≡ false) u.1 (subst (λ x. all_over o (not strict) x (o.upper a) ≡ false) l.1 h) in
      let wu = upper_within laws a u.0 u.1 in
      let wl = lower_within laws b l.0 l.1 in
      let il : o.is (o.sort a) l.0 ≡ true = subst (λ t. o.is t l.0 ≡ true) (sym es) wl.of in
      record { left = u.0; right = l.0; left_held = wu; right_held = wl; relates = record { sort = o.sort a; left = wu.of; right = il; over = turned strict u.0 l.0 e } }

  over_known : (a b : R) → o.sort a ≡ o.sort b → (strict : Bool) → Known (Exceeds o strict) a b (over_truth o strict a b)
  over_known a b es strict = pick (all_over o strict (o.lower a) (o.upper b)) refl (all_over o (not strict) (o.lower b) (o.upper a)) refl
    where
      pick : (p : Bool) → all_over o strict (o.lower a) (o.upper b) ≡ p → (q : Bool) → all_over o (not strict) (o.lower b) (o.upper a) ≡ q → Known (Exceeds o strict) a b (cond p True (cond q False Unsure))
      pick true h q k = exceeds a b es strict h
      pick false h true k = λ x y wa wb e. opposed strict x y e (exceeds b a (sym es) (not strict) k y x wb wa)
      pick false h false k = λ ba bb. (some_over a b es strict k ba bb, some_not_over a b strict h ba bb)

  -- every value of a is at or above every value of b, and at or below: they are one
  equals : (a b : R) → o.sort a ≡ o.sort b → all_over o false (o.lower a) (o.upper b) ≡ true → all_over o false (o.lower b) (o.upper a) ≡ true → (x y : V) → Within o a x → Within o b y → x ≡ y
  equals a b es h k x y wa wb =
      let iy : o.is (o.sort a) y ≡ true = subst (λ t. o.is t y ≡ true) (sym es) wb.of in
      laws.antisymmetric (o.sort a) x y wa.of iy (exceeds b a (sym es) false k y x wb wa).over (exceeds a b es false h x y wa wb).over

  -- no value is strictly above itself
  apart : (a b : R) → o.sort a ≡ o.sort b → all_over o true (o.lower a) (o.upper b) ≡ true → (x y : V) → Within o a x → Within o b y → x ≡ y → ⊥
  apart a b es h x y wa wb e =
      let p = exceeds a b es true h x y wa wb in
      let self : o.leq x y ≡ true = subst (λ z. o.leq x z ≡ true) e (laws.reflexive (o.sort a) x wa.of) in
      opposed true x y p (record { sort = p.sort; left = p.right; right = p.left; over = self })

  -- a lower end of b that is not below a's lower end, nor strictly over its upper end, is in a
  lower_in : (a b : R) → o.sort a ≡ o.sort b → Bounded o a → (l m : V) → o.lower a ≡ Some l → o.lower b ≡ Some m → o.leq l m ≡ true → all_over o true (o.lower b) (o.upper a) ≡ false → Within o a m
  lower_in a b es ba l m el em lm h =
      let u = some_end (o.upper a) ba.1 in
      let mu : not (o.leq m u.0) ≡ false = subst (λ x. all_over o true (Some m) x ≡ false) u.1 (subst (λ x. all_over o true x (o.upper a) ≡ false) em h) in
      record {
        of = subst (λ t. o.is t m ≡ true) (sym es) (lower_within laws b m em).of;
        above = subst (λ x. Above o x m) (sym el) lm;
        below = subst (λ x. Below o x m) (sym u.1) (not-false (o.leq m u.0) mu);
      }

  -- where neither range lies strictly over the other, the higher lower end is in both
  some_equal : (a b : R) → o.sort a ≡ o.sort b → all_over o true (o.lower a) (o.upper b) ≡ false → all_over o true (o.lower b) (o.upper a) ≡ false → Bounded o a → Bounded o b → SomeTwo o a b (Compares o Eq)
  some_equal a b es h k ba bb = pick (some_end (o.lower a) ba.0) (some_end (o.lower b) bb.0)
    where
      higher : (l m : V) → o.lower a ≡ Some l → o.lower b ≡ Some m → (t : Bool) → o.leq l m ≡ t → SomeTwo o a b (Compares o Eq)
      higher l m el em true e = record { left = m; right = m; left_held = lower_in a b es ba l m el em e k; right_held = lower_within laws b m em; relates = refl }
      higher l m el em false e =
          let wl = lower_within laws a l el in
          let im : o.is (o.sort a) m ≡ true = subst (λ t. o.is t m ≡ true) (sym es) (lower_within laws b m em).of in
          let ml : o.leq m l ≡ true = laws.total (o.sort a) l m wl.of im e in
          record { left = l; right = l; left_held = wl; right_held = lower_in b a (sym es) bb m l em el ml h; relates = refl }

      pick : (l : V) × (o.lower a ≡ Some l) → (m : V) × (o.lower b ≡ Some m) → SomeTwo o a b (Compares o Eq)
      pick l m = higher l.0 m.0 l.1 m.1 (o.leq l.0 m.0) refl

  -- where the ends leave room, some two values differ
  some_unequal : (a b : R) → o.sort a ≡ o.sort b → (all_over o false (o.lower a) (o.upper b) && all_over o false (o.lower b) (o.upper a)) ≡ false → Bounded o a → Bounded o b → SomeTwo o a b (λ x y. Compares o Eq x y → ⊥)
  some_unequal a b es j ba bb = pick (and_cases (all_over o false (o.lower a) (o.upper b)) (all_over o false (o.lower b) (o.upper a)) j)
    where
      -- equal values are at or above each other
      level : (s : S) (x y : V) → o.is s x ≡ true → x ≡ y → Exceeds o false x y
      level s x y i e =
          let iy : o.is s y ≡ true = subst (λ z. o.is s z ≡ true) e i in
          record { sort = s; left = i; right = iy; over = subst (λ z. o.leq y z ≡ true) (sym e) (laws.reflexive s y iy) }

      pick : (all_over o false (o.lower a) (o.upper b) ≡ false) ⊎ (all_over o false (o.lower b) (o.upper a) ≡ false) → SomeTwo o a b (λ x y. Compares o Eq x y → ⊥)
      pick (inl h) =
          let p = some_not_over a b false h ba bb in
          record { left = p.left; right = p.right; left_held = p.left_held; right_held = p.right_held; relates = λ e. p.relates (level (o.sort a) p.left p.right p.left_held.of e) }
      pick (inr h) =
          let p = turned_two (λ x y. Exceeds o false x y → ⊥) a b (some_not_over b a false h bb ba) in
          record { left = p.left; right = p.right; left_held = p.left_held; right_held = p.right_held; relates = λ e. p.relates (level (o.sort b) p.right p.left p.right_held.of (sym e)) }

  equal_known : (a b : R) → o.sort a ≡ o.sort b → Compared o Eq a b (equal_truth o a b)
  equal_known a b es =
      pick (all_over o true (o.lower a) (o.upper b)) refl (all_over o true (o.lower b) (o.upper a)) refl
      (all_over o false (o.lower a) (o.upper b) && all_over o false (o.lower b) (o.upper a)) refl
    where
      pick : (p : Bool) → all_over o true (o.lower a) (o.upper b) ≡ p → (q : Bool) → all_over o true (o.lower b) (o.upper a) ≡ q → (t : Bool) → (all_over o false (o.lower a) (o.upper b) && all_over o false (o.lower b) (o.upper a)) ≡ t → Compared o Eq a b (cond (p || q) False (cond t True Unsure))
      pick true h q k t j = apart a b es h
      pick false h true k t j = λ x y wa wb e. apart b a (sym es) k y x wb wa (sym e)
      pick false h false k true j =
          let both = and_parts (all_over o false (o.lower a) (o.upper b)) (all_over o false (o.lower b) (o.upper a)) j in
          equals a b es both.0 both.1
      pick false h false k false j = λ _ ba bb. (some_equal a b es h k ba bb, some_unequal a b es j ba bb)

  from_known : (c : Comparison) (a b : R) (t : Truth) → Known (Compares o c) a b t → Compared o c a b t
  from_known c a b True h = h
  from_known c a b False h = h
  from_known c a b Unsure h = λ _. h

  ends_known : (c : Comparison) (a b : R) → o.sort a ≡ o.sort b → Compared o c a b (compare_ends o c a b)
  ends_known Gt a b es = from_known Gt a b _ (over_known a b es true)
  ends_known GtEq a b es = from_known GtEq a b _ (over_known a b es false)
  ends_known Lt a b es = from_known Lt a b _ (turned_known (Exceeds o true) a b _ (over_known b a (sym es) true))
  ends_known LtEq a b es = from_known LtEq a b _ (turned_known (Exceeds o false) a b _ (over_known b a (sym es) false))
  ends_known Eq a b es = equal_known a b es

  pub compared : (c : Comparison) (a b : R) (t : Truth) → t ≡ compare_of o c a b → Compared o c a b t
  compared c a b t e = subst (λ u. Compared o c a b u) (sym e) (by_sort (o.same (o.sort a) (o.sort b)) refl)
    where
      by_sort : (u : Bool) → o.same (o.sort a) (o.sort b) ≡ u → Compared o c a b (cond u (compare_ends o c a b) Unsure)
      by_sort true h = ends_known c a b (laws.same_is _ _ h)
      by_sort false h = λ es. absurd (both_ways _ h (subst (λ x. o.same (o.sort a) x ≡ true) es (laws.same_self (o.sort a))))
