-- The comparisons of two values, and what is known of one over two ranges. Assumes nothing.
use Rattle.std.specs.Prelude.{◌≡◌, Bool, true, false, cond, not, ◌&&◌, ◌||◌, is_some, Some, None, Option}
use Rattle.interval_arithmetic.specs.declared.compare.Comparison.{Comparison}
use Rattle.interval_arithmetic.specs.declared.compare.Comparison.TheVariants.{Gt, GtEq, Lt, LtEq, Eq}
use Rattle.answers.specs.declared.truth.Truth.{Truth}
use Rattle.answers.specs.declared.truth.Truth.TheVariants.{True, False, Unsure}
use Rattle.interval_arithmetic.specs.Model.{Order}
use Rattle.interval_arithmetic.specs.Ends.{Within}

module _ {V R S : Type 0} (o : Order V R S) where
  -- is x above y, or at it if the comparison is not strict?
  abbrev pub is_over : Bool → V → V → Bool
  is_over true x y = not (o.leq x y)
  is_over false x y = o.leq y x

  -- of two values of one sort, the first is above the second, or at it if the comparison is not strict
  pub record Exceeds (strict : Bool) (x y : V) : Type 0 where
    pub sort : S
    pub left : o.is sort x ≡ true
    pub right : o.is sort y ≡ true
    pub over : is_over strict x y ≡ true

  -- the comparison holds of two values
  abbrev pub Compares : Comparison → V → V → Type 0
  Compares Gt x y = Exceeds true x y
  Compares GtEq x y = Exceeds false x y
  Compares Lt x y = Exceeds true y x
  Compares LtEq x y = Exceeds false y x
  Compares Eq x y = x ≡ y

  -- is every value at or above the lower end over every value at or below the upper one? an open end lies beyond every value
  abbrev pub all_over : Bool → Option V → Option V → Bool
  all_over strict None u = false
  all_over strict (Some l) None = false
  all_over strict (Some l) (Some u) = is_over strict l u

  abbrev pub over_truth : Bool → R → R → Truth
  over_truth strict a b = cond (all_over strict (o.lower a) (o.upper b)) True (cond (all_over (not strict) (o.lower b) (o.upper a)) False Unsure)

  abbrev pub equal_truth : R → R → Truth
  equal_truth a b =
      cond (all_over true (o.lower a) (o.upper b) || all_over true (o.lower b) (o.upper a)) False
      (cond (all_over false (o.lower a) (o.upper b) && all_over false (o.lower b) (o.upper a)) True Unsure)

  abbrev pub compare_ends : Comparison → R → R → Truth
  compare_ends Gt a b = over_truth true a b
  compare_ends GtEq a b = over_truth false a b
  compare_ends Lt a b = over_truth true b a
  compare_ends LtEq a b = over_truth false b a
  compare_ends Eq a b = equal_truth a b

  -- what is known of the comparison; nothing where the sorts differ
  abbrev pub compare_of : Comparison → R → R → Truth
  compare_of c a b = cond (o.same (o.sort a) (o.sort b)) (compare_ends c a b) Unsure

  -- some two values in the ranges are so related
  pub record SomeTwo (a b : R) (related : V → V → Type 0) : Type 0 where
    pub left : V
    pub right : V
    pub left_held : Within o a left
    pub right_held : Within o b right
    pub relates : related left right

  -- both ends are values
  abbrev pub Bounded : R → Type 0
  Bounded r = (is_some (o.lower r) ≡ true) × (is_some (o.upper r) ≡ true)

  -- TRUE only if it holds of every two values in the ranges, FALSE only if of none; between ranges of one sort whose ends are values, UNSURE only if it holds of some two and not of some two
  abbrev pub Compared : Comparison → R → R → Truth → Type 0
  Compared c a b True = (x y : V) → Within o a x → Within o b y → Compares c x y
  Compared c a b False = (x y : V) → Within o a x → Within o b y → Compares c x y → ⊥
  Compared c a b Unsure = o.sort a ≡ o.sort b → Bounded a → Bounded b → SomeTwo a b (Compares c) × SomeTwo a b (λ x y. Compares c x y → ⊥)
