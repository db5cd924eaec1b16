-- What the ranges and the operations of a number kind mean, as two records that contracts and theorems take whole. Assumes nothing.
use Rattle.std.specs.Prelude.{ℕ, Bool, Option}
use Rattle.interval_arithmetic.specs.declared.kind.Arithmetic.{Arithmetic}

-- the sorts, the order of the values, and a range's ends
pub record Order (Value Range Sort : Type 0) : Type 0 where
  -- is it a value of this sort? (a number outside its machine width is a value of none)
  pub is : Sort → Value → Bool
  pub sort_of : Value → Sort
  pub same : Sort → Sort → Bool
  pub leq : Value → Value → Bool
  pub sort : Range → Sort
  pub lower : Range → Option Value
  pub upper : Range → Option Value
  -- the range with these ends, if they are values of the sort and not crossed
  pub make : Sort → Option Value → Option Value → Option Range

-- the value rules, and the answers to the questions
pub record Operations (Value Range Sort Literal : Type 0) : Type 0 where
  pub apply : Arithmetic → Value → Value → Option Value
  pub negate : Value → Option Value
  -- the sort that results, if the two sorts fit the operation
  pub fits : Arithmetic → Sort → Sort → Option Sort
  pub negates : Sort → Bool
  pub compares : Sort → Bool
  pub columns : Sort → Bool
  pub forward : Arithmetic → Range → Range → Range
  pub arithmetic_negate : Range → Range
  pub backward : Arithmetic → Range → Range → Range → Option (Range × Range)
  pub next : Value → Option Value
  pub previous : Value → Option Value
  pub count : Range → Option ℕ
  pub admit : Literal → Option Value
