-- Which call of the libraries answers a question of a vector file. Assumes nothing.
use Rattle.std.specs.Prelude.{true, false, Some, None, Option}
use Rattle.std.specs.Option.{option_map, option_and_then, option_map_or}
use Rattle.std.specs.Result.{result_ok}
use Rattle.interval_arithmetic.specs.declared.compare.Comparison.{Comparison}
use Rattle.interval_arithmetic.specs.declared.compare.Comparison.TheVariants.{Gt, GtEq, Lt, LtEq, Eq}
use Rattle.answers.specs.declared.truth.Truth.TheVariants.{True, False}
use Rattle.interval_arithmetic.specs.Compare.{compare_of}
use Rattle.interval_arithmetic.specs.Ends.{meet, try_new_of}
use Rattle.interval_arithmetic.specs.Greater.{greater}
use Rattle.kinds.specs.declared.whole.WholeRange.{WholeRange}
use Rattle.kinds.specs.declared.whole.WholeSort.TheVariants.{Whole}
use Rattle.kinds.specs.Whole.{lower_of, upper_of, negated_range, forward_of, backward_of, whole_order, whole}
use Rattle.replay.specs.declared.words.Sort.TheVariants as sorts
use Rattle.replay.specs.declared.words.Written.{Written}
use Rattle.replay.specs.declared.words.Written.TheVariants.{Boolean, Number}
use Rattle.replay.specs.declared.operators.Operator.{Operator}
use Rattle.replay.specs.declared.operators.Operator.TheVariants as operators
use Rattle.replay.specs.declared.operators.Children.{Children}
use Rattle.replay.specs.declared.operators.Children.TheVariants.{One, Two}
use Rattle.replay.specs.declared.operators.Question.{Question}
use Rattle.replay.specs.declared.operators.Answer.{Answer}
use Rattle.replay.specs.declared.operators.Answer.TheVariants.{Ranges, Shown}

-- in a `do` block, what `?` does: none where there is no value
infixl 10 ◌>>=◌
abbrev pub ◌>>=◌ : {A B : Type 0} → Option A → (A → Option B) → Option B
o >>= f = option_and_then f o

-- a written range as one of whole numbers
abbrev pub whole_in : Written → Option WholeRange
whole_in (Number sorts.Whole l u) = result_ok (try_new_of whole_order Whole l u)
whole_in _ = None

-- a range of whole numbers as it is written, and as those of the children
abbrev pub written_whole : WholeRange → Written
written_whole r = Number sorts.Whole (lower_of r) (upper_of r)

abbrev pub one_child : WholeRange → Children
one_child r = One (written_whole r)

abbrev pub two_children : WholeRange × WholeRange → Children
two_children p = Two (written_whole p.0) (written_whole p.1)

-- the comparison that holds where this one is TRUE or FALSE
abbrev pub holding_of : Written → Comparison → Option Comparison
holding_of (Boolean True) c = Some c
holding_of (Boolean False) Gt = Some LtEq
holding_of (Boolean False) GtEq = Some Lt
holding_of (Boolean False) Lt = Some GtEq
holding_of (Boolean False) LtEq = Some Gt
holding_of _ _ = None

-- what is left of two ranges where the comparison holds; what is left of swapped ones is swapped back
abbrev pub satisfied : Comparison → WholeRange → WholeRange → Option (WholeRange × WholeRange)
satisfied Gt l r = greater whole_order whole true l r
satisfied GtEq l r = greater whole_order whole false l r
satisfied Lt l r = option_map (λ p. (p.1, p.0)) (greater whole_order whole true r l)
satisfied LtEq l r = option_map (λ p. (p.1, p.0)) (greater whole_order whole false r l)
satisfied Eq l r = option_map (λ s. (s, s)) (meet whole_order l r)

-- the operator's range over its children's
abbrev pub forward_range : Operator → Children → Option Written
forward_range operators.Neg (One c) = do
  child ← whole_in c
  Some (written_whole (negated_range child))
forward_range (operators.Arithmetic op) (Two l r) = do
  left ← whole_in l
  right ← whole_in r
  Some (written_whole (forward_of op left right))
forward_range (operators.Comparison comparison) (Two l r) = do
  left ← whole_in l
  right ← whole_in r
  Some (Boolean (compare_of whole_order comparison left right))
forward_range _ _ = None

-- what is left of the children, if anything is, where the operator has this range
abbrev pub backward_rest : Operator → Written → Children → Option (Option Children)
backward_rest operators.Neg o (One c) = do
  own ← whole_in o
  child ← whole_in c
  Some (option_map one_child (meet whole_order (negated_range own) child))
backward_rest (operators.Arithmetic op) o (Two l r) = do
  own ← whole_in o
  left ← whole_in l
  right ← whole_in r
  Some (option_map two_children (backward_of op own left right))
backward_rest (operators.Comparison comparison) o (Two l r) = do
  holds ← holding_of o comparison
  left ← whole_in l
  right ← whole_in r
  Some (option_map two_children (satisfied holds left right))
backward_rest _ _ _ = None

-- the answer of the libraries, none where they have no such call; nothing left of the children is shown
abbrev pub answer_by : Operator → Option Written → Children → Option Answer
answer_by op None children = option_map (λ range. Ranges (One range)) (forward_range op children)
answer_by op (Some own) children = option_map (λ rest. option_map_or Ranges rest Shown) (backward_rest op own children)

abbrev pub answer_of : Question → Option Answer
answer_of q = answer_by q.operator q.own q.children
