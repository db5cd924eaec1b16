-- A range of a node: what is known of a Boolean, or a range of a number kind. Assumes nothing.
use Rattle.std.specs.Prelude.{◌≡◌, Bool, None, Option}
use Rattle.std.specs.Option.{option_map}
use Rattle.answers.specs.declared.truth.Truth.{Truth}
use Rattle.answers.specs.declared.truth.Truth.TheVariants.{False}
use Rattle.interval_arithmetic.specs.declared.range.DataType.{DataType}
use Rattle.interval_arithmetic.specs.declared.range.DataType.TheVariants as type
use Rattle.interval_arithmetic.specs.declared.range.Range.{Range}
use Rattle.interval_arithmetic.specs.declared.range.Range.TheVariants.{Boolean, Number}
use Rattle.interval_arithmetic.specs.Model.{Order}
use Rattle.answers.specs.Truths.{Told, truth_meet, truth_contains}
use Rattle.interval_arithmetic.specs.Ends.{Within, Same, meet, contains_of}

-- a Boolean, or a value of the kind
pub data Value (V : Type 0) : Type 0 where
  boolean : Bool → Value V
  number : V → Value V

module _ {V R S : Type 0} (o : Order V R S) where
  abbrev pub sort_in : Range R → DataType S
  sort_in (Boolean t) = type.Boolean
  sort_in (Number r) = type.Number (o.sort r)

  -- a range of the one holds no value of the other
  abbrev pub Holds : Range R → Value V → Type 0
  Holds (Boolean t) (boolean b) = Told t b
  Holds (Boolean t) (number v) = ⊥
  Holds (Number r) (boolean b) = ⊥
  Holds (Number r) (number v) = Within o r v

  abbrev pub SameRange : Range R → Range R → Type 0
  SameRange (Boolean s) (Boolean t) = s ≡ t
  SameRange (Boolean s) (Number r) = ⊥
  SameRange (Number r) (Boolean t) = ⊥
  SameRange (Number r) (Number q) = Same o r q

  -- what two ranges share
  abbrev pub range_meet : Range R → Range R → Option (Range R)
  range_meet (Boolean s) (Boolean t) = option_map Boolean (truth_meet s t)
  range_meet (Boolean s) (Number r) = None
  range_meet (Number r) (Boolean t) = None
  range_meet (Number r) (Number q) = option_map Number (meet o r q)

  -- does the first contain the second?
  abbrev pub range_contains : Range R → Range R → Truth
  range_contains (Boolean s) (Boolean t) = truth_contains s t
  range_contains (Boolean s) (Number r) = False
  range_contains (Number r) (Boolean t) = False
  range_contains (Number r) (Number q) = contains_of o r q
