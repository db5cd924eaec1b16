-- What is known of a Boolean: TRUE, FALSE, or UNSURE. Assumes nothing.
use Rattle.std.specs.Prelude.{◌≡◌, Bool, true, false, not, ◌&&◌, ◌||◌, Some, None, Ok, Err, Option, Result}
use Rattle.answers.specs.declared.refusal.Refusal.{Refusal}
use Rattle.answers.specs.declared.refusal.Ground.TheVariants.{CrossedEnds}
use Rattle.answers.specs.declared.truth.Truth.{Truth}
use Rattle.answers.specs.declared.truth.Truth.TheVariants.{True, False, Unsure}
use Rattle.answers.specs.Refusals.{refusal}

-- the Booleans that each holds
abbrev pub told : Truth → Bool → Bool
told True b = b
told False b = not b
told Unsure b = true

abbrev pub Told : Truth → Bool → Type 0
Told t b = told t b ≡ true

-- an open end is false below and true above
abbrev pub end_or : Bool → Option Bool → Bool
end_or b None = b
end_or b (Some e) = e

abbrev pub from_to : Bool → Bool → Result Truth Refusal
from_to true true = Ok True
from_to true false = Err (refusal CrossedEnds 0)
from_to false true = Ok Unsure
from_to false false = Ok False

-- the truth with these ends, unless they are crossed
abbrev pub between : Option Bool → Option Bool → Result Truth Refusal
between l u = from_to (end_or false l) (end_or true u)

-- is a at most b, false being below true?
abbrev pub at_most : Bool → Bool → Bool
at_most a b = not a || b

-- it holds the Booleans between the ends, and is refused only where the lower is above the upper
abbrev pub Between : Option Bool → Option Bool → Result Truth Refusal → Type 0
Between l u (Ok t) = (b : Bool) → told t b ≡ at_most (end_or false l) b && at_most b (end_or true u)
Between l u (Err e) = (end_or false l ≡ true) × (end_or true u ≡ false)

-- what two truths share
abbrev pub truth_meet : Truth → Truth → Option Truth
truth_meet Unsure t = Some t
truth_meet True True = Some True
truth_meet True False = None
truth_meet True Unsure = Some True
truth_meet False True = None
truth_meet False False = Some False
truth_meet False Unsure = Some False

-- does the first hold all that the second holds?
abbrev pub truth_contains : Truth → Truth → Truth
truth_contains Unsure t = True
truth_contains True True = True
truth_contains True False = False
truth_contains True Unsure = Unsure
truth_contains False True = False
truth_contains False False = True
truth_contains False Unsure = Unsure
