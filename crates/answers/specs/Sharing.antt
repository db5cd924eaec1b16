-- What two ranges share, and whether one contains the other, for any type of ranges. Assumes nothing.
use Rattle.std.specs.Prelude.{◌≡◌, Some, None, Option}
use Rattle.answers.specs.declared.truth.Truth.{Truth}
use Rattle.answers.specs.declared.truth.Truth.TheVariants.{True, False, Unsure}

-- what two ranges share holds exactly what both hold, and there is none only if they share nothing
abbrev pub Shares : {X V : Type 0} → (X → V → Type 0) → X → X → Option X → Type 0
Shares {V = V} holds a b None = (v : V) → holds a v → holds b v → ⊥
Shares {V = V} holds a b (Some c) = ((v : V) → holds c v → holds a v × holds b v) × ((v : V) → holds a v → holds b v → holds c v)

-- what two ranges share has the sort of both
abbrev pub SharesSort : {X S : Type 0} → (X → S) → X → X → Option X → Type 0
SharesSort sort a b None = Unit {0}
SharesSort sort a b (Some c) = (sort c ≡ sort a) × (sort c ≡ sort b)

-- a contains b: TRUE if what they share is b, and then a holds all that b holds; FALSE if they share nothing; UNSURE if they share something else than b
abbrev pub Contains : {X V : Type 0} → (X → V → Type 0) → (X → X → Option X) → (X → X → Type 0) → X → X → Truth → Type 0
Contains {X = X} {V = V} holds shared same a b True = ((c : X) × (shared a b ≡ Some c) × same c b) × ((v : V) → holds b v → holds a v)
Contains {X = X} {V = V} holds shared same a b False = (shared a b ≡ None) × ((v : V) → holds b v → holds a v → ⊥)
Contains {X = X} {V = V} holds shared same a b Unsure = (c : X) × (shared a b ≡ Some c) × (same c b → ⊥)
