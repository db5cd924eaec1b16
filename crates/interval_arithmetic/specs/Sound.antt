-- What it means for an answer on ranges to be sound, once for every kind, operator and comparison. Assumes nothing.
use Rattle.std.specs.Prelude.{◌≡◌, List, [], ◌∷◌, Some, None, Option}

-- the relation holds place by place, and there are as many of the one as of the other
abbrev pub All : {X Y : Type 0} → (X → Y → Type 0) → List X → List Y → Type 0
All p [] [] = Unit {0}
All p [] (y ∷ ys) = ⊥
All p (x ∷ xs) [] = ⊥
All p (x ∷ xs) (y ∷ ys) = p x y × All p xs ys

-- a rule, or a relation, of one value or two as one of a list of values
abbrev pub of_one : {V W : Type 0} → (V → Option W) → List V → Option W
of_one f [] = None
of_one f (x ∷ []) = f x
of_one f (x ∷ y ∷ vs) = None

abbrev pub of_two : {V W : Type 0} → (V → V → Option W) → List V → Option W
of_two f [] = None
of_two f (x ∷ []) = None
of_two f (x ∷ y ∷ []) = f x y
of_two f (x ∷ y ∷ z ∷ vs) = None

abbrev pub OfTwo : {V : Type 0} → (V → V → Type 0) → List V → Type 0
OfTwo p [] = ⊥
OfTwo p (x ∷ []) = ⊥
OfTwo p (x ∷ y ∷ []) = p x y
OfTwo p (x ∷ y ∷ z ∷ vs) = ⊥

abbrev pub both : {X : Type 0} → X × X → List X
both p = p.0 ∷ p.1 ∷ []

module _ {X V : Type 0} (holds : X → V → Type 0) where
  -- r covers a rule over the ranges: it holds every result of values in them, and is one value where they are and there is a result
  pub record Covers (one : X → V → Type 0) (rule : List V → Option V) (ranges : List X) (r : X) : Type 0 where
    pub every : (vs : List V) (v : V) → All holds ranges vs → rule vs ≡ Some v → holds r v
    pub single : (vs : List V) (v : V) → All one ranges vs → rule vs ≡ Some v → one r v

  -- the rule gives these values a result in r
  abbrev pub Yields : (List V → Option V) → X → List V → Type 0
  Yields rule r vs = (v : V) × (rule vs ≡ Some v) × holds r v

  -- new ranges lie within the old and keep every choice of values that is wanted; none is left only if there is no such choice
  abbrev pub Narrows : (X → X → Type 0) → (List V → Type 0) → List X → Option (List X) → Type 0
  Narrows inside wanted old None = (vs : List V) → All holds old vs → wanted vs → ⊥
  Narrows inside wanted old (Some new) = All inside new old × ((vs : List V) → All holds old vs → wanted vs → All holds new vs)
