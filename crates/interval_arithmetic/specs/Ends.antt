-- What lies in a range, what a range is made of, what two share, and whether one contains the other. Assumes nothing.
use Rattle.std.specs.Prelude.{◌≡◌, Bool, true, false, cond, ◌&&◌, IfSome, Some, None, Ok, Err, Option, Result}
use Rattle.std.specs.Option.{ok_or}
use Rattle.answers.specs.declared.refusal.Refusal.{Refusal}
use Rattle.answers.specs.declared.refusal.Ground.TheVariants.{CrossedEnds}
use Rattle.answers.specs.declared.truth.Truth.{Truth}
use Rattle.answers.specs.declared.truth.Truth.TheVariants.{True, False, Unsure}
use Rattle.answers.specs.Refusals.{refusal}
use Rattle.interval_arithmetic.specs.Model.{Order}

-- is an open end, or a value of which p holds?
abbrev pub end_is : {V : Type 0} → (V → Bool) → Option V → Bool
end_is p None = true
end_is p (Some v) = p v

abbrev pub uncrossed : {V : Type 0} → (V → V → Bool) → Option V → Option V → Bool
uncrossed leq None u = true
uncrossed leq (Some a) None = true
uncrossed leq (Some a) (Some b) = leq a b

-- may these be the ends of a range?
abbrev pub fair : {V : Type 0} → (V → Bool) → (V → V → Bool) → Option V → Option V → Bool
fair p leq l u = end_is p l && (end_is p u && uncrossed leq l u)

-- a value, if p holds of it
abbrev pub fit : {V : Type 0} → (V → Bool) → V → Option V
fit p v = cond (p v) (Some v) None

-- ends as a plain struct keeps them: one of which p does not hold, which no program holds, reads as open
abbrev pub kept : {V : Type 0} → (V → Bool) → Option V → Option V
kept p None = None
kept p (Some v) = fit p v

-- and crossed ends read as swapped
abbrev pub low_end : {V : Type 0} → (V → V → Bool) → Option V → Option V → Option V
low_end leq None u = None
low_end leq (Some a) None = Some a
low_end leq (Some a) (Some b) = Some (cond (leq a b) a b)

abbrev pub high_end : {V : Type 0} → (V → V → Bool) → Option V → Option V → Option V
high_end leq l None = None
high_end leq None (Some b) = Some b
high_end leq (Some a) (Some b) = Some (cond (leq a b) b a)

-- of two ends the second where the first reaches it, else the first; a value before an open one
abbrev pub tighter : {V : Type 0} → (V → V → Bool) → Option V → Option V → Option V
tighter reaches None b = b
tighter reaches (Some a) None = Some a
tighter reaches (Some a) (Some b) = Some (cond (reaches a b) b a)

-- the same, where `reach` says what is answered
abbrev pub Tighter : {V : Type 0} → (V → V → Bool → Type 0) → Option V → Option V → Option V → Type 0
Tighter reach None b r = r ≡ b
Tighter reach (Some a) None r = r ≡ Some a
Tighter reach (Some a) (Some b) r = (t : Bool) × reach a b t × (r ≡ Some (cond t b a))

module _ {V R S : Type 0} (o : Order V R S) where
  -- at or above a lower end; an open one is below every value
  abbrev pub Above : Option V → V → Type 0
  Above e v = IfSome e (λ a. o.leq a v ≡ true)

  abbrev pub Below : Option V → V → Type 0
  Below e v = IfSome e (λ b. o.leq v b ≡ true)

  -- the range holds the value: it is of the range's sort and between the ends
  pub record Within (r : R) (v : V) : Type 0 where
    pub of : o.is (o.sort r) v ≡ true
    pub above : Above (o.lower r) v
    pub below : Below (o.upper r) v

  -- the range of a sort from l to u, or refusal 1
  abbrev pub try_new_of : S → Option V → Option V → Result R Refusal
  try_new_of s l u = ok_or (o.make s l u) (refusal CrossedEnds 0)

  -- it holds the values of the sort from l to u; it is refused only where an end is not of the sort or the two are crossed
  abbrev pub Spans : S → Option V → Option V → Result R Refusal → Type 0
  Spans s l u (Ok r) = (o.sort r ≡ s) × ((v : V) → Within r v → Above l v × Below u v) × ((v : V) → o.is s v ≡ true → Above l v → Below u v → Within r v)
  Spans s l u (Err e) = fair (o.is s) o.leq l u ≡ false

  -- the range is one value
  pub record One (r : R) (v : V) : Type 0 where
    pub from : o.lower r ≡ Some v
    pub to : o.upper r ≡ Some v

  -- the two are of one sort, and every value of the first is in the second
  pub record Inside (a b : R) : Type 0 where
    pub sorts : o.sort a ≡ o.sort b
    pub holds : (v : V) → Within a v → Within b v

  -- the two ranges are equal: of one sort, with the same ends
  pub record Same (a b : R) : Type 0 where
    pub sorts : o.sort a ≡ o.sort b
    pub lowers : o.lower a ≡ o.lower b
    pub uppers : o.upper a ≡ o.upper b

  -- the higher of two lower ends, a value before an open one
  abbrev pub higher : Option V → Option V → Option V
  higher = tighter o.leq

  -- the lower of two upper ends, a value before an open one
  abbrev pub lesser : Option V → Option V → Option V
  lesser = tighter (λ a b. o.leq b a)

  -- what two ranges share; shut, so that callers go by the lemmas of `proofs/Meets`
  unfoldable pub meet : R → R → Option R
  meet a b =
      cond (o.same (o.sort a) (o.sort b))
      (o.make (o.sort a) (higher (o.lower a) (o.lower b)) (lesser (o.upper a) (o.upper b)))
      None

  -- are these the same end?
  abbrev pub same_end : Option V → Option V → Bool
  same_end None None = true
  same_end None (Some b) = false
  same_end (Some a) None = false
  same_end (Some a) (Some b) = o.leq a b && o.leq b a

  abbrev pub same_ends : R → R → Bool
  same_ends a b = same_end (o.lower a) (o.lower b) && same_end (o.upper a) (o.upper b)

  abbrev pub contained : Option R → R → Truth
  contained None b = False
  contained (Some c) b = cond (same_ends c b) True Unsure

  -- does the first contain the second?
  abbrev pub contains_of : R → R → Truth
  contains_of a b = contained (meet a b) b
