-- The ranges that `left > right` leaves, or `left >= right`. Assumes nothing.
use Rattle.std.specs.Prelude.{◌≡◌, Bool, true, false, cond, [], ◌∷◌, Some, None, Option}
use Rattle.std.specs.Option.{option_map}
use Rattle.interval_arithmetic.specs.Model.{Order, Operations}
use Rattle.interval_arithmetic.specs.Ends.{Within, Inside}
use Rattle.interval_arithmetic.specs.Compare.{Exceeds}
use Rattle.interval_arithmetic.specs.Sound.{OfTwo, both, Narrows}

-- the next value, or the value itself if the comparison is not strict
abbrev pub stepped : {V : Type 0} → Bool → (V → Option V) → V → Option V
stepped strict next b = cond strict (next b) (Some b)

-- an end, moved to the step from the other side's where it reaches that; absent if there is no step
abbrev pub moved : {V : Type 0} → (V → V → Bool) → (V → Option V) → Option V → Option V → Option (Option V)
moved reaches step own None = Some own
moved reaches step None (Some b) = option_map Some (step b)
moved reaches step (Some a) (Some b) = cond (reaches a b) (option_map Some (step b)) (Some (Some a))

-- the same, where `reaches` and `steps` say what is answered
abbrev pub Moved : {V : Type 0} → (V → V → Bool → Type 0) → (V → Option V → Type 0) → Option V → Option V → Option (Option V) → Type 0
Moved reaches steps own None r = r ≡ Some own
Moved {V = V} reaches steps None (Some b) r = (n : Option V) × steps b n × (r ≡ option_map Some n)
Moved {V = V} reaches steps (Some a) (Some b) r = (t : Bool) × reaches a b t × ((n : Option V) × (t ≡ true → steps b n) × (r ≡ cond t (option_map Some n) (Some (Some a))))

module _ {V R S L : Type 0} (o : Order V R S) (m : Operations V R S L) where
  -- the least value that a greater one may have, and the greatest that a smaller one may have
  abbrev pub step_up : Bool → V → Option V
  step_up strict = stepped strict m.next

  abbrev pub step_down : Bool → V → Option V
  step_down strict = stepped strict m.previous

  -- a lower end, raised by the other side's; absent if no value is left
  abbrev pub raised : Bool → Option V → Option V → Option (Option V)
  raised strict = moved o.leq (step_up strict)

  -- an upper end, brought down by the other side's; absent if no value is left
  abbrev pub lowered : Bool → Option V → Option V → Option (Option V)
  lowered strict = moved (λ a b. o.leq b a) (step_down strict)

  abbrev pub pair_up : Option R → Option R → Option (R × R)
  pair_up None r = None
  pair_up (Some l) None = None
  pair_up (Some l) (Some r) = Some (l, r)

  abbrev pub with_end : (Option V → Option R) → Option (Option V) → Option R
  with_end f None = None
  with_end f (Some e) = f e

  -- the two ends that touch or cross: only an equal pair is left, if the order is not strict
  abbrev pub touching : Bool → S → V → V → Option (R × R)
  touching true s u d = None
  touching false s u d = cond (o.leq d u) (pair_up (o.make s (Some u) (Some u)) (o.make s (Some u) (Some u))) None

  abbrev pub apart : Bool → R → R → Option (R × R)
  apart strict l r =
      pair_up
      (with_end (λ e. o.make (o.sort l) e (o.upper l)) (raised strict (o.lower l) (o.lower r)))
      (with_end (λ e. o.make (o.sort r) (o.lower r) e) (lowered strict (o.upper r) (o.upper l)))

  abbrev pub greater_by : Bool → R → R → Option V → Option V → Option (R × R)
  greater_by strict l r None d = apart strict l r
  greater_by strict l r (Some u) None = apart strict l r
  greater_by strict l r (Some u) (Some d) = cond (o.leq u d) (touching strict (o.sort l) u d) (apart strict l r)

  -- what is left of two ranges of one sort
  abbrev pub greater : Bool → R → R → Option (R × R)
  greater strict l r = cond (o.same (o.sort l) (o.sort r)) (greater_by strict l r (o.upper l) (o.lower r)) None

  -- the pair lies within the two ranges and keeps every two values of which the first exceeds the second; none is left only if there are no such two
  abbrev pub NarrowsGreater : Bool → R → R → Option (R × R) → Type 0
  NarrowsGreater strict l r p = Narrows (Within o) (Inside o) (OfTwo (Exceeds o strict)) (l ∷ r ∷ []) (option_map both p)
