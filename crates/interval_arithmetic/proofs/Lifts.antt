-- What holds of truths and of a kind's ranges holds of the ranges that are either. Assumes nothing.
use Rattle.std.proofs.Common.{◌≡◌, ℕ, Bool, true, false, sym, refl, ap, subst, arith}
use Rattle.std.specs.Option.{option_map}
use Rattle.answers.specs.declared.truth.Truth.{Truth}
use Rattle.answers.specs.declared.truth.Truth.TheVariants.{True, False, Unsure}
use Rattle.interval_arithmetic.specs.declared.range.Range.{Range}
use Rattle.interval_arithmetic.specs.declared.range.Range.TheVariants.{Boolean, Number}
use Rattle.interval_arithmetic.specs.Model.{Order}
use Rattle.answers.specs.Truths.{Told, truth_meet, truth_contains}
use Rattle.interval_arithmetic.specs.Ends.{Within, Same, meet, contains_of}
use Rattle.answers.specs.Sharing.{Contains}
use Rattle.interval_arithmetic.specs.Laws.{OrderLaws}
use Rattle.interval_arithmetic.specs.Ranges.{Value, boolean, number, Holds, SameRange, range_meet, range_contains}
use Rattle.interval_arithmetic.proofs.Meets.{contains_rule}

true_unsure : True ≡ Unsure → ⊥
true_unsure e = let z : ◌≡◌ {A = ℕ} 0 1 = cc in omega arith

false_unsure : False ≡ Unsure → ⊥
false_unsure e = let z : ◌≡◌ {A = ℕ} 0 1 = cc in omega arith

module _ {V R S : Type 0} (o : Order V R S) where
  lift_number : (a b : R) (r : Truth) → Contains (Within o) (meet o) (Same o) a b r → Contains (Holds o) (range_meet o) (SameRange o) (Number a) (Number b) r
  lift_number a b True h = ((Number h.0.0, ap (option_map Number) h.0.1, h.0.2), all)
    where
      all : (v : Value V) → Holds o (Number b) v → Holds o (Number a) v
      all (boolean v) w = w
      all (number v) w = h.1 v w
  lift_number a b False h = (ap (option_map Number) h.0, none)
    where
      none : (v : Value V) → Holds o (Number b) v → Holds o (Number a) v → ⊥
      none (boolean v) w u = w
      none (number v) w u = h.1 v w u
  lift_number a b Unsure h = (Number h.0, ap (option_map Number) h.1, h.2)

  lift_boolean : (a b r : Truth) → Contains Told truth_meet ◌≡◌ a b r → Contains (Holds o) (range_meet o) (SameRange o) (Boolean a) (Boolean b) r
  lift_boolean a b True h = ((Boolean h.0.0, ap (option_map Boolean) h.0.1, h.0.2), all)
    where
      all : (v : Value V) → Holds o (Boolean b) v → Holds o (Boolean a) v
      all (boolean v) w = h.1 v w
      all (number v) w = w
  lift_boolean a b False h = (ap (option_map Boolean) h.0, none)
    where
      none : (v : Value V) → Holds o (Boolean b) v → Holds o (Boolean a) v → ⊥
      none (boolean v) w u = h.1 v w u
      none (number v) w u = w
  lift_boolean a b Unsure h = (Boolean h.0, ap (option_map Boolean) h.1, h.2)

module _ {V R S : Type 0} {o : Order V R S} (laws : OrderLaws o) where
  rule : (a b : Range R) → Contains (Holds o) (range_meet o) (SameRange o) a b (range_contains o a b)
  rule (Boolean a) (Boolean b) = lift_boolean o a b (truth_contains a b) (truth_rule a b)
    where
      truth_rule : (s t : Truth) → Contains Told truth_meet ◌≡◌ s t (truth_contains s t)
      truth_rule True True = ((True, refl, refl), λ v w. w)
      truth_rule True False = (refl, no_both)
        where
          no_both : (v : Bool) → Told False v → Told True v → ⊥
          no_both true w u = let z : ◌≡◌ {A = ℕ} 0 1 = cc in omega arith
          no_both false w u = let z : ◌≡◌ {A = ℕ} 0 1 = cc in omega arith
      truth_rule True Unsure = (True, refl, true_unsure)
      truth_rule False True = (refl, no_both)
        where
          no_both : (v : Bool) → Told True v → Told False v → ⊥
          no_both true w u = let z : ◌≡◌ {A = ℕ} 0 1 = cc in omega arith
          no_both false w u = let z : ◌≡◌ {A = ℕ} 0 1 = cc in omega arith
      truth_rule False False = ((False, refl, refl), λ v w. w)
      truth_rule False Unsure = (False, refl, false_unsure)
      truth_rule Unsure t = ((t, refl, refl), λ v w. refl)
  rule (Boolean a) (Number b) = (refl, none)
    where
      none : (v : Value V) → Holds o (Number b) v → Holds o (Boolean a) v → ⊥
      none (boolean v) w u = w
      none (number v) w u = u
  rule (Number a) (Boolean b) = (refl, none)
    where
      none : (v : Value V) → Holds o (Boolean b) v → Holds o (Number a) v → ⊥
      none (boolean v) w u = u
      none (number v) w u = w
  rule (Number a) (Number b) = lift_number o a b (contains_of o a b) (contains_rule laws a b (contains_of o a b) refl)

  pub range_contains_rule : (a b : Range R) (r : Truth) → r ≡ range_contains o a b → Contains (Holds o) (range_meet o) (SameRange o) a b r
  range_contains_rule a b r e = subst (λ t. Contains (Holds o) (range_meet o) (SameRange o) a b t) (sym e) (rule a b)
