-- What holds of lower ends and, with the order turned round, of upper ones. Assumes nothing.
use Rattle.std.proofs.Common.{◌≡◌, Bool, true, false, cond, IfSome, Some, None, Option, sym, refl, ap, subst}
use Rattle.std.specs.Option.{option_map}
use Rattle.std.proofs.lemmas.Bool.{both_ways, false_from_ne_true}
use Rattle.std.proofs.lemmas.Option.{none-some, same_Some}
use Rattle.interval_arithmetic.specs.Ends.{end_is, uncrossed, tighter}
use Rattle.interval_arithmetic.specs.Laws.{NextBy}
use Rattle.interval_arithmetic.specs.Greater.{stepped, moved}

-- leq is a total order of the values of which `is` holds
pub record Ordered {V : Type 0} (is : V → Bool) (leq : V → V → Bool) : Type 0 where
  pub total : (a b : V) → is a ≡ true → is b ≡ true → leq a b ≡ false → leq b a ≡ true
  pub reflexive : (a : V) → is a ≡ true → leq a a ≡ true
  pub transitive : (a b c : V) → is a ≡ true → is b ≡ true → is c ≡ true → leq a b ≡ true → leq b c ≡ true → leq a c ≡ true

-- and so is the order turned round
pub turned : {V : Type 0} {is : V → Bool} {leq : V → V → Bool} → Ordered is leq → Ordered is (λ a b. leq b a)
turned laws = record {
  total = λ a b p q h. laws.total b a q p h;
  reflexive = laws.reflexive;
  transitive = λ a b c p q i h k. laws.transitive c b a i q p k h;
}

-- v is at the end or past it
abbrev pub Past : {V : Type 0} → (V → V → Bool) → Option V → V → Type 0
Past leq e v = IfSome e (λ a. leq a v ≡ true)

-- x is past y, or at it if the comparison is not strict
abbrev pub Over : {V : Type 0} → (V → V → Bool) → Bool → V → V → Type 0
Over leq true x y = leq x y ≡ false
Over leq false x y = leq y x ≡ true

pub over_turned : {V : Type 0} (leq : V → V → Bool) (strict : Bool) (x y : V) → Over leq strict x y → Over (λ a b. leq b a) strict y x
over_turned leq true x y h = h
over_turned leq false x y h = h

pub uncrossed_turned : {V : Type 0} (leq : V → V → Bool) (l u : Option V) → uncrossed leq l u ≡ true → uncrossed (λ a b. leq b a) u l ≡ true
uncrossed_turned leq None None h = refl
uncrossed_turned leq None (Some b) h = refl
uncrossed_turned leq (Some a) None h = refl
uncrossed_turned leq (Some a) (Some b) h = h

module _ {V : Type 0} {is : V → Bool} {leq : V → V → Bool} (laws : Ordered is leq) where
  -- ---- the tighter of two ends

  pick_both : (a b v : V) (t : Bool) → leq a b ≡ t → is a ≡ true → is b ≡ true → is v ≡ true → leq (cond t b a) v ≡ true → (leq a v ≡ true) × (leq b v ≡ true)
  pick_both a b v true e p q i h = (laws.transitive a b v p q i e h, h)
  pick_both a b v false e p q i h = (h, laws.transitive b a v q p i (laws.total a b p q e) h)

  pub past_both : (a b : Option V) (v : V) → end_is is a ≡ true → end_is is b ≡ true → is v ≡ true → Past leq (tighter leq a b) v → Past leq a v × Past leq b v
  past_both None b v p q i h = (tt, h)
  past_both (Some a) None v p q i h = (h, tt)
  past_both (Some a) (Some b) v p q i h = pick_both a b v (leq a b) refl p q i h

  pub past_from : (a b : Option V) (v : V) → Past leq a v → Past leq b v → Past leq (tighter leq a b) v
  past_from None b v h k = k
  past_from (Some a) None v h k = h
  past_from (Some a) (Some b) v h k = elim (leq a b) as (λ t. leq (cond t b a) v ≡ true) [ true ↦ k | false ↦ h ]

  pub tighter_is : (a b : Option V) → end_is is a ≡ true → end_is is b ≡ true → end_is is (tighter leq a b) ≡ true
  tighter_is None b p q = q
  tighter_is (Some a) None p q = p
  tighter_is (Some a) (Some b) p q = elim (leq a b) as (λ t. is (cond t b a) ≡ true) [ true ↦ q | false ↦ p ]

  -- an end that is not past u is not past what u is not past
  pub past_end : (e : Option V) (u v : V) → end_is is e ≡ true → is u ≡ true → is v ≡ true → uncrossed leq e (Some u) ≡ true → leq u v ≡ true → Past leq e v
  past_end None u v p iu iv h k = tt
  past_end (Some a) u v p iu iv h k = laws.transitive a u v p iu iv h k

  -- ---- an end moved to a step from another

  module _ (step : V → Option V) (steps : (a : V) → is a ≡ true → NextBy is leq a (step a)) where
    next_keeps : (b x y : V) → is b ≡ true → is x ≡ true → is y ≡ true → leq b y ≡ true → leq x y ≡ false → (e : Option V) → NextBy is leq b e → (n : V) × (e ≡ Some n) × (is n ≡ true) × (leq n x ≡ true)
    next_keeps b x y ib ix iy by gt None h = absurd (both_ways _ gt (laws.transitive x b y ix ib iy (h x ix) by))
    next_keeps b x y ib ix iy by gt (Some c) h = (c, refl, h.0, h.2 x ix (false_from_ne_true (leq x b) (λ e. both_ways _ gt (laws.transitive x b y ix ib iy e by))))

    step_keeps : (strict : Bool) (b x y : V) → is b ≡ true → is x ≡ true → is y ≡ true → leq b y ≡ true → Over leq strict x y → (n : V) × (stepped strict step b ≡ Some n) × (is n ≡ true) × (leq n x ≡ true)
    step_keeps true b x y ib ix iy by gt = next_keeps b x y ib ix iy by gt (step b) (steps b ib)
    step_keeps false b x y ib ix iy by gt = (b, refl, ib, laws.transitive b y x ib iy ix by gt)

    -- a value past the own end, and over one past the other end, is past the moved end
    pub moved_keeps : (strict : Bool) (e f : Option V) (x y : V) → end_is is e ≡ true → end_is is f ≡ true → is x ≡ true → is y ≡ true → Past leq e x → Past leq f y → Over leq strict x y → (g : Option V) × (moved leq (stepped strict step) e f ≡ Some g) × (end_is is g ≡ true) × Past leq g x
    moved_keeps strict e None x y p q ix iy h k gt = (e, refl, p, h)
    moved_keeps strict None (Some b) x y p q ix iy h k gt =
        let n = step_keeps strict b x y q ix iy k gt in
        (Some n.0, ap (option_map Some) n.1, n.2, n.3)
    moved_keeps strict (Some a) (Some b) x y p q ix iy h k gt = pick (leq a b)
      where
        pick : (t : Bool) → (g : Option V) × (cond t (option_map Some (stepped strict step b)) (Some (Some a)) ≡ Some g) × (end_is is g ≡ true) × Past leq g x
        pick true = let n = step_keeps strict b x y q ix iy k gt in (Some n.0, ap (option_map Some) n.1, n.2, n.3)
        pick false = (Some a, refl, p, h)

    step_past : (strict : Bool) (b n : V) → is b ≡ true → stepped strict step b ≡ Some n → (is n ≡ true) × (leq b n ≡ true)
    step_past true b n ib e = go (step b) (steps b ib) e
      where
        go : (x : Option V) → NextBy is leq b x → x ≡ Some n → (is n ≡ true) × (leq b n ≡ true)
        go None h k = absurd (none-some n k)
        go (Some c) h k = subst (λ y. (is y ≡ true) × (leq b y ≡ true)) (same_Some _ _ k) (h.0, laws.total c b h.0 ib h.1)
    step_past false b n ib e = subst (λ y. (is y ≡ true) × (leq b y ≡ true)) (same_Some _ _ e) (ib, laws.reflexive b ib)

    -- what is past the moved end is past the own one
    pub moved_tighter : (strict : Bool) (e f g : Option V) → end_is is e ≡ true → end_is is f ≡ true → moved leq (stepped strict step) e f ≡ Some g → (v : V) → is v ≡ true → Past leq g v → Past leq e v
    moved_tighter strict e None g p q k v i h = subst (λ x. Past leq x v) (sym (same_Some _ _ k)) h
    moved_tighter strict None (Some b) g p q k v i h = tt
    moved_tighter strict (Some a) (Some b) g p q k v i h = pick (leq a b) refl k
      where
        by_step : (x : Option V) → stepped strict step b ≡ x → option_map Some x ≡ Some g → leq a b ≡ true → leq a v ≡ true
        by_step None ex ek ab = absurd (none-some g ek)
        by_step (Some n) ex ek ab =
            let u = step_past strict b n q ex in
            let nv : leq n v ≡ true = subst (λ x. Past leq x v) (sym (same_Some _ _ ek)) h in
            laws.transitive a n v p u.0 i (laws.transitive a b n p q u.0 ab u.1) nv

        pick : (t : Bool) → leq a b ≡ t → cond t (option_map Some (stepped strict step b)) (Some (Some a)) ≡ Some g → leq a v ≡ true
        pick true ab ek = by_step (stepped strict step b) refl ek ab
        pick false ab ek = subst (λ x. Past leq x v) (sym (same_Some _ _ ek)) h
