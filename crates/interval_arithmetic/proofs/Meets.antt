-- A value lies in what two ranges share exactly if it lies in both. Assumes nothing.
use Rattle.std.proofs.Common.{◌≡◌, Bool, true, false, cond, ◌&&◌, Some, None, Option, Result, sym, refl, ap, ◌∙◌, subst}
use Rattle.std.specs.Option.{ok_or}
use Rattle.answers.specs.declared.refusal.Refusal.{Refusal}
use Rattle.answers.specs.declared.refusal.Ground.TheVariants.{CrossedEnds}
use Rattle.answers.specs.Refusals.{refusal}
use Rattle.std.proofs.lemmas.Option.{none-some, same_Some}
use Rattle.std.proofs.lemmas.Bool.{and_parts, and_from, both_ways, false≢true}
use Rattle.answers.specs.declared.truth.Truth.{Truth}
use Rattle.answers.specs.declared.truth.Truth.TheVariants.{True, Unsure}
use Rattle.interval_arithmetic.specs.Model.{Order}
use Rattle.interval_arithmetic.specs.Ends.{Above, Below, Within, Spans, try_new_of, Inside, Same, end_is, uncrossed, fair, higher, lesser, meet, same_end, same_ends, contained}
use Rattle.answers.specs.Sharing.{Shares, SharesSort, Contains}
use Rattle.interval_arithmetic.specs.Laws.{OrderLaws, Made}
use Rattle.interval_arithmetic.proofs.OneEnd.{Ordered, turned, past_both, past_from, tighter_is}

-- what a fair pair of ends is
pub fair_parts : {V : Type 0} (p : V → Bool) (leq : V → V → Bool) (l u : Option V) → fair p leq l u ≡ true → (end_is p l ≡ true) × (end_is p u ≡ true) × (uncrossed leq l u ≡ true)
fair_parts p leq l u h =
    let a = and_parts (end_is p l) (end_is p u && uncrossed leq l u) h in
    let b = and_parts (end_is p u) (uncrossed leq l u) a.1 in
    (a.0, b.0, b.1)

pub fair_from : {V : Type 0} (p : V → Bool) (leq : V → V → Bool) (l u : Option V) → end_is p l ≡ true → end_is p u ≡ true → uncrossed leq l u ≡ true → fair p leq l u ≡ true
fair_from p leq l u a b c = and_from (end_is p l) (end_is p u && uncrossed leq l u) a (and_from (end_is p u) (uncrossed leq l u) b c)

module _ {V R S : Type 0} {o : Order V R S} (laws : OrderLaws o) where
  -- a value is of one sort
  pub one_sort : (s t : S) (v : V) → o.is s v ≡ true → o.is t v ≡ true → s ≡ t
  one_sort s t v p q = sym (laws.sorted s v p) ∙ laws.sorted t v q

  -- of the ends that a range has
  pub lower_is : (r : R) → end_is (o.is (o.sort r)) (o.lower r) ≡ true
  lower_is r = (fair_parts (o.is (o.sort r)) o.leq (o.lower r) (o.upper r) (laws.ends r)).0

  pub upper_is : (r : R) → end_is (o.is (o.sort r)) (o.upper r) ≡ true
  upper_is r = (fair_parts (o.is (o.sort r)) o.leq (o.lower r) (o.upper r) (laws.ends r)).1

  -- the values of a sort in their order, and with the order turned round
  pub upward : (s : S) → Ordered (o.is s) o.leq
  upward s = record { total = laws.total s; reflexive = laws.reflexive s; transitive = laws.transitive s }

  pub downward : (s : S) → Ordered (o.is s) (λ a b. o.leq b a)
  downward s = turned (upward s)

  -- ends with a value between them are not crossed
  pub between : (s : S) (l u : Option V) (v : V) → end_is (o.is s) l ≡ true → end_is (o.is s) u ≡ true → o.is s v ≡ true → Above o l v → Below o u v → uncrossed o.leq l u ≡ true
  between s None u v p q i h k = refl
  between s (Some a) None v p q i h k = refl
  between s (Some a) (Some b) v p q i h k = laws.transitive s a v b p i q h k

  -- a range made with these ends holds what lies between them
  pub made_within : (s : S) (l u : Option V) (r : R) (v : V) → Made o s l u r → o.is s v ≡ true → Above o l v → Below o u v → Within o r v
  made_within s l u r v m i h k = record {
    of = subst (λ t. o.is t v ≡ true) (sym m.sorts) i;
    above = subst (λ e. Above o e v) (sym m.low) h;
    below = subst (λ e. Below o e v) (sym m.high) k;
  }

  -- what is made of two ends holds the values between them
  pub new_spans : (s : S) (l u : Option V) (r : Result R Refusal) → r ≡ try_new_of o s l u → Spans o s l u r
  new_spans s l u r e = subst (λ x. Spans o s l u x) (sym e) (by_fair (fair (o.is s) o.leq l u) refl)
    where
      from_made : (c : R) → Made o s l u c → Spans o s l u (ok_or (o.make s l u) (refusal CrossedEnds 0))
      from_made c m =
          subst (λ x. Spans o s l u (ok_or x (refusal CrossedEnds 0))) (sym m.made)
          (m.sorts, λ v w. (subst (λ x. Above o x v) m.low w.above, subst (λ x. Below o x v) m.high w.below), λ v i h k. made_within s l u c v m i h k)

      by_fair : (t : Bool) → fair (o.is s) o.leq l u ≡ t → Spans o s l u (ok_or (o.make s l u) (refusal CrossedEnds 0))
      by_fair true f = let m = laws.makes s l u f in from_made m.0 m.1
      by_fair false f = subst (λ x. Spans o s l u (ok_or x (refusal CrossedEnds 0))) (sym (laws.refuses s l u f)) f

  pub meet_keeps : (a b : R) (v : V) → Within o a v → Within o b v → (c : R) × (meet o a b ≡ Some c) × Within o c v
  unfolding meet
  meet_keeps a b v wa wb =
      let s : S = o.sort a in
      let e : o.sort a ≡ o.sort b = one_sort (o.sort a) (o.sort b) v wa.of wb.of in
      let same : o.same (o.sort a) (o.sort b) ≡ true = subst (λ t. o.same (o.sort a) t ≡ true) e (laws.same_self (o.sort a)) in
      let lb : end_is (o.is s) (o.lower b) ≡ true = subst (λ t. end_is (o.is t) (o.lower b) ≡ true) (sym e) (lower_is b) in
      let ub : end_is (o.is s) (o.upper b) ≡ true = subst (λ t. end_is (o.is t) (o.upper b) ≡ true) (sym e) (upper_is b) in
      let l : Option V = higher o (o.lower a) (o.lower b) in
      let u : Option V = lesser o (o.upper a) (o.upper b) in
      let above : Above o l v = past_from (upward s) (o.lower a) (o.lower b) v wa.above wb.above in
      let below : Below o u v = past_from (downward s) (o.upper a) (o.upper b) v wa.below wb.below in
      let li : end_is (o.is s) l ≡ true = tighter_is (upward s) (o.lower a) (o.lower b) (lower_is a) lb in
      let ui : end_is (o.is s) u ≡ true = tighter_is (downward s) (o.upper a) (o.upper b) (upper_is a) ub in
      let f : fair (o.is s) o.leq l u ≡ true = fair_from (o.is s) o.leq l u li ui (between s l u v li ui wa.of above below) in
      let m = laws.makes s l u f in
      (m.0, ◌∙◌ {c = Some m.0} (ap (λ t. cond t (o.make s l u) None) same) m.1.made, made_within s l u m.0 v m.1 wa.of above below)

  -- a range that came out has the sort and the ends asked for
  pub make_made : (s : S) (l u : Option V) (c : R) → o.make s l u ≡ Some c → Made o s l u c
  make_made s l u c k = by_fair (fair (o.is s) o.leq l u) refl
    where
      by_fair : (t : Bool) → fair (o.is s) o.leq l u ≡ t → Made o s l u c
      by_fair true e = let m = laws.makes s l u e in subst (λ r. Made o s l u r) (same_Some _ _ (sym m.1.made ∙ k)) m.1
      by_fair false e = absurd (none-some _ (sym (laws.refuses s l u e) ∙ k))

  -- what the range that two others share is made of
  pub meet_made : (a b c : R) → meet o a b ≡ Some c → (o.sort a ≡ o.sort b) × Made o (o.sort a) (higher o (o.lower a) (o.lower b)) (lesser o (o.upper a) (o.upper b)) c
  unfolding meet
  meet_made a b c h = by_same (o.same (o.sort a) (o.sort b)) refl h
    where
      s : S
      s = o.sort a

      l : Option V
      l = higher o (o.lower a) (o.lower b)

      u : Option V
      u = lesser o (o.upper a) (o.upper b)

      by_same : (t : Bool) → o.same (o.sort a) (o.sort b) ≡ t → cond t (o.make s l u) None ≡ Some c → (o.sort a ≡ o.sort b) × Made o s l u c
      by_same true e k = (laws.same_is _ _ e, make_made s l u c k)
      by_same false e k = absurd (none-some _ k)

  pub meet_holds : (a b c : R) → meet o a b ≡ Some c → (v : V) → Within o c v → Within o a v × Within o b v
  meet_holds a b c h v w =
      let m = meet_made a b c h in
      let e : o.sort a ≡ o.sort b = m.0 in
      let s : S = o.sort a in
      let i : o.is s v ≡ true = subst (λ t. o.is t v ≡ true) m.1.sorts w.of in
      let lb : end_is (o.is s) (o.lower b) ≡ true = subst (λ t. end_is (o.is t) (o.lower b) ≡ true) (sym e) (lower_is b) in
      let ub : end_is (o.is s) (o.upper b) ≡ true = subst (λ t. end_is (o.is t) (o.upper b) ≡ true) (sym e) (upper_is b) in
      let above = past_both (upward s) (o.lower a) (o.lower b) v (lower_is a) lb i (subst (λ x. Above o x v) m.1.low w.above) in
      let below = past_both (downward s) (o.upper a) (o.upper b) v (upper_is a) ub i (subst (λ x. Below o x v) m.1.high w.below) in (
        record { of = i; above = above.0; below = below.0 },
        record { of = subst (λ t. o.is t v ≡ true) e i; above = above.1; below = below.1 },
      )

  pub meet_left : (a b c : R) → meet o a b ≡ Some c → Inside o c a
  meet_left a b c h = record { sorts = (meet_made a b c h).1.sorts; holds = λ v w. (meet_holds a b c h v w).0 }

  pub meet_right : (a b c : R) → meet o a b ≡ Some c → Inside o c b
  meet_right a b c h = record { sorts = (meet_made a b c h).1.sorts ∙ (meet_made a b c h).0; holds = λ v w. (meet_holds a b c h v w).1 }

  pub meet_shares : (a b : R) (r : Option R) → r ≡ meet o a b → Shares (Within o) a b r
  meet_shares a b None e = λ v wa wb. none-some _ (e ∙ (meet_keeps a b v wa wb).1)
  meet_shares a b (Some c) e =
      (meet_holds a b c (sym e), λ v wa wb. let k = meet_keeps a b v wa wb in subst (λ x. Within o x v) (same_Some _ _ (sym k.1 ∙ sym e)) k.2)

  pub meet_sorts : (a b : R) (r : Option R) → r ≡ meet o a b → SharesSort o.sort a b r
  meet_sorts a b None e = tt
  meet_sorts a b (Some c) e = ((meet_left a b c (sym e)).sorts, (meet_right a b c (sym e)).sorts)

  -- ---- whether one range contains another

  end_same : (s : S) (e f : Option V) → end_is (o.is s) e ≡ true → end_is (o.is s) f ≡ true → same_end o e f ≡ true → e ≡ f
  end_same s None None p q h = refl
  end_same s None (Some b) p q h = absurd (false≢true h)
  end_same s (Some a) None p q h = absurd (false≢true h)
  end_same s (Some a) (Some b) p q h = let k = and_parts (o.leq a b) (o.leq b a) h in ap Some (laws.antisymmetric s a b p q k.0 k.1)

  same_end_self : (s : S) (e : Option V) → end_is (o.is s) e ≡ true → same_end o e e ≡ true
  same_end_self s None p = refl
  same_end_self s (Some a) p = let k = laws.reflexive s a p in and_from (o.leq a a) (o.leq a a) k k

  -- ranges of one sort with the same ends
  same_from : (c b : R) → o.sort c ≡ o.sort b → same_ends o c b ≡ true → Same o c b
  same_from c b e h =
      let k = and_parts (same_end o (o.lower c) (o.lower b)) (same_end o (o.upper c) (o.upper b)) h in
      let lb : end_is (o.is (o.sort c)) (o.lower b) ≡ true = subst (λ t. end_is (o.is t) (o.lower b) ≡ true) (sym e) (lower_is b) in
      let ub : end_is (o.is (o.sort c)) (o.upper b) ≡ true = subst (λ t. end_is (o.is t) (o.upper b) ≡ true) (sym e) (upper_is b) in
      record { sorts = e; lowers = end_same (o.sort c) (o.lower c) (o.lower b) (lower_is c) lb k.0; uppers = end_same (o.sort c) (o.upper c) (o.upper b) (upper_is c) ub k.1 }

  same_ends_from : (c b : R) → Same o c b → same_ends o c b ≡ true
  same_ends_from c b e =
      and_from (same_end o (o.lower c) (o.lower b)) (same_end o (o.upper c) (o.upper b))
      (subst (λ x. same_end o (o.lower c) x ≡ true) e.lowers (same_end_self (o.sort c) (o.lower c) (lower_is c)))
      (subst (λ x. same_end o (o.upper c) x ≡ true) e.uppers (same_end_self (o.sort c) (o.upper c) (upper_is c)))

  pub same_within : (c b : R) → Same o c b → (v : V) → Within o b v → Within o c v
  same_within c b e v w = record {
    of = subst (λ t. o.is t v ≡ true) (sym e.sorts) w.of;
    above = subst (λ x. Above o x v) (sym e.lowers) w.above;
    below = subst (λ x. Below o x v) (sym e.uppers) w.below;
  }

  contained_rule : (a b : R) (m : Option R) → meet o a b ≡ m → Contains (Within o) (meet o) (Same o) a b (contained o m b)
  contained_rule a b None e = (e, λ v wb wa. none-some _ (sym e ∙ (meet_keeps a b v wa wb).1))
  contained_rule a b (Some c) e = by_ends (same_ends o c b) refl
    where
      by_ends : (t : Bool) → same_ends o c b ≡ t → Contains (Within o) (meet o) (Same o) a b (cond t True Unsure)
      by_ends true h =
          let same = same_from c b (meet_right a b c e).sorts h in
          ((c, e, same), λ v w. (meet_holds a b c e v (same_within c b same v w)).0)
      by_ends false h = (c, e, λ same. both_ways _ h (same_ends_from c b same))

  pub contains_rule : (a b : R) (r : Truth) → r ≡ contained o (meet o a b) b → Contains (Within o) (meet o) (Same o) a b r
  contains_rule a b r e = subst (λ t. Contains (Within o) (meet o) (Same o) a b t) (sym e) (contained_rule a b (meet o a b) refl)

  -- a range's lower end is not above its upper end
  pub ends_ordered : (r : R) (a b : V) → o.lower r ≡ Some a → o.upper r ≡ Some b → o.leq a b ≡ true
  ends_ordered r a b el eu =
      let h = (fair_parts (o.is (o.sort r)) o.leq (o.lower r) (o.upper r) (laws.ends r)).2 in
      subst (λ e. uncrossed o.leq (Some a) e ≡ true) eu (subst (λ e. uncrossed o.leq e (o.upper r) ≡ true) el h)

  -- an end that is a value is held
  pub lower_within : (r : R) (a : V) → o.lower r ≡ Some a → Within o r a
  lower_within r a e =
      let i : o.is (o.sort r) a ≡ true = subst (λ x. end_is (o.is (o.sort r)) x ≡ true) e (lower_is r) in
      record { of = i; above = subst (λ x. Above o x a) (sym e) (laws.reflexive (o.sort r) a i); below = under (o.upper r) refl }
    where
      under : (u : Option V) → o.upper r ≡ u → Below o u a
      under None f = tt
      under (Some b) f = ends_ordered r a b e f

  pub upper_within : (r : R) (b : V) → o.upper r ≡ Some b → Within o r b
  upper_within r b e =
      let i : o.is (o.sort r) b ≡ true = subst (λ x. end_is (o.is (o.sort r)) x ≡ true) e (upper_is r) in
      record { of = i; above = over (o.lower r) refl; below = subst (λ x. Below o x b) (sym e) (laws.reflexive (o.sort r) b i) }
    where
      over : (l : Option V) → o.lower r ≡ l → Above o l b
      over None f = tt
      over (Some a) f = ends_ordered r a b f e
