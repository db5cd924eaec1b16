-- What `greater` leaves: within the two ranges, and with every two values of which the first exceeds the second. Assumes nothing.
use Rattle.std.proofs.Common.{◌≡◌, Bool, true, false, cond, Some, None, Option, sym, refl, ap, ◌∙◌, subst}
use Rattle.std.proofs.lemmas.Option.{none-some}
use Rattle.std.proofs.lemmas.Bool.{both_ways, not-true}
use Rattle.interval_arithmetic.proofs.OneEnd.{Over, over_turned, uncrossed_turned, past_end, moved_keeps, moved_tighter}
use Rattle.interval_arithmetic.specs.Model.{Order, Operations}
use Rattle.interval_arithmetic.specs.Compare.{Exceeds}
use Rattle.interval_arithmetic.specs.Sound.{OfTwo}
use Rattle.interval_arithmetic.specs.Ends.{Above, Below, Within, Inside, end_is, uncrossed}
use Rattle.interval_arithmetic.specs.Laws.{OrderLaws, Laws, Made}
use Rattle.interval_arithmetic.proofs.Pairs as pair
use Rattle.interval_arithmetic.specs.Greater.{NarrowsGreater, raised, lowered, pair_up, with_end, touching, apart, greater_by, greater}
use Rattle.interval_arithmetic.proofs.Meets.{one_sort, upward, downward, fair_parts, fair_from, make_made, lower_is, upper_is, between, made_within}

-- ends that a value lies between make a range that holds it
around : {V R S : Type 0} {o : Order V R S} (laws : OrderLaws o) (s : S) (l u : Option V) (x : V) → end_is (o.is s) l ≡ true → end_is (o.is s) u ≡ true → o.is s x ≡ true → Above o l x → Below o u x → (r : R) × (o.make s l u ≡ Some r) × Within o r x
around {V} {R} {S} {o} laws s l u x p q i h k =
    let m = laws.makes s l u (fair_from (o.is s) o.leq l u p q (between laws s l u x p q i h k)) in
    (m.0, m.1.made, made_within laws s l u m.0 x m.1 i h k)

module _ {V R S L : Type 0} {o : Order V R S} {m : Operations V R S L} (order : OrderLaws o) (laws : Laws o m) where
  -- the pair keeps x on the left and y on the right; none keeps nothing
  abbrev Keeps : Option (R × R) → V → V → Type 0
  Keeps = pair.Keeps (Within o) (Inside o)

  abbrev PairInside : Option (R × R) → R → R → Type 0
  PairInside = pair.PairInside (Within o) (Inside o)

  -- ---- every two values stay

  module _ (l r : R) (es : o.sort l ≡ o.sort r) (strict : Bool) where
    to_left : (e : Option V) → end_is (o.is (o.sort r)) e ≡ true → end_is (o.is (o.sort l)) e ≡ true
    to_left e h = subst (λ s. end_is (o.is s) e ≡ true) (sym es) h

    apart_keeps : (x y : V) → Within o l x → Within o r y → Over o.leq strict x y → Keeps (apart o m strict l r) x y
    apart_keeps x y wl wr gt =
        let s : S = o.sort l in
        let iy : o.is s y ≡ true = subst (λ t. o.is t y ≡ true) (sym es) wr.of in
        let low = moved_keeps (upward order s) m.next (laws.nexts s) strict (o.lower l) (o.lower r) x y (lower_is order l) (to_left (o.lower r) (lower_is order r)) wl.of iy wl.above wr.above gt in
        let high = moved_keeps (downward order s) m.previous (laws.previouses s) strict (o.upper r) (o.upper l) y x (to_left (o.upper r) (upper_is order r)) (upper_is order l) iy wl.of wr.below wl.below (over_turned o.leq strict x y gt) in
        let first = around order s low.0 (o.upper l) x low.2 (upper_is order l) wl.of low.3 wl.below in
        let ir : end_is (o.is (o.sort r)) high.0 ≡ true = subst (λ t. end_is (o.is t) high.0 ≡ true) es high.2 in
        let second = around order (o.sort r) (o.lower r) high.0 y (lower_is order r) ir wr.of wr.above high.3 in
        let one : with_end o m (λ e. o.make s e (o.upper l)) (raised o m strict (o.lower l) (o.lower r)) ≡ Some first.0 = ap (with_end o m (λ e. o.make s e (o.upper l))) low.1 ∙ first.1 in
        let two : with_end o m (λ e. o.make (o.sort r) (o.lower r) e) (lowered o m strict (o.upper r) (o.upper l)) ≡ Some second.0 = ap (with_end o m (λ e. o.make (o.sort r) (o.lower r) e)) high.1 ∙ second.1 in
        subst (λ a. Keeps (pair_up o m a (with_end o m (λ e. o.make (o.sort r) (o.lower r) e) (lowered o m strict (o.upper r) (o.upper l)))) x y) (sym one)
        (subst (λ b. Keeps (pair_up o m (Some first.0) b) x y) (sym two) (first.2, second.2))

  -- the two values are equal, and the one value that the ends share
  equal_keeps : (s : S) (u d x y : V) → o.is s u ≡ true → o.is s d ≡ true → o.is s x ≡ true → o.is s y ≡ true → o.leq x u ≡ true → o.leq u d ≡ true → o.leq d y ≡ true → o.leq y x ≡ true → (t : Bool) → o.leq d u ≡ t → Keeps (cond t (pair_up o m (o.make s (Some u) (Some u)) (o.make s (Some u) (Some u))) None) x y
  equal_keeps s u d x y iu id ix iy xu ud dy yx true e =
      let ux : o.leq u x ≡ true = order.transitive s u y x iu iy ix (order.transitive s u d y iu id iy ud dy) yx in
      let uy : o.leq u y ≡ true = order.transitive s u d y iu id iy ud dy in
      let yu : o.leq y u ≡ true = order.transitive s y x u iy ix iu yx xu in
      let xs = order.antisymmetric s x u ix iu xu ux in
      let one = around order s (Some u) (Some u) u iu iu iu (order.reflexive s u iu) (order.reflexive s u iu) in
      let wx : Within o one.0 x = subst (λ v. Within o one.0 v) (sym xs) one.2 in
      let wy : Within o one.0 y = subst (λ v. Within o one.0 v) (order.antisymmetric s u y iu iy uy yu) one.2 in
      subst (λ a. Keeps (pair_up o m a a) x y) (sym one.1) (wx, wy)
  equal_keeps s u d x y iu id ix iy xu ud dy yx false e =
      both_ways _ e (order.transitive s d x u id ix iu (order.transitive s d y x id iy ix dy yx) xu)

  touching_keeps : (strict : Bool) (s : S) (u d x y : V) → o.is s u ≡ true → o.is s d ≡ true → o.is s x ≡ true → o.is s y ≡ true → o.leq x u ≡ true → o.leq u d ≡ true → o.leq d y ≡ true → Over o.leq strict x y → Keeps (touching o m strict s u d) x y
  touching_keeps true s u d x y iu id ix iy xu ud dy gt = both_ways _ gt (order.transitive s x u y ix iu iy xu (order.transitive s u d y iu id iy ud dy))
  touching_keeps false s u d x y iu id ix iy xu ud dy gt = equal_keeps s u d x y iu id ix iy xu ud dy gt (o.leq d u) refl

  module _ (l r : R) (es : o.sort l ≡ o.sort r) (strict : Bool) (x y : V) (wl : Within o l x) (wr : Within o r y) (gt : Over o.leq strict x y) where
    by_ends : (e f : Option V) → o.upper l ≡ e → o.lower r ≡ f → Keeps (greater_by o m strict l r e f) x y
    by_ends None f p q = apart_keeps l r es strict x y wl wr gt
    by_ends (Some u) None p q = apart_keeps l r es strict x y wl wr gt
    by_ends (Some u) (Some d) p q = pick (o.leq u d) refl
      where
        s : S
        s = o.sort l

        iy : o.is (o.sort l) y ≡ true
        iy = subst (λ t. o.is t y ≡ true) (sym es) wr.of

        iu : o.is (o.sort l) u ≡ true
        iu = subst (λ e. end_is (o.is (o.sort l)) e ≡ true) p (upper_is order l)

        id : o.is (o.sort l) d ≡ true
        id = subst (λ e. end_is (o.is (o.sort l)) e ≡ true) q (to_left l r es strict (o.lower r) (lower_is order r))

        pick : (t : Bool) → o.leq u d ≡ t → Keeps (cond t (touching o m strict (o.sort l) u d) (apart o m strict l r)) x y
        pick true ud = touching_keeps strict (o.sort l) u d x y iu id wl.of iy (subst (λ e. Below o e x) p wl.below) ud (subst (λ e. Above o e y) q wr.above) gt
        pick false ud = apart_keeps l r es strict x y wl wr gt

    by_ends_keeps : Keeps (greater_by o m strict l r (o.upper l) (o.lower r)) x y
    by_ends_keeps = by_ends (o.upper l) (o.lower r) refl refl

  -- ---- the pair lies within the two ranges

  -- a range made with tighter ends than a's lies within a
  narrower : (s : S) (e f : Option V) (c a : R) → Made o s e f c → s ≡ o.sort a → ((v : V) → o.is s v ≡ true → Above o e v → Above o (o.lower a) v) → ((v : V) → o.is s v ≡ true → Below o f v → Below o (o.upper a) v) → Inside o c a
  narrower s e f c a m es h k = record { sorts = m.sorts ∙ es; holds = held }
    where
      held : (v : V) → Within o c v → Within o a v
      held v w =
          let i : o.is s v ≡ true = subst (λ t. o.is t v ≡ true) m.sorts w.of in
          record {
            of = subst (λ t. o.is t v ≡ true) es i;
            above = h v i (subst (λ x. Above o x v) m.low w.above);
            below = k v i (subst (λ x. Below o x v) m.high w.below);
          }

  with_end_was : (f : Option V → Option R) (x : Option (Option V)) (c : R) → with_end o m f x ≡ Some c → (e : Option V) × (x ≡ Some e) × (f e ≡ Some c)
  with_end_was f None c h = absurd (none-some _ h)
  with_end_was f (Some e) c h = (e, refl, h)

  apart_inside : (l r : R) → o.sort l ≡ o.sort r → (strict : Bool) → PairInside (apart o m strict l r) l r
  apart_inside l r es strict = pick (with_end o m one (raised o m strict (o.lower l) (o.lower r))) (with_end o m two (lowered o m strict (o.upper r) (o.upper l))) refl refl
    where
      one : Option V → Option R
      one e = o.make (o.sort l) e (o.upper l)

      two : Option V → Option R
      two e = o.make (o.sort r) (o.lower r) e

      pick : (x y : Option R) → with_end o m (λ e. o.make (o.sort l) e (o.upper l)) (raised o m strict (o.lower l) (o.lower r)) ≡ x → with_end o m (λ e. o.make (o.sort r) (o.lower r) e) (lowered o m strict (o.upper r) (o.upper l)) ≡ y → PairInside (pair_up o m x y) l r
      pick None y p q = tt
      pick (Some c) None p q = tt
      pick (Some c) (Some d) p q =
          let a = with_end_was (λ e. o.make (o.sort l) e (o.upper l)) (raised o m strict (o.lower l) (o.lower r)) c p in
          let b = with_end_was (λ e. o.make (o.sort r) (o.lower r) e) (lowered o m strict (o.upper r) (o.upper l)) d q in
          let lr : end_is (o.is (o.sort l)) (o.lower r) ≡ true = subst (λ s. end_is (o.is s) (o.lower r) ≡ true) (sym es) (lower_is order r) in
          let ul : end_is (o.is (o.sort r)) (o.upper l) ≡ true = subst (λ s. end_is (o.is s) (o.upper l) ≡ true) es (upper_is order l) in (
            narrower (o.sort l) a.0 (o.upper l) c l (make_made order (o.sort l) a.0 (o.upper l) c a.2) refl
                (moved_tighter (upward order (o.sort l)) m.next (laws.nexts (o.sort l)) strict (o.lower l) (o.lower r) a.0 (lower_is order l) lr a.1) (λ v i h. h),
            narrower (o.sort r) (o.lower r) b.0 d r (make_made order (o.sort r) (o.lower r) b.0 d b.2) refl
                (λ v i h. h) (moved_tighter (downward order (o.sort r)) m.previous (laws.previouses (o.sort r)) strict (o.upper r) (o.upper l) b.0 (upper_is order r) ul b.1),
          )

  module _ (l r : R) (es : o.sort l ≡ o.sort r) (u d : V) (eu : o.upper l ≡ Some u) (ed : o.lower r ≡ Some d) (ud : o.leq u d ≡ true) where
    touching_inside : (strict : Bool) → PairInside (touching o m strict (o.sort l) u d) l r
    touching_inside true = tt
    touching_inside false = pick (o.leq d u) refl
      where
        s : S
        s = o.sort l

        iu : o.is (o.sort l) u ≡ true
        iu = subst (λ e. end_is (o.is (o.sort l)) e ≡ true) eu (upper_is order l)

        id : o.is (o.sort l) d ≡ true
        id = subst (λ e. end_is (o.is (o.sort l)) e ≡ true) ed (subst (λ t. end_is (o.is t) (o.lower r) ≡ true) (sym es) (lower_is order r))

        ur : end_is (o.is (o.sort l)) (o.upper r) ≡ true
        ur = subst (λ t. end_is (o.is t) (o.upper r) ≡ true) (sym es) (upper_is order r)

        low : uncrossed o.leq (o.lower l) (Some u) ≡ true
        low = subst (λ e. uncrossed o.leq (o.lower l) e ≡ true) eu (fair_parts (o.is (o.sort l)) o.leq (o.lower l) (o.upper l) (order.ends l)).2

        high : uncrossed o.leq (Some d) (o.upper r) ≡ true
        high = subst (λ e. uncrossed o.leq e (o.upper r) ≡ true) ed (fair_parts (o.is (o.sort r)) o.leq (o.lower r) (o.upper r) (order.ends r)).2

        both : (x : Option R) → o.make (o.sort l) (Some u) (Some u) ≡ x → o.leq d u ≡ true → PairInside (pair_up o m x x) l r
        both None e du = tt
        both (Some c) e du =
            let mc = make_made order (o.sort l) (Some u) (Some u) c e in (
              narrower (o.sort l) (Some u) (Some u) c l mc refl
                  (λ v i h. past_end (upward order (o.sort l)) (o.lower l) u v (lower_is order l) iu i low h)
                  (λ v i h. subst (λ x. Below o x v) (sym eu) h),
              narrower (o.sort l) (Some u) (Some u) c r mc es
                  (λ v i h. subst (λ x. Above o x v) (sym ed) (order.transitive (o.sort l) d u v id iu i du h))
                  (λ v i h. past_end (downward order (o.sort l)) (o.upper r) d v ur id i (uncrossed_turned o.leq (Some d) (o.upper r) high) (order.transitive (o.sort l) v u d i iu id h ud)),
            )

        pick : (t : Bool) → o.leq d u ≡ t → PairInside (cond t (pair_up o m (o.make (o.sort l) (Some u) (Some u)) (o.make (o.sort l) (Some u) (Some u))) None) l r
        pick true du = both (o.make (o.sort l) (Some u) (Some u)) refl du
        pick false du = tt

  by_ends_inside : (l r : R) → o.sort l ≡ o.sort r → (strict : Bool) → PairInside (greater_by o m strict l r (o.upper l) (o.lower r)) l r
  by_ends_inside l r es strict = go (o.upper l) (o.lower r) refl refl
    where
      go : (e f : Option V) → o.upper l ≡ e → o.lower r ≡ f → PairInside (greater_by o m strict l r e f) l r
      go None f p q = apart_inside l r es strict
      go (Some u) None p q = apart_inside l r es strict
      go (Some u) (Some d) p q = pick (o.leq u d) refl
        where
          pick : (t : Bool) → o.leq u d ≡ t → PairInside (cond t (touching o m strict (o.sort l) u d) (apart o m strict l r)) l r
          pick true ud = touching_inside l r es u d p q ud strict
          pick false ud = apart_inside l r es strict

  -- ---- of any two ranges

  over : (strict : Bool) (x y : V) → Exceeds o strict x y → Over o.leq strict x y
  over true x y e = not-true (o.leq x y) e.over
  over false x y e = e.over

  greater_narrows : (strict : Bool) (l r : R) → NarrowsGreater o m strict l r (greater o m strict l r)
  greater_narrows strict l r = by_same (o.same (o.sort l) (o.sort r)) refl
    where
      by_same : (t : Bool) → o.same (o.sort l) (o.sort r) ≡ t → NarrowsGreater o m strict l r (cond t (greater_by o m strict l r (o.upper l) (o.lower r)) None)
      by_same true e =
          let es = order.same_is (o.sort l) (o.sort r) e in
          pair.narrows_two (Within o) (Inside o) l r (OfTwo (Exceeds o strict)) (greater_by o m strict l r (o.upper l) (o.lower r)) (by_ends_inside l r es strict)
          (λ x y wl wr gt. by_ends_keeps l r es strict x y wl wr (over strict x y gt))
      by_same false e =
          pair.narrows_two (Within o) (Inside o) l r (OfTwo (Exceeds o strict)) None tt
          (λ x y wl wr gt.
          let es : o.sort l ≡ o.sort r = one_sort order (o.sort l) gt.sort x wl.of gt.left ∙ one_sort order gt.sort (o.sort r) y gt.right wr.of in
          both_ways _ e (subst (λ t. o.same (o.sort l) t ≡ true) es (order.same_self (o.sort l))))

  pub greater_narrows_all : (strict : Bool) (l r : R) (p : Option (R × R)) → p ≡ greater o m strict l r → NarrowsGreater o m strict l r p
  greater_narrows_all strict l r p e = subst (λ q. NarrowsGreater o m strict l r q) (sym e) (greater_narrows strict l r)
