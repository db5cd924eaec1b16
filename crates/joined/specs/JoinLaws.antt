-- The laws of two kinds give those of the joined one. Assumes nothing.
use Rattle.std.specs.Prelude.{◌≡◌, true, false, [], ◌∷◌, Some, None, ◌≢◌, refl}
use Rattle.std.proofs.Common.{sym, ◌∙◌, ap, subst}
use Rattle.std.specs.Option.{option_map}
use Rattle.std.proofs.lemmas.Bool.{false≢true}
use Rattle.interval_arithmetic.specs.declared.kind.Arithmetic.{Arithmetic}
use Rattle.interval_arithmetic.specs.Model.{Order, Operations}
use Rattle.interval_arithmetic.specs.Ends.{Within, One, Inside}
use Rattle.interval_arithmetic.specs.Laws.{OrderLaws, Laws}
use Rattle.interval_arithmetic.specs.Sound.{of_two, both, Covers, Yields, Narrows}
use Rattle.std.proofs.lemmas.Option.{none-some, same_Some}
use Rattle.joined.specs.declared.Joined.{Joined}
use Rattle.joined.specs.declared.Joined.TheVariants.{First, Second}
use Rattle.joined.specs.Join.{either, first_end, second_end, joined_order, joined}
use Rattle.joined.specs.Sides.{was, Side, SortLaws, ends_fair, sort_laws, counted_in, covers_one_in, negated_in, next_in, applied_in, covers_two_in, narrows_in, applied_across, covers_across, narrows_across, narrows_other}

-- nothing is of both kinds
apart : {A B : Type 0} (x : A) (y : B) → First x ≢ Second y
apart x y e = false≢true (ap (either (λ x. false) (λ y. true)) e)

module _ {V W R Q S T : Type 0} (oa : Order V R S) (ob : Order W Q T) where
  abbrev first : Side oa (joined_order oa ob)
  first = record {
    value = First;
    range = First;
    sort = First;
    end = first_end;
    injective = λ a b e. same_Some _ _ (same_Some _ _ (ap (λ v. first_end (Some v)) e));
    is = λ s v. refl;
    own = λ s. elim [ First x ↦ λ p. record { it = x; gives = refl; has = p } | Second y ↦ λ p. absurd (false≢true p) ];
    sort_of = λ v. refl;
    leq = λ a b. refl;
    sorts = λ r. refl;
    lower = λ r. refl;
    upper = λ r. refl;
    make = λ s l u. refl;
    ends = elim [ None ↦ refl | Some (First x) ↦ refl | Some (Second y) ↦ λ s. refl ];
  }

  abbrev second : Side ob (joined_order oa ob)
  second = record {
    value = Second;
    range = Second;
    sort = Second;
    end = second_end;
    injective = λ a b e. same_Some _ _ (same_Some _ _ (ap (λ v. second_end (Some v)) e));
    is = λ s v. refl;
    own = λ s. elim [ First x ↦ λ p. absurd (false≢true p) | Second y ↦ λ p. record { it = y; gives = refl; has = p } ];
    sort_of = λ v. refl;
    leq = λ a b. refl;
    sorts = λ r. refl;
    lower = λ r. refl;
    upper = λ r. refl;
    make = λ s l u. refl;
    ends = elim [ None ↦ refl | Some (First x) ↦ λ s. refl | Some (Second y) ↦ refl ];
  }

pub joined_order_laws : {V W R Q S T : Type 0} {oa : Order V R S} {ob : Order W Q T} → OrderLaws oa → OrderLaws ob → OrderLaws (joined_order oa ob)
joined_order_laws {S = S} {T = T} {oa = oa} {ob = ob} la lb = record {
  same_is = elim [ First s ↦ elim [ First t ↦ λ h. ap First (la.same_is s t h) | Second t ↦ λ h. absurd (false≢true h) ] | Second s ↦ elim [ First t ↦ λ h. absurd (false≢true h) | Second t ↦ λ h. ap Second (lb.same_is s t h) ] ];
  same_self = elim [ First s ↦ la.same_self s | Second s ↦ lb.same_self s ];
  sorted = λ s. (at s).sorted;
  total = λ s. (at s).total;
  reflexive = λ s. (at s).reflexive;
  antisymmetric = λ s. (at s).antisymmetric;
  transitive = λ s. (at s).transitive;
  ends = elim [ First r ↦ ends_fair (first oa ob) la r | Second r ↦ ends_fair (second oa ob) lb r ];
  makes = λ s. (at s).makes;
  refuses = λ s. (at s).refuses;
}
  where
    at : (s : Joined S T) → SortLaws (joined_order oa ob) s
    at (First s) = sort_laws (first oa ob) la s
    at (Second s) = sort_laws (second oa ob) lb s

module _ {V W R Q S T L M : Type 0} {oa : Order V R S} {ob : Order W Q T} {a : Operations V R S L} {b : Operations W Q T M} (ka : Laws oa a) (kb : Laws ob b) where
  abbrev o : Order (Joined V W) (Joined R Q) (Joined S T)
  o = joined_order oa ob

  abbrev m : Operations (Joined V W) (Joined R Q) (Joined S T) (Joined L M)
  m = joined a b

  applied : (op : Arithmetic) (s t : Joined S T) (x y z : Joined V W) → o.is s x ≡ true → o.is t y ≡ true → m.apply op x y ≡ Some z → (u : Joined S T) × (m.fits op s t ≡ Some u) × (o.is u z ≡ true)
  applied op (First s) (First t) = applied_in (first oa ob) (a.apply op) (m.apply op) (λ x y. refl) s t (a.fits op s t) (ka.applied op s t)
  applied op (First s) (Second t) = λ x y z p q h. absurd (applied_across (first oa ob) (second oa ob) (m.apply op) (λ x y. refl) s t x y z p q h)
  applied op (Second s) (First t) = λ x y z p q h. absurd (applied_across (second oa ob) (first oa ob) (m.apply op) (λ x y. refl) s t x y z p q h)
  applied op (Second s) (Second t) = applied_in (second oa ob) (b.apply op) (m.apply op) (λ x y. refl) s t (b.fits op s t) (kb.applied op s t)

  forward_sort : (op : Arithmetic) (l r : Joined R Q) (s : Joined S T) → m.fits op (o.sort l) (o.sort r) ≡ Some s → o.sort (m.forward op l r) ≡ s
  forward_sort op (First l) (First r) s e = let x = was First _ s e in ap First (ka.forward_sort op l r x.it x.has) ∙ x.gives
  forward_sort op (First l) (Second r) s e = absurd (none-some _ e)
  forward_sort op (Second l) (First r) s e = absurd (none-some _ e)
  forward_sort op (Second l) (Second r) s e = let x = was Second _ s e in ap Second (kb.forward_sort op l r x.it x.has) ∙ x.gives

  forward : (op : Arithmetic) (l r : Joined R Q) → Covers (Within o) (One o) (of_two (m.apply op)) (l ∷ r ∷ []) (m.forward op l r)
  forward op (First l) (First r) = covers_two_in (first oa ob) (a.apply op) (m.apply op) (λ x y. refl) l r (a.forward op l r) (ka.forward op l r)
  forward op (First l) (Second r) = covers_across (first oa ob) (second oa ob) (m.apply op) (λ x y. refl) l r (First l)
  forward op (Second l) (First r) = covers_across (second oa ob) (first oa ob) (m.apply op) (λ x y. refl) l r (Second l)
  forward op (Second l) (Second r) = covers_two_in (second oa ob) (b.apply op) (m.apply op) (λ x y. refl) l r (b.forward op l r) (kb.forward op l r)

  backward : (op : Arithmetic) (p l r : Joined R Q) → Narrows (Within o) (Inside o) (Yields (Within o) (of_two (m.apply op)) p) (l ∷ r ∷ []) (option_map both (m.backward op p l r))
  backward op (First p) (First l) (First r) = narrows_in (first oa ob) (a.apply op) (m.apply op) (λ x y. refl) p l r (a.backward op p l r) (ka.backward op p l r)
  backward op (First p) (First l) (Second r) = narrows_across (first oa ob) (second oa ob) (m.apply op) (λ x y. refl) (First p) l r
  backward op (First p) (Second l) (First r) = narrows_across (second oa ob) (first oa ob) (m.apply op) (λ x y. refl) (First p) l r
  backward op (First p) (Second l) (Second r) = narrows_other (second oa ob) (first oa ob) (m.apply op) (b.apply op) (λ x y. refl) (λ y x h. apart x y (sym h)) p l r
  backward op (Second p) (First l) (First r) = narrows_other (first oa ob) (second oa ob) (m.apply op) (a.apply op) (λ x y. refl) apart p l r
  backward op (Second p) (First l) (Second r) = narrows_across (first oa ob) (second oa ob) (m.apply op) (λ x y. refl) (Second p) l r
  backward op (Second p) (Second l) (First r) = narrows_across (second oa ob) (first oa ob) (m.apply op) (λ x y. refl) (Second p) l r
  backward op (Second p) (Second l) (Second r) = narrows_in (second oa ob) (b.apply op) (m.apply op) (λ x y. refl) p l r (b.backward op p l r) (kb.backward op p l r)

  admits : (l : Joined L M) (v : Joined V W) → m.admit l ≡ Some v → (s : Joined S T) × (o.is s v ≡ true)
  admits (First l) v e = let x = was First _ v e in let k = ka.admits l x.it x.has in (First k.0, subst (λ w. o.is (First k.0) w ≡ true) x.gives k.1)
  admits (Second l) v e = let x = was Second _ v e in let k = kb.admits l x.it x.has in (Second k.0, subst (λ w. o.is (Second k.0) w ≡ true) x.gives k.1)

  pub joined_laws : Laws (joined_order oa ob) (joined a b)
  joined_laws = record {
    applied = applied;
    negated = elim [ First s ↦ negated_in (first oa ob) a.negate m.negate (λ x. refl) s (ka.negated s) | Second s ↦ negated_in (second oa ob) b.negate m.negate (λ x. refl) s (kb.negated s) ];
    forward_sort = forward_sort;
    forward = forward;
    negate_sort = elim [ First r ↦ λ h. ap First (ka.negate_sort r h) | Second r ↦ λ h. ap Second (kb.negate_sort r h) ];
    negate = elim [ First r ↦ covers_one_in (first oa ob) a.negate m.negate (λ x. refl) r (a.arithmetic_negate r) (ka.negate r) | Second r ↦ covers_one_in (second oa ob) b.negate m.negate (λ x. refl) r (b.arithmetic_negate r) (kb.negate r) ];
    backward = backward;
    nexts = elim [ First s ↦ next_in (first oa ob) a.next m.next (λ x. refl) s oa.leq o.leq (λ x y. refl) (ka.nexts s) | Second s ↦ next_in (second oa ob) b.next m.next (λ x. refl) s ob.leq o.leq (λ x y. refl) (kb.nexts s) ];
    previouses = elim [ First s ↦ next_in (first oa ob) a.previous m.previous (λ x. refl) s (λ x y. oa.leq y x) (λ x y. o.leq y x) (λ x y. refl) (ka.previouses s) | Second s ↦ next_in (second oa ob) b.previous m.previous (λ x. refl) s (λ x y. ob.leq y x) (λ x y. o.leq y x) (λ x y. refl) (kb.previouses s) ];
    counts = elim [ First r ↦ counted_in (first oa ob) r (a.count r) (ka.counts r) | Second r ↦ counted_in (second oa ob) r (b.count r) (kb.counts r) ];
    admits = admits;
  }
