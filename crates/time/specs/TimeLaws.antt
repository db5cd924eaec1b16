-- The laws of time as a kind, from those of whole numbers. Assumes nothing.
use Rattle.std.specs.Prelude.{◌≡◌, ℕ, Bool, true, false, cond, [], ◌∷◌, ℤ, is_some, Some, None, Option, int_le, refl}
use Rattle.std.proofs.Common.{sym, ◌∙◌, ap, subst, inl, inr}
use Rattle.std.specs.Option.{option_map, unwrap_or, option_zip}
use Rattle.interval_arithmetic.specs.declared.kind.Arithmetic.{Arithmetic}
use Rattle.interval_arithmetic.specs.Ends.{Within, One, Inside, meet}
use Rattle.interval_arithmetic.specs.Laws.{Laws, NextBy, Numbered, Counted}
use Rattle.interval_arithmetic.specs.Sound.{of_two, Yields}
use Rattle.interval_arithmetic.proofs.Pairs.{Keeps, PairInside, covers_one, covers_two, narrows_two, pair_inside, pair_keeps}
use Rattle.interval_arithmetic.proofs.Meets.{meet_keeps, meet_right}
use Rattle.std.proofs.lemmas.Option.{none-some}
use Rattle.kinds.specs.declared.whole.WholeRange.{WholeRange}
use Rattle.kinds.specs.declared.whole.WholeSort.TheVariants.{Whole}
use Rattle.kinds.specs.Whole.{inside, fit64, left_of, right_of, cut_left, cut_right, whole_order, whole}
use Rattle.kinds.specs.WholeEnds as W
use Rattle.kinds.specs.WholeLaws.{whole_laws, left_holds, right_holds}
use Rattle.time.specs.declared.TimeSort.{TimeSort}
use Rattle.time.specs.declared.TimeSort.TheVariants.{Stamp, Span, Step}
use Rattle.time.specs.declared.Time.{Time}
use Rattle.time.specs.declared.TimeRange.{TimeRange}
use Rattle.time.specs.declared.TimeLiteral.{TimeLiteral}
use Rattle.time.specs.declared.TimeLiteral.TheVariants as literal
use Rattle.time.specs.Time.{of_sort, range_of, is_time, fits_of, is_span, resulting, applied, negated, forward_of, is_sort, results_in, bounded, at_left, at_right, arm, of_sorts, backward_of, admitted, time_order, time}
use Rattle.time.specs.TimeEnds.{same_self, is_parts, is_from, value_is, sort_parts, sort_from, within_up, within_down, one_up, one_down, inside_up}

-- ---- values

result_parts : (f : Option TimeSort) (n : Option ℤ) (c : Time) → resulting f n ≡ Some c → (f ≡ Some c.sort) × (n ≡ Some c.nanoseconds)
result_parts None n c h = absurd (none-some _ h)
result_parts (Some s) n c h = let p = sort_parts s n c h in (ap Some p.0, p.1)

-- a result's sort is the one that fits, its nanoseconds are the result of the nanoseconds
applied_parts : (op : Arithmetic) (a b c : Time) → applied op a b ≡ Some c → (fits_of op a.sort b.sort ≡ Some c.sort) × (whole.apply op a.nanoseconds b.nanoseconds ≡ Some c.nanoseconds)
applied_parts op a b c h = result_parts (fits_of op a.sort b.sort) (whole.apply op a.nanoseconds b.nanoseconds) c h

fits_at : (op : Arithmetic) (s t : TimeSort) (a b c : Time) → s ≡ a.sort → t ≡ b.sort → applied op a b ≡ Some c → fits_of op s t ≡ Some c.sort
fits_at op s t a b c e f h = ap (λ x. fits_of op x t) e ∙ ap (λ x. fits_of op a.sort x) f ∙ (applied_parts op a b c h).0

applied_is : (op : Arithmetic) (s t : TimeSort) (a b c : Time) → time_order.is s a ≡ true → time_order.is t b ≡ true → applied op a b ≡ Some c → (u : TimeSort) × (fits_of op s t ≡ Some u) × (time_order.is u c ≡ true)
applied_is op s t a b c p q h =
    let i = is_parts s a p in
    let j = is_parts t b q in
    let w = whole_laws.applied op Whole Whole a.nanoseconds b.nanoseconds c.nanoseconds i.1 j.1 (applied_parts op a b c h).1 in
    (c.sort, fits_at op s t a b c i.0 j.0 h, is_from c.sort c refl w.2)

negated_parts : (a b : Time) (t : Bool) → cond t (option_map (of_sort a.sort) (whole.negate a.nanoseconds)) None ≡ Some b → (t ≡ true) × (a.sort ≡ b.sort) × (whole.negate a.nanoseconds ≡ Some b.nanoseconds)
negated_parts a b true h = let p = sort_parts a.sort (whole.negate a.nanoseconds) b h in (refl, p.0, p.1)
negated_parts a b false h = absurd (none-some _ h)

negated_is : (s : TimeSort) (a b : Time) → time_order.is s a ≡ true → negated a ≡ Some b → (is_span s ≡ true) × (time_order.is s b ≡ true) × (negated b ≡ Some a)
negated_is s a b p h =
    let i = is_parts s a p in
    let n = negated_parts a b (is_span a.sort) h in
    let w = whole_laws.negated Whole a.nanoseconds b.nanoseconds i.1 n.2 in
    let spans : is_span b.sort ≡ true = subst (λ t. is_span t ≡ true) n.1 n.0 in (
      subst (λ t. is_span t ≡ true) (sym i.0) n.0,
      is_from s b (i.0 ∙ n.1) w.1,
      ◌∙◌ {b = option_map (of_sort b.sort) (whole.negate b.nanoseconds)} (ap (λ t. cond t (option_map (of_sort b.sort) (whole.negate b.nanoseconds)) None) spans) (sort_from b.sort (whole.negate b.nanoseconds) a (sym n.1) w.2),
    )

-- ---- forward

forward_sort : (op : Arithmetic) (l r : TimeRange) (a b c : Time) → l.sort ≡ a.sort → r.sort ≡ b.sort → applied op a b ≡ Some c → (forward_of op l r).sort ≡ c.sort
forward_sort op l r a b c e f h = ap (λ x. unwrap_or x l.sort) (fits_at op l.sort r.sort a b c e f h)

forward_holds : (op : Arithmetic) (l r : TimeRange) (a b c : Time) → Within time_order l a → Within time_order r b → applied op a b ≡ Some c → Within time_order (forward_of op l r) c
forward_holds op l r a b c wa wb h =
    let p = within_down l a wa in
    let q = within_down r b wb in
    within_up (forward_of op l r) c (forward_sort op l r a b c p.0 q.0 h)
    ((whole_laws.forward op l.nanoseconds r.nanoseconds).every (a.nanoseconds ∷ b.nanoseconds ∷ []) c.nanoseconds (p.1, (q.1, tt)) (applied_parts op a b c h).1)

forward_one : (op : Arithmetic) (l r : TimeRange) (a b c : Time) → One time_order l a → One time_order r b → applied op a b ≡ Some c → One time_order (forward_of op l r) c
forward_one op l r a b c wa wb h =
    let p = one_down l a wa in
    let q = one_down r b wb in
    one_up (forward_of op l r) c (forward_sort op l r a b c p.0 q.0 h)
    ((whole_laws.forward op l.nanoseconds r.nanoseconds).single (a.nanoseconds ∷ b.nanoseconds ∷ []) c.nanoseconds (p.1, (q.1, tt)) (applied_parts op a b c h).1)

negate_holds : (r : TimeRange) (a b : Time) → Within time_order r a → negated a ≡ Some b → Within time_order (time.arithmetic_negate r) b
negate_holds r a b wa h =
    let p = within_down r a wa in
    let n = negated_parts a b (is_span a.sort) h in
    within_up (time.arithmetic_negate r) b (p.0 ∙ n.1) ((whole_laws.negate r.nanoseconds).every (a.nanoseconds ∷ []) b.nanoseconds (p.1, tt) n.2)

negate_one : (r : TimeRange) (a b : Time) → One time_order r a → negated a ≡ Some b → One time_order (time.arithmetic_negate r) b
negate_one r a b wa h =
    let p = one_down r a wa in
    let n = negated_parts a b (is_span a.sort) h in
    one_up (time.arithmetic_negate r) b (p.0 ∙ n.1) ((whole_laws.negate r.nanoseconds).single (a.nanoseconds ∷ []) b.nanoseconds (p.1, tt) n.2)

-- ---- backward, on nanoseconds

abbrev CutInside : Option WholeRange → WholeRange → Type 0
CutInside None x = Unit {0}
CutInside (Some c) x = Inside whole_order c x

abbrev CutKeeps : Option WholeRange → ℤ → Type 0
CutKeeps None n = ⊥
CutKeeps (Some c) n = Within whole_order c n

abbrev WholePairInside : Option (WholeRange × WholeRange) → WholeRange → WholeRange → Type 0
WholePairInside = PairInside (Within whole_order) (Inside whole_order)

abbrev WholePairKeeps : Option (WholeRange × WholeRange) → ℤ → ℤ → Type 0
WholePairKeeps = Keeps (Within whole_order) (Inside whole_order)

zipped_inside : (m n : Option WholeRange) (l r : WholeRange) → CutInside m l → CutInside n r → WholePairInside (option_zip m n) l r
zipped_inside None n l r h k = tt
zipped_inside (Some a) None l r h k = tt
zipped_inside (Some a) (Some b) l r h k = (h, k)

zipped_keeps : (m n : Option WholeRange) (x y : ℤ) → CutKeeps m x → CutKeeps n y → WholePairKeeps (option_zip m n) x y
zipped_keeps None n x y h k = h
zipped_keeps (Some a) None x y h k = k
zipped_keeps (Some a) (Some b) x y h k = (h, k)

self_inside : (r : WholeRange) → Inside whole_order r r
self_inside r = record { sorts = refl; holds = λ v w. w }

meet_inside : (a b : WholeRange) → CutInside (meet whole_order a b) b
meet_inside a b = by_meet (meet whole_order a b) refl
  where
    by_meet : (m : Option WholeRange) → meet whole_order a b ≡ m → CutInside m b
    by_meet None e = tt
    by_meet (Some c) e = meet_right W.order_laws a b c e

meet_holds : (a b : WholeRange) (n : ℤ) → Within whole_order a n → Within whole_order b n → CutKeeps (meet whole_order a b) n
meet_holds a b n wa wb = let k = meet_keeps W.order_laws a b n wa wb in subst (λ m. CutKeeps m n) (sym k.1) k.2

module _ (op : Arithmetic) (p l r : WholeRange) where
  last_inside : WholePairInside (whole.backward op p l r) l r
  last_inside = pair_inside (Within whole_order) (Inside whole_order) l r (Yields (Within whole_order) (of_two (whole.apply op)) p) (whole.backward op p l r) (whole_laws.backward op p l r)

  left_inside : WholePairInside (at_left op p l r) l r
  left_inside = elim (bounded l) as (λ t. WholePairInside (cond t (whole.backward op p l r) (option_zip (Some l) (cut_right op p l r))) l r) [
    | true ↦ last_inside
    | false ↦ zipped_inside (Some l) (cut_right op p l r) l r (self_inside l) (meet_inside (right_of op p l) r)
  ]

  right_inside : WholePairInside (at_right op p l r) l r
  right_inside = elim (bounded r) as (λ t. WholePairInside (cond t (option_zip (cut_left op p l r) (cut_right op p l r)) (option_zip (cut_left op p l r) (Some r))) l r) [
    | true ↦ zipped_inside (cut_left op p l r) (cut_right op p l r) l r (meet_inside (left_of op p r) l) (meet_inside (right_of op p l) r)
    | false ↦ zipped_inside (cut_left op p l r) (Some r) l r (meet_inside (left_of op p r) l) (self_inside r)
  ]

  arm_inside : (s t : TimeSort) → WholePairInside (arm s t op p l r) l r
  arm_inside Stamp Stamp = last_inside
  arm_inside Stamp Span = last_inside
  arm_inside Stamp Step = right_inside
  arm_inside Span Stamp = last_inside
  arm_inside Span Span = last_inside
  arm_inside Span Step = last_inside
  arm_inside Step Stamp = left_inside
  arm_inside Step Span = last_inside
  arm_inside Step Step = last_inside

  module _ (x y z : ℤ) (wl : Within whole_order l x) (wr : Within whole_order r y) (h : whole.apply op x y ≡ Some z) (wp : Within whole_order p z) where
    last_keeps : WholePairKeeps (whole.backward op p l r) x y
    last_keeps = pair_keeps (Within whole_order) (Inside whole_order) l r (Yields (Within whole_order) (of_two (whole.apply op)) p) (whole.backward op p l r) (whole_laws.backward op p l r) x y wl wr (z, h, wp)

    left_kept : CutKeeps (cut_left op p l r) x
    left_kept = meet_holds (left_of op p r) l x (left_holds op p r x y z wl.of wp wr h) wl

    right_kept : CutKeeps (cut_right op p l r) y
    right_kept = meet_holds (right_of op p l) r y (right_holds op p l x y z wr.of wp wl h) wr

    left_keeps : WholePairKeeps (at_left op p l r) x y
    left_keeps = elim (bounded l) as (λ t. WholePairKeeps (cond t (whole.backward op p l r) (option_zip (Some l) (cut_right op p l r))) x y) [
      | true ↦ last_keeps
      | false ↦ zipped_keeps (Some l) (cut_right op p l r) x y wl right_kept
    ]

    right_keeps : WholePairKeeps (at_right op p l r) x y
    right_keeps = elim (bounded r) as (λ t. WholePairKeeps (cond t (option_zip (cut_left op p l r) (cut_right op p l r)) (option_zip (cut_left op p l r) (Some r))) x y) [
      | true ↦ zipped_keeps (cut_left op p l r) (cut_right op p l r) x y left_kept right_kept
      | false ↦ zipped_keeps (cut_left op p l r) (Some r) x y left_kept wr
    ]

    arm_keeps : (s t : TimeSort) → WholePairKeeps (arm s t op p l r) x y
    arm_keeps Stamp Stamp = last_keeps
    arm_keeps Stamp Span = last_keeps
    arm_keeps Stamp Step = right_keeps
    arm_keeps Span Stamp = last_keeps
    arm_keeps Span Span = last_keeps
    arm_keeps Span Step = last_keeps
    arm_keeps Step Stamp = left_keeps
    arm_keeps Step Span = last_keeps
    arm_keeps Step Step = last_keeps

-- ---- backward, with sorts

sorts_inside : (s t : TimeSort) (m : Option (WholeRange × WholeRange)) (l r : WholeRange) → WholePairInside m l r → PairInside (Within time_order) (Inside time_order) (option_map (of_sorts s t) m) (range_of s l) (range_of t r)
sorts_inside s t None l r h = tt
sorts_inside s t (Some q) l r h = (inside_up s q.0 l h.0, inside_up t q.1 r h.1)

sorts_keep : (s t : TimeSort) (m : Option (WholeRange × WholeRange)) (a b : Time) → s ≡ a.sort → t ≡ b.sort → WholePairKeeps m a.nanoseconds b.nanoseconds → Keeps (Within time_order) (Inside time_order) (option_map (of_sorts s t) m) a b
sorts_keep s t None a b e f h = h
sorts_keep s t (Some q) a b e f h = (within_up (range_of s q.0) a e h.0, within_up (range_of t q.1) b f h.1)

backward_inside : (op : Arithmetic) (p l r : TimeRange) → PairInside (Within time_order) (Inside time_order) (backward_of op p l r) l r
backward_inside op p l r =
    let cut = arm l.sort r.sort op p.nanoseconds l.nanoseconds r.nanoseconds in
    elim (results_in op l.sort r.sort p.sort) as (λ t. PairInside (Within time_order) (Inside time_order) (cond t (option_map (of_sorts l.sort r.sort) cut) None) l r) [
      | true ↦ sorts_inside l.sort r.sort cut l.nanoseconds r.nanoseconds (arm_inside op p.nanoseconds l.nanoseconds r.nanoseconds l.sort r.sort)
      | false ↦ tt
    ]

backward_keeps : (op : Arithmetic) (p l r : TimeRange) (a b c : Time) → Within time_order l a → Within time_order r b → applied op a b ≡ Some c → Within time_order p c → Keeps (Within time_order) (Inside time_order) (backward_of op p l r) a b
backward_keeps op p l r a b c wa wb h wc =
    let i = within_down l a wa in
    let j = within_down r b wb in
    let k = within_down p c wc in
    let cut = arm l.sort r.sort op p.nanoseconds l.nanoseconds r.nanoseconds in
    let fits : fits_of op l.sort r.sort ≡ Some p.sort = fits_at op l.sort r.sort a b c i.0 j.0 h ∙ ap Some (sym k.0) in
    let results : results_in op l.sort r.sort p.sort ≡ true = ap (λ f. is_sort f p.sort) fits ∙ same_self p.sort in
    subst (λ t. Keeps (Within time_order) (Inside time_order) (cond t (option_map (of_sorts l.sort r.sort) cut) None) a b) (sym results)
    (sorts_keep l.sort r.sort cut a b i.0 j.0
    (arm_keeps op p.nanoseconds l.nanoseconds r.nanoseconds a.nanoseconds b.nanoseconds c.nanoseconds i.1 j.1 (applied_parts op a b c h).1 k.1 l.sort r.sort))

-- ---- the other questions

-- the next value in an order of the nanoseconds
next_up : (leq : ℤ → ℤ → Bool) (s : TimeSort) (a : Time) (n : Option ℤ) → s ≡ a.sort → NextBy inside leq a.nanoseconds n → NextBy (is_time s) (λ v w. leq v.nanoseconds w.nanoseconds) a (option_map (of_sort a.sort) n)
next_up leq s a None e h = λ b p. h b.nanoseconds (is_parts s b p).1
next_up leq s a (Some c) e h = (is_from s (of_sort a.sort c) e h.0, h.1, λ b p k. h.2 b.nanoseconds (is_parts s b p).1 k)

numbered_up : (r : TimeRange) (n : ℕ) → Numbered whole_order r.nanoseconds n → Numbered time_order r n
numbered_up r n w = record {
  at = λ k. of_sort r.sort (w.at k);
  held = λ k h. within_up r (of_sort r.sort (w.at k)) refl (w.held k h);
  rises = w.rises;
  all = λ v h.
      let p = within_down r v h in
      let k = w.all v.nanoseconds p.1 in
      (k.0, k.1, value_is r.sort (w.at k.0) v p.0 k.2);
}

some_up : (s : TimeSort) (e : Option ℤ) → is_some e ≡ true → is_some (option_map (of_sort s) e) ≡ true
some_up s None h = h
some_up s (Some n) h = refl

counted_up : (r : TimeRange) (n : Option ℕ) → Counted whole_order r.nanoseconds n → Counted time_order r n
counted_up r None (inl e) = inl (ap (option_map (of_sort r.sort)) e)
counted_up r None (inr (inl e)) = inr (inl (ap (option_map (of_sort r.sort)) e))
counted_up r None (inr (inr c)) = inr (inr (c.0, numbered_up r c.0 c.1, c.2))
counted_up r (Some n) c = (numbered_up r n c.0, c.1, some_up r.sort (whole_order.lower r.nanoseconds) c.2, some_up r.sort (whole_order.upper r.nanoseconds) c.3)

admitted_fits : (s : TimeSort) (n : ℤ) (v : Time) → option_map (of_sort s) (fit64 n) ≡ Some v → (t : TimeSort) × (time_order.is t v ≡ true)
admitted_fits s n v h = let w = whole_laws.admits n v.nanoseconds (sort_parts s (fit64 n) v h).1 in (v.sort, is_from v.sort v refl w.1)

admitted_is : (l : TimeLiteral) (v : Time) → admitted l ≡ Some v → (t : TimeSort) × (time_order.is t v ≡ true)
admitted_is (literal.Stamp n) v h = admitted_fits Stamp n v h
admitted_is (literal.Span n) v h = admitted_fits Span n v h
admitted_is (literal.Step m d n) v h = by_zero _ h
  where
    by_zero : (t : Bool) → cond t (option_map (of_sort Step) (fit64 n)) None ≡ Some v → (u : TimeSort) × (time_order.is u v ≡ true)
    by_zero true k = admitted_fits Step n v k
    by_zero false k = absurd (none-some _ k)

pub time_laws : Laws time_order time
time_laws = record {
  applied = applied_is;
  negated = negated_is;
  forward_sort = λ op l r s e. ap (λ x. unwrap_or x l.sort) e;
  forward = λ op l r. covers_two (applied op) l r (forward_of op l r) (forward_holds op l r) (forward_one op l r);
  negate_sort = λ r e. refl;
  negate = λ r. covers_one negated r (time.arithmetic_negate r) (negate_holds r) (negate_one r);
  backward = λ op p l r. narrows_two (Within time_order) (Inside time_order) l r (Yields (Within time_order) (of_two (applied op)) p) (backward_of op p l r) (backward_inside op p l r) (λ a b wa wb h. backward_keeps op p l r a b h.0 wa wb h.1 h.2);
  nexts = λ s a p. let i = is_parts s a p in next_up int_le s a (whole.next a.nanoseconds) i.0 (whole_laws.nexts Whole a.nanoseconds i.1);
  previouses = λ s a p. let i = is_parts s a p in next_up (λ m n. int_le n m) s a (whole.previous a.nanoseconds) i.0 (whole_laws.previouses Whole a.nanoseconds i.1);
  counts = λ r. counted_up r (whole.count r.nanoseconds) (whole_laws.counts r.nanoseconds);
  admits = admitted_is;
}
