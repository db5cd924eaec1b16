-- What the laws of a kind give where its values, ranges and sorts are among those of another. Assumes nothing.
use Rattle.std.specs.Prelude.{◌≡◌, ℕ, Bool, true, false, [], ◌∷◌, is_some as option_is_some, Some, None, Option, ◌≢◌, refl}
use Rattle.std.proofs.Common.{sym, ◌∙◌, ap, ap₂, subst, inl, inr}
use Rattle.std.specs.Option.{option_map}
use Rattle.std.proofs.lemmas.Bool.{both_ways}
use Rattle.interval_arithmetic.specs.Model.{Order}
use Rattle.interval_arithmetic.specs.Ends.{Above, Below, Within, One, Inside, end_is, fair}
use Rattle.interval_arithmetic.specs.Laws.{OrderLaws, Made, NextBy, Numbered, Counted}
use Rattle.interval_arithmetic.specs.Sound.{of_one, of_two, both, Covers, Yields, Narrows}
use Rattle.std.proofs.lemmas.Option.{none-some, same_Some}
use Rattle.interval_arithmetic.proofs.Meets.{fair_parts}
use Rattle.interval_arithmetic.proofs.Pairs.{Keeps, PairInside, covers_one, covers_two, narrows_two, pair_inside, pair_keeps}
use Rattle.joined.specs.Join.{pair, with_ends}

-- y is f of something of which p holds
pub record From {A B : Type 0} (f : A → B) (p : A → Type 0) (y : B) : Type 0 where
  pub it : A
  pub gives : f it ≡ y
  pub has : p it

-- an answer that came through `mapped`
pub was : {A B : Type 0} (f : A → B) (e : Option A) (y : B) → option_map f e ≡ Some y → From f (λ x. e ≡ Some x) y
was f None y h = absurd (none-some _ h)
was f (Some x) y h = record { it = x; gives = same_Some _ _ h; has = refl }

-- an end of j, as one of o if it is some; if not, it is of no sort of o
abbrev pub EndIs : {V V' S : Type 0} → (V → V') → (S → V' → Bool) → Option V' → Option (Option V) → Type 0
EndIs {S = S} value is e None = (s : S) → end_is (is s) e ≡ false
EndIs value is e (Some x) = option_map value x ≡ e

-- the values, ranges and sorts of o are among those of j, with the same order and ends
pub record Side {V R S V' R' S' : Type 0} (o : Order V R S) (j : Order V' R' S') : Type 0 where
  pub value : V → V'
  pub range : R → R'
  pub sort : S → S'
  -- an end as one of o, if it is one
  pub end : Option V' → Option (Option V)
  pub injective : (a b : V) → value a ≡ value b → a ≡ b
  pub is : (s : S) (v : V) → j.is (sort s) (value v) ≡ o.is s v
  -- what is of a sort of o is a value of o
  pub own : (s : S) (v : V') → j.is (sort s) v ≡ true → From value (λ x. o.is s x ≡ true) v
  pub sort_of : (v : V) → j.sort_of (value v) ≡ sort (o.sort_of v)
  pub leq : (a b : V) → j.leq (value a) (value b) ≡ o.leq a b
  pub sorts : (r : R) → j.sort (range r) ≡ sort (o.sort r)
  pub lower : (r : R) → j.lower (range r) ≡ option_map value (o.lower r)
  pub upper : (r : R) → j.upper (range r) ≡ option_map value (o.upper r)
  pub make : (s : S) (l u : Option V') → j.make (sort s) l u ≡ option_map range (with_ends (o.make s) (end l) (end u))
  pub ends : (e : Option V') → EndIs value (λ s. j.is (sort s)) e (end e)

-- the laws of an order for one sort
pub record SortLaws {V R S : Type 0} (o : Order V R S) (s : S) : Type 0 where
  pub sorted : (v : V) → o.is s v ≡ true → o.sort_of v ≡ s
  pub total : (a b : V) → o.is s a ≡ true → o.is s b ≡ true → o.leq a b ≡ false → o.leq b a ≡ true
  pub reflexive : (a : V) → o.is s a ≡ true → o.leq a a ≡ true
  pub antisymmetric : (a b : V) → o.is s a ≡ true → o.is s b ≡ true → o.leq a b ≡ true → o.leq b a ≡ true → a ≡ b
  pub transitive : (a b c : V) → o.is s a ≡ true → o.is s b ≡ true → o.is s c ≡ true → o.leq a b ≡ true → o.leq b c ≡ true → o.leq a c ≡ true
  pub makes : (l u : Option V) → fair (o.is s) o.leq l u ≡ true → (r : R) × Made o s l u r
  pub refuses : (l u : Option V) → fair (o.is s) o.leq l u ≡ false → o.make s l u ≡ None

module _ {V R S V' R' S' : Type 0} {o : Order V R S} {j : Order V' R' S'} (e : Side o j) where
  open e use {value, range, sort, end, injective, is, own, sort_of, leq, sorts, lower, upper, make, ends}

  -- ---- the order

  -- values of j that are values of o
  leq_of : {p q : V → Type 0} {a b : V'} (x : From value p a) (y : From value q b) → j.leq a b ≡ o.leq x.it y.it
  leq_of x y = sym (ap₂ j.leq x.gives y.gives) ∙ leq x.it y.it

  fair_same : (s : S) (l u : Option V) → fair (j.is (sort s)) j.leq (option_map value l) (option_map value u) ≡ fair (o.is s) o.leq l u
  fair_same s None None = refl
  fair_same s None (Some b) = rw is
  fair_same s (Some a) None = rw is
  fair_same s (Some a) (Some b) = simp (is, leq)

  pub ends_fair : OrderLaws o → (r : R) → fair (j.is (j.sort (range r))) j.leq (j.lower (range r)) (j.upper (range r)) ≡ true
  ends_fair laws r = rw (sorts, lower, upper) (fair_same (o.sort r) (o.lower r) (o.upper r) ∙ laws.ends r)

  module _ (laws : OrderLaws o) (s : S) where
    abbrev Is : Option V' → Option (Option V) → Type 0
    Is = EndIs value (λ t. j.is (sort t))

    made : (l u : Option V') (x y : Option (Option V)) → j.make (sort s) l u ≡ option_map range (with_ends (o.make s) x y) → Is l x → Is u y → fair (j.is (sort s)) j.leq l u ≡ true → (r : R') × Made j (sort s) l u r
    made l u None y e i k h = absurd (both_ways _ (i s) (fair_parts (j.is (sort s)) j.leq l u h).0)
    made l u (Some x) None e i k h = absurd (both_ways _ (k s) (fair_parts (j.is (sort s)) j.leq l u h).1)
    made l u (Some x) (Some y) e i k h = (range m.0, record { made = e ∙ ap (option_map range) m.1.made; sorts = sorts _ ∙ ap sort m.1.sorts; low = lower _ ∙ ap (option_map value) m.1.low ∙ i; high = upper _ ∙ ap (option_map value) m.1.high ∙ k })
      where
        m : (r : R) × Made o s x y r
        m = laws.makes s x y (sym (fair_same s x y) ∙ rw (i, k) h)

    refused : (l u : Option V') (x y : Option (Option V)) → Is l x → Is u y → fair (j.is (sort s)) j.leq l u ≡ false → with_ends (o.make s) x y ≡ None
    refused l u None y i k h = refl
    refused l u (Some x) None i k h = refl
    refused l u (Some x) (Some y) i k h = laws.refuses s x y (sym (fair_same s x y) ∙ rw (i, k) h)

    pub sort_laws : SortLaws j (sort s)
    sort_laws = record {
      sorted = λ v p. let x = own s v p in ap j.sort_of (sym x.gives) ∙ sort_of x.it ∙ ap sort (laws.sorted s x.it x.has);
      total = λ a b p q h. let x = own s a p in let y = own s b q in leq_of y x ∙ laws.total s x.it y.it x.has y.has (sym (leq_of x y) ∙ h);
      reflexive = λ a p. let x = own s a p in leq_of x x ∙ laws.reflexive s x.it x.has;
      antisymmetric = λ a b p q h k.
          let x = own s a p in
          let y = own s b q in
          sym x.gives ∙ ap value (laws.antisymmetric s x.it y.it x.has y.has (sym (leq_of x y) ∙ h) (sym (leq_of y x) ∙ k)) ∙ y.gives;
      transitive = λ a b c p q r h k.
          let x = own s a p in
          let y = own s b q in
          let z = own s c r in
          leq_of x z ∙ laws.transitive s x.it y.it z.it x.has y.has z.has (sym (leq_of x y) ∙ h) (sym (leq_of y z) ∙ k);
      makes = λ l u h. made l u (end l) (end u) (make s l u) (ends l) (ends u) h;
      refuses = λ l u h. make s l u ∙ ap (option_map range) (refused l u (end l) (end u) (ends l) (ends u) h);
    }

  -- ---- what a range holds

  -- a relation of o holds of the same things of j, and of no others
  record Carried (h : R → V → Type 0) (h' : R' → V' → Type 0) : Type 0 where
    pub to : (r : R) (v : V) → h r v → h' (range r) (value v)
    pub from : (r : R) (v : V') → h' (range r) v → From value (h r) v

  above : (l : Option V) (v : V) → Above j (option_map value l) (value v) ≡ Above o l v
  above None v = refl
  above (Some a) v = rw leq

  below : (u : Option V) (v : V) → Below j (option_map value u) (value v) ≡ Below o u v
  below None v = refl
  below (Some b) v = rw leq

  within : Carried (Within o) (Within j)
  within = record {
    to = λ r v w. record { of = rw (sorts, is) w.of; above = rw (lower r, above (o.lower r) v) w.above; below = rw (upper r, below (o.upper r) v) w.below };
    from = λ r v w.
        let x = own (o.sort r) v (rw sorts at w.of) in
        let i : Above o (o.lower r) x.it = rw (← above (o.lower r) x.it, ← lower r, x.gives) w.above in
        let k : Below o (o.upper r) x.it = rw (← below (o.upper r) x.it, ← upper r, x.gives) w.below in
        record { it = x.it; gives = x.gives; has = record { of = x.has; above = i; below = k } };
  }

  ones : Carried (One o) (One j)
  ones = record {
    to = λ r v w. record { from = lower r ∙ ap (option_map value) w.from; to = upper r ∙ ap (option_map value) w.to };
    from = λ r v w.
        let x = was value (o.lower r) v (sym (lower r) ∙ w.from) in
        let y = was value (o.upper r) v (sym (upper r) ∙ w.to) in
        record { it = x.it; gives = x.gives; has = record { from = x.has; to = y.has ∙ ap Some (injective _ _ (y.gives ∙ sym x.gives)) } };
  }

  inside : (a b : R) → Inside o a b → Inside j (range a) (range b)
  inside a b i = record {
    sorts = sorts a ∙ ap sort i.sorts ∙ sym (sorts b);
    holds = λ v w. let x = within.from a v w in rw (← x.gives) (within.to b x.it (i.holds x.it x.has));
  }

  numbered : (r : R) (n : ℕ) → Numbered o r n → Numbered j (range r) n
  numbered r n h = record {
    at = λ k. value (h.at k);
    held = λ k i. within.to r (h.at k) (h.held k i);
    rises = λ i k p q. leq (h.at k) (h.at i) ∙ h.rises i k p q;
    all = λ v w.
        let x = within.from r v w in
        let k = h.all x.it x.has in
        (k.0, k.1, ap value k.2 ∙ x.gives);
  }

  is_some : (e : Option V) → option_is_some (option_map value e) ≡ option_is_some e
  is_some None = refl
  is_some (Some x) = refl

  pub counted_in : (r : R) (n : Option ℕ) → Counted o r n → Counted j (range r) n
  counted_in r None (inl h) = inl (lower r ∙ ap (option_map value) h)
  counted_in r None (inr (inl h)) = inr (inl (upper r ∙ ap (option_map value) h))
  counted_in r None (inr (inr h)) = inr (inr (h.0, numbered r h.0 h.1, h.2))
  counted_in r (Some n) h = (numbered r n h.0, h.1, rw (lower, is_some) h.2, rw (upper, is_some) h.3)

  -- ---- f on one value of o, as F on one of j

  module _ (f : V → Option V) (F : V' → Option V') (same : (a : V) → F (value a) ≡ option_map value (f a)) where
    result : {p : V → Type 0} {a : V'} (x : From value p a) (b : V') → F a ≡ Some b → From value (λ y. f x.it ≡ Some y) b
    result x b e = was value (f x.it) b (sym (same x.it) ∙ ap F x.gives ∙ e)

    pub covers_one_in : (r q : R) → Covers (Within o) (One o) (of_one f) (r ∷ []) q → Covers (Within j) (One j) (of_one F) (range r ∷ []) (range q)
    covers_one_in r q c = covers_one F (range r) (range q) (carried within (λ a b h. c.every (a ∷ []) b (h, tt))) (carried ones (λ a b h. c.single (a ∷ []) b (h, tt)))
      where
        carried : {h : R → V → Type 0} {h' : R' → V' → Type 0} → Carried h h' → ((a b : V) → h r a → f a ≡ Some b → h q b) → (a b : V') → h' (range r) a → F a ≡ Some b → h' (range q) b
        carried k g a b p e =
            let x = k.from r a p in
            let y = result x b e in
            rw (← y.gives) (k.to q y.it (g x.it y.it x.has y.has))

    module _ (s : S) where
      pub negated_in : {T : Type 0} → ((a b : V) → o.is s a ≡ true → f a ≡ Some b → T × (o.is s b ≡ true) × (f b ≡ Some a)) → (a b : V') → j.is (sort s) a ≡ true → F a ≡ Some b → T × (j.is (sort s) b ≡ true) × (F b ≡ Some a)
      negated_in h a b p e =
          let x = own s a p in
          let y = result x b e in
          let k = h x.it y.it x.has y.has in
          (k.0, rw (← y.gives, is) k.1, rw (← y.gives, same, k.2, x.gives) refl)

      -- the next value, in orders that are the same on the values of o
      pub next_in : (leq : V → V → Bool) (leq' : V' → V' → Bool) → ((a b : V) → leq' (value a) (value b) ≡ leq a b) → ((a : V) → o.is s a ≡ true → NextBy (o.is s) leq a (f a)) → (a : V') → j.is (sort s) a ≡ true → NextBy (j.is (sort s)) leq' a (F a)
      next_in leq leq' leq_same h a i = let x = own s a i in rw (← x.gives, same) (go x.it (f x.it) (h x.it x.has))
        where
          go : (a : V) (n : Option V) → NextBy (o.is s) leq a n → NextBy (j.is (sort s)) leq' (value a) (option_map value n)
          go a None h = λ b i. let y = own s b i in rw (← y.gives, leq_same) (h y.it y.has)
          go a (Some c) h = (is s c ∙ h.0, leq_same c a ∙ h.1, λ b i k. let y = own s b i in rw (← y.gives, leq_same) (h.2 y.it y.has (sym (leq_same y.it a) ∙ rw y.gives k)))

  -- ---- f on two values of o, as F on two of j

  module _ (f : V → V → Option V) (F : V' → V' → Option V') (same : (a b : V) → F (value a) (value b) ≡ option_map value (f a b)) where
    result_two : {p q : V → Type 0} {a b : V'} (x : From value p a) (y : From value q b) (c : V') → F a b ≡ Some c → From value (λ z. f x.it y.it ≡ Some z) c
    result_two x y c e = was value (f x.it y.it) c (sym (same x.it y.it) ∙ ap₂ F x.gives y.gives ∙ e)

    pub applied_in : (s t : S) (u : Option S) → ((a b c : V) → o.is s a ≡ true → o.is t b ≡ true → f a b ≡ Some c → (w : S) × (u ≡ Some w) × (o.is w c ≡ true)) → (a b c : V') → j.is (sort s) a ≡ true → j.is (sort t) b ≡ true → F a b ≡ Some c → (w : S') × (option_map sort u ≡ Some w) × (j.is w c ≡ true)
    applied_in s t u h a b c p q e =
        let x = own s a p in
        let y = own t b q in
        let z = result_two x y c e in
        let k = h x.it y.it z.it x.has y.has z.has in
        (sort k.0, ap (option_map sort) k.1, subst (λ v. j.is (sort k.0) v ≡ true) z.gives (is k.0 z.it ∙ k.2))

    pub covers_two_in : (l r q : R) → Covers (Within o) (One o) (of_two f) (l ∷ r ∷ []) q → Covers (Within j) (One j) (of_two F) (range l ∷ range r ∷ []) (range q)
    covers_two_in l r q c = covers_two F (range l) (range r) (range q) (carried within (λ a b d h k. c.every (a ∷ b ∷ []) d (h, (k, tt)))) (carried ones (λ a b d h k. c.single (a ∷ b ∷ []) d (h, (k, tt))))
      where
        carried : {h : R → V → Type 0} {h' : R' → V' → Type 0} → Carried h h' → ((a b c : V) → h l a → h r b → f a b ≡ Some c → h q c) → (a b c : V') → h' (range l) a → h' (range r) b → F a b ≡ Some c → h' (range q) c
        carried k g a b c p i e =
            let x = k.from l a p in
            let y = k.from r b i in
            let z = result_two x y c e in
            rw (← z.gives) (k.to q z.it (g x.it y.it z.it x.has y.has z.has))

    pub narrows_in : (p l r : R) (m : Option (R × R)) → Narrows (Within o) (Inside o) (Yields (Within o) (of_two f) p) (l ∷ r ∷ []) (option_map both m) → Narrows (Within j) (Inside j) (Yields (Within j) (of_two F) (range p)) (range l ∷ range r ∷ []) (option_map both (option_map (pair range) m))
    narrows_in p l r m n =
        narrows_two (Within j) (Inside j) (range l) (range r) _ (option_map (pair range) m) (insides m (pair_inside (Within o) (Inside o) l r _ m n))
        (λ a b i k w.
        let x = within.from l a i in
        let y = within.from r b k in
        let z = result_two x y w.0 w.1 in
        let t = within.from p w.0 w.2 in
        keeps m x y (pair_keeps (Within o) (Inside o) l r _ m n x.it y.it x.has y.has (z.it, z.has, subst (Within o p) (injective _ _ (t.gives ∙ sym z.gives)) t.has)))
      where
        insides : (m : Option (R × R)) → PairInside (Within o) (Inside o) m l r → PairInside (Within j) (Inside j) (option_map (pair range) m) (range l) (range r)
        insides None i = tt
        insides (Some q) i = (inside q.0 l i.0, inside q.1 r i.1)

        keeps : {h k : V → Type 0} {a b : V'} (m : Option (R × R)) (x : From value h a) (y : From value k b) → Keeps (Within o) (Inside o) m x.it y.it → Keeps (Within j) (Inside j) (option_map (pair range) m) a b
        keeps None x y w = w
        keeps (Some q) x y w = (rw (← x.gives) (within.to q.0 x.it w.0), rw (← y.gives) (within.to q.1 y.it w.1))

-- ---- two kinds among the values, ranges and sorts of one

module _ {V R S W Q T V' R' S' : Type 0} {o : Order V R S} {o₂ : Order W Q T} {j : Order V' R' S'} (e : Side o j) (d : Side o₂ j) (F : V' → V' → Option V') where
  -- values of the two have no result
  module _ (none : (a : V) (b : W) → F (e.value a) (d.value b) ≡ None) where
    no_result : {p : V → Type 0} {q : W → Type 0} {a b c : V'} → From e.value p a → From d.value q b → F a b ≢ Some c
    no_result x y h = none-some _ (sym (none x.it y.it) ∙ ap₂ F x.gives y.gives ∙ h)

    pub applied_across : (s : S) (t : T) (a b c : V') → j.is (e.sort s) a ≡ true → j.is (d.sort t) b ≡ true → F a b ≢ Some c
    applied_across s t a b c p q = no_result (e.own s a p) (d.own t b q)

    pub covers_across : (l : R) (r : Q) (q : R') → Covers (Within j) (One j) (of_two F) (e.range l ∷ d.range r ∷ []) q
    covers_across l r q =
        covers_two F (e.range l) (d.range r) q (λ a b c p i h. absurd (no_result ((within e).from l a p) ((within d).from r b i) h))
        (λ a b c p i h. absurd (no_result ((ones e).from l a p) ((ones d).from r b i) h))

    pub narrows_across : (p : R') (l : R) (r : Q) → Narrows (Within j) (Inside j) (Yields (Within j) (of_two F) p) (e.range l ∷ d.range r ∷ []) None
    narrows_across p l r = narrows_two (Within j) (Inside j) (e.range l) (d.range r) _ None tt (λ a b i k w. no_result ((within e).from l a i) ((within d).from r b k) w.1)

  -- values of one have no result in a range of the other
  pub narrows_other : (f : V → V → Option V) → ((a b : V) → F (e.value a) (e.value b) ≡ option_map e.value (f a b)) → ((a : V) (b : W) → e.value a ≢ d.value b) → (p : Q) (l r : R) → Narrows (Within j) (Inside j) (Yields (Within j) (of_two F) (d.range p)) (e.range l ∷ e.range r ∷ []) None
  narrows_other f same apart p l r =
      narrows_two (Within j) (Inside j) (e.range l) (e.range r) _ None tt
      (λ a b i k w.
      let z = result_two e f F same ((within e).from l a i) ((within e).from r b k) w.0 w.1 in
      let t = (within d).from p w.0 w.2 in
      apart z.it t.it (z.gives ∙ sym t.gives))
