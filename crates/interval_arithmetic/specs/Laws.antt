-- What every kind keeps. Assumes nothing.
use Rattle.std.specs.Prelude.{◌≡◌, Bool, ℕ, ◌^◌, ◌<◌, ◌≤◌, true, false, ◌⊎◌, [], ◌∷◌, is_some, Some, None, Option}
use Rattle.std.specs.Option.{option_map}
use Rattle.interval_arithmetic.specs.declared.kind.Arithmetic.{Arithmetic}
use Rattle.interval_arithmetic.specs.Model.{Order, Operations}
use Rattle.interval_arithmetic.specs.Ends.{Within, One, Inside, fair}
use Rattle.interval_arithmetic.specs.Sound.{of_one, of_two, both, Covers, Yields, Narrows}

-- of the values of which `is` holds the first past a, in the order leq; none only if none is past a
abbrev pub NextBy : {V : Type 0} → (V → Bool) → (V → V → Bool) → V → Option V → Type 0
NextBy {V = V} is leq a None = (b : V) → is b ≡ true → leq b a ≡ true
NextBy {V = V} is leq a (Some c) = (is c ≡ true) × (leq c a ≡ false) × ((b : V) → is b ≡ true → leq b a ≡ false → leq c b ≡ true)

module _ {V R S : Type 0} (o : Order V R S) where
  -- the range that was made has the sort and the ends asked for
  pub record Made (s : S) (l u : Option V) (r : R) : Type 0 where
    pub made : o.make s l u ≡ Some r
    pub sorts : o.sort r ≡ s
    pub low : o.lower r ≡ l
    pub high : o.upper r ≡ u

  pub record OrderLaws : Type 0 where
    -- the test of sorts is equality
    pub same_is : (s t : S) → o.same s t ≡ true → s ≡ t
    pub same_self : (s : S) → o.same s s ≡ true
    -- a value is of one sort
    pub sorted : (s : S) (v : V) → o.is s v ≡ true → o.sort_of v ≡ s
    -- the values of a sort are in a total order
    pub total : (s : S) (a b : V) → o.is s a ≡ true → o.is s b ≡ true → o.leq a b ≡ false → o.leq b a ≡ true
    pub reflexive : (s : S) (a : V) → o.is s a ≡ true → o.leq a a ≡ true
    pub antisymmetric : (s : S) (a b : V) → o.is s a ≡ true → o.is s b ≡ true → o.leq a b ≡ true → o.leq b a ≡ true → a ≡ b
    pub transitive : (s : S) (a b c : V) → o.is s a ≡ true → o.is s b ≡ true → o.is s c ≡ true → o.leq a b ≡ true → o.leq b c ≡ true → o.leq a c ≡ true
    -- a range's ends are values of its sort, the lower not above the upper
    pub ends : (r : R) → fair (o.is (o.sort r)) o.leq (o.lower r) (o.upper r) ≡ true
    -- every such pair of ends makes a range, and no other does
    pub makes : (s : S) (l u : Option V) → fair (o.is s) o.leq l u ≡ true → (r : R) × Made s l u r
    pub refuses : (s : S) (l u : Option V) → fair (o.is s) o.leq l u ≡ false → o.make s l u ≡ None

  -- the least value of the sort above a; none only if none is
  abbrev pub Next : S → V → Option V → Type 0
  Next s = NextBy (o.is s) o.leq

  -- the greatest value of the sort below a; none only if none is
  abbrev pub Previous : S → V → Option V → Type 0
  Previous s = NextBy (o.is s) (λ a b. o.leq b a)

  -- the values of the range are n: `at` lists them, rising, each once
  pub record Numbered (r : R) (n : ℕ) : Type 0 where
    pub at : ℕ → V
    pub held : (k : ℕ) → k < n → Within o r (at k)
    pub rises : (j k : ℕ) → j < k → k < n → o.leq (at k) (at j) ≡ false
    pub all : (v : V) → Within o r v → (k : ℕ) × (k < n) × (at k ≡ v)

  -- the number of values, where both ends are values and it is at most 2^53
  abbrev pub Counted : R → Option ℕ → Type 0
  Counted r None = (o.lower r ≡ None) ⊎ ((o.upper r ≡ None) ⊎ ((n : ℕ) × Numbered r n × (2 ^ 53 < n)))
  Counted r (Some n) = Numbered r n × (n ≤ 2 ^ 53) × (is_some (o.lower r) ≡ true) × (is_some (o.upper r) ≡ true)

pub record Laws {V R S L : Type 0} (o : Order V R S) (m : Operations V R S L) : Type 0 where
  -- a result has the sort that results; where the sorts do not fit there is none
  pub applied : (op : Arithmetic) (s t : S) (a b c : V) → o.is s a ≡ true → o.is t b ≡ true → m.apply op a b ≡ Some c → (u : S) × (m.fits op s t ≡ Some u) × (o.is u c ≡ true)
  -- negation keeps the sort and undoes itself
  pub negated : (s : S) (a b : V) → o.is s a ≡ true → m.negate a ≡ Some b → (m.negates s ≡ true) × (o.is s b ≡ true) × (m.negate b ≡ Some a)
  -- forward gives a range of the sort that results; it holds every result, and is one value on one-value ranges with a result
  pub forward_sort : (op : Arithmetic) (l r : R) (s : S) → m.fits op (o.sort l) (o.sort r) ≡ Some s → o.sort (m.forward op l r) ≡ s
  pub forward : (op : Arithmetic) (l r : R) → Covers (Within o) (One o) (of_two (m.apply op)) (l ∷ r ∷ []) (m.forward op l r)
  pub negate_sort : (r : R) → m.negates (o.sort r) ≡ true → o.sort (m.arithmetic_negate r) ≡ o.sort r
  pub negate : (r : R) → Covers (Within o) (One o) (of_one m.negate) (r ∷ []) (m.arithmetic_negate r)
  -- backward answers a pair within the children that keeps every two values whose result is in the parent, and none only if there are no such two
  pub backward : (op : Arithmetic) (p l r : R) → Narrows (Within o) (Inside o) (Yields (Within o) (of_two (m.apply op)) p) (l ∷ r ∷ []) (option_map both (m.backward op p l r))
  pub nexts : (s : S) (a : V) → o.is s a ≡ true → Next o s a (m.next a)
  pub previouses : (s : S) (a : V) → o.is s a ≡ true → Previous o s a (m.previous a)
  pub counts : (r : R) → Counted o r (m.count r)
  -- an admitted literal is a value of a sort
  pub admits : (l : L) (v : V) → m.admit l ≡ Some v → (s : S) × (o.is s v ≡ true)
